use Rattle.std.proofs.Common.{◌≡◌, ◌<◌, ◌++◌, ◌^◌, ℕ, List, [], ◌∷◌, length, length-append, map, get_or, ap, sym, subst, ◌∙◌, arith}
use Rattle.std.proofs.lemmas.List.{map-append, length-map}
use Rattle.heap_spaces.specs.PageTable.{AreGroups, numbers_in, rooms_of}
use Rattle.heap_spaces.proofs.GroupLaws.{items}
use Rattle.heap_spaces.proofs.TableLaws.{push-groups, push-numbers, push-rooms}
use Rattle.heap_spaces.proofs.page_table.PageTable.grow_to.Goals as goal

pub invariant_of-self-in_err-push : goal.invariant_of-self-in_err-push
invariant_of-self-in_err-push c = subst AreGroups (ap (map items) (sym c.in_err-push.ensures.items)) c.loop-g.invariant.sound

pub loop-g-preserved : goal.loop-g-preserved
loop-g-preserved c =
    let so_far = c.loop-g.invariant in
    let all = c.loop-g.self-inside.groups.items in
    let pushed = c.in_ok-push.ensures.items in
    let more : map items c.push.new.self.items ≡ map items all ++ [] ∷ [] = ap (map items) pushed ∙ map-append items all (c.new.result ∷ []) ∙ ap (λ (g : List ℕ). map items all ++ g ∷ []) c.new.ensures.items in
    let size = length-map all items in
    let few : length (map items all) < 2 ^ 20 = omega (arith, size, so_far.passed, c.loop-g-test.true, c.requires, c.loop-g.auto.g-end) in
    record {
      sound = subst AreGroups (sym more) (push-groups (map items all) so_far.sound few);
      room = λ k. ap (λ (gs : List (List ℕ)). get_or (rooms_of gs) k 0) more ∙ push-rooms (map items all) k ∙ so_far.room k;
      same = λ p. ap (λ (gs : List (List ℕ)). get_or (numbers_in gs) p 0) more ∙ push-numbers (map items all) so_far.sound few p ∙ so_far.same p;
      passed = omega (arith, ap length pushed ∙ length-append all (c.new.result ∷ []), so_far.passed);
    }
