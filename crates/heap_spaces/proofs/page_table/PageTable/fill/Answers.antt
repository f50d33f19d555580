use Rattle.std.proofs.Common.{rules, refl, ◌==◌, ◌≡◌, ◌≢◌, ◌⊎◌, ℕ, ◌/◌, List, [], ◌∷◌, length, map, get_or, ap, sym, subst, ◌∙◌, arith, vec_len}
use Rattle.std.proofs.lemmas.Bool.{false≢true}
use Rattle.std.proofs.lemmas.Map.Views.{exact_unsigned_eq}
use Rattle.heap_spaces.specs.PageTable.{AreGroups, HasRoom, PageNumbers, numbers_in, rooms_of}
use Rattle.heap_spaces.proofs.GroupLaws.{filled, group-at, group-below, items, room-of}
use Rattle.heap_spaces.proofs.TableLaws.{fill-grows, fill-groups, fill-numbers, fill-only, fill-room, group-full}
use Rattle.heap_spaces.proofs.page_table.PageTable.fill.Goals as goal

empty_of : (l : List ℕ) → length l ≡ 0 → l ≡ []
empty_of [] e = refl
empty_of (n ∷ ns) e = absurd (omega (arith, e))

pub invariant_of-self : goal.invariant_of-self
invariant_of-self c =
    let all = c.self.inside.groups.items in
    let k = c.args.group in
    let there = group-below all c.args.self.now k c.self.view_is c.requires in
    subst AreGroups (sym (filled all k c.in_ok-self-inside.field-0 (search rules))) (fill-groups (map items all) k c.self.invariant there.1)

pub returns-in_ok-self-inside-clause-room : goal.returns-in_ok-self-inside-clause-room
returns-in_ok-self-inside-clause-room c p here =
    let all = c.self.inside.groups.items in
    let k = c.args.group in
    let there = group-below all c.args.self.now k c.self.view_is c.requires in
    subst (λ (gs : List (List ℕ)). HasRoom (rooms_of gs) p) (sym (filled all k c.in_ok-self-inside.field-0 (search rules))) (fill-room (map items all) k p there.1 here)

pub returns-in_ok-self-inside-clause-grows : goal.returns-in_ok-self-inside-clause-grows
returns-in_ok-self-inside-clause-grows c p room =
    let all = c.self.inside.groups.items in
    let k = c.args.group in
    let there = group-below all c.args.self.now k c.self.view_is c.requires in
    let before : HasRoom (rooms_of (map items all)) p = subst (λ (s : PageNumbers). HasRoom s.room p) (sym c.self.view_is) room in
    subst (λ (gs : List (List ℕ)). HasRoom (rooms_of gs) p) (sym (filled all k c.in_ok-self-inside.field-0 (search rules))) (fill-grows (map items all) k p there.1 before)

pub returns-in_ok-self-inside-clause-only : goal.returns-in_ok-self-inside-clause-only
returns-in_ok-self-inside-clause-only c p room =
    let all = c.self.inside.groups.items in
    let k = c.args.group in
    let there = group-below all c.args.self.now k c.self.view_is c.requires in
    let after = subst (λ (gs : List (List ℕ)). HasRoom (rooms_of gs) p) (filled all k c.in_ok-self-inside.field-0 (search rules)) room in
    subst (λ (s : PageNumbers). HasRoom s.room p ⊎ (p / 64 ≡ k)) c.self.view_is (fill-only (map items all) k p there.1 after)

pub returns-in_ok-self-inside-clause-same : goal.returns-in_ok-self-inside-clause-same
returns-in_ok-self-inside-clause-same c p =
    let all = c.self.inside.groups.items in
    let k = c.args.group in
    let there = group-below all c.args.self.now k c.self.view_is c.requires in
    let here = group-at all k c.index.result.now there.0 c.index.ensures in
    let zero : vec_len c.index.result.now ≡ 0 = exact_unsigned_eq (vec_len c.index.result.now) 0 (sym c.is_empty.ensures ∙ c.if-is_empty.true) in
    let none : get_or (map items all) k [] ≡ [] = here ∙ empty_of c.index.result.now.items (omega (arith, zero)) in
    ap (λ (gs : List (List ℕ)). get_or (numbers_in gs) p 0) (filled all k c.in_ok-self-inside.field-0 (search rules))
    ∙ fill-numbers (map items all) k c.self.invariant there.1 none p
    ∙ ap (λ (s : PageNumbers). get_or s.numbers p 0) c.self.view_is

pub returns-else-is_empty-clause-room : goal.returns-else-is_empty-clause-room
returns-else-is_empty-clause-room c p here =
    let all = c.self.inside.groups.items in
    let k = c.args.group in
    let table = c.args.self.now in
    let is = group-at all k c.index.result.now (group-below all table k c.self.view_is c.requires).0 c.index.ensures in
    let some : length (get_or (map items all) k []) ≢ 0 = λ none.
    let few : length c.index.result.now.items ≡ 0 = ap (length {A = ℕ}) (sym is) ∙ none in
    let zero : vec_len c.index.result.now ≡ 0 = omega (arith, few) in
    false≢true (sym (sym c.is_empty.ensures ∙ c.if-is_empty.false) ∙ ap (λ n. n == 0) zero)
    in
    let full = group-full (get_or (map items all) k []) (c.self.invariant.each k) some in
    let room : get_or table.room (p / 64) 0 ≡ 64 = ap (λ n. get_or table.room n 0) here ∙ room-of all table k c.self.view_is ∙ full in
    omega (arith, room)
