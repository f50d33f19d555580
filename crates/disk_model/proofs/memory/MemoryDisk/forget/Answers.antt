use Rattle.std.proofs.Common.{◌≡◌, ℕ, [], List, map, drop, sym, ap, subst, refl, arith, rules, ◌∙◌}
use Rattle.disk_model.specs.Memory.{is_within, Memory, Change, begun_anew, now_of}
use Rattle.disk_model.specs.Range.{range_of}
use Rattle.disk_model.specs.Record.{change_of, view_of}
use Rattle.disk_model.proofs.Images.{same_images}
use Rattle.disk_model.proofs.Kept.{pending_none}
use Rattle.disk_model.proofs.Calls.{only_made}
use Rattle.disk_model.proofs.Change.{kept_made}
use Rattle.disk_model.proofs.memory.MemoryDisk.forget.Goals as goal

pub invariant_of-self : goal.invariant_of-self
invariant_of-self c =
    let none : map range_of (drop c.self.inside.pending_from c.self.inside.calls.items) ≡ [] = pending_none c.self.inside.pending_from c.self.inside.calls.items (search rules) in
    let synced : c.self.inside.synced.items ≡ c.self.inside.newest.items = same_images c.self.inside.synced.items c.self.inside.newest.items c.self.invariant.size (λ k. c.self.invariant.tied k (ap (λ rs. is_within rs k) none)) in
    kept_made _ c.self.inside.newest.items (search rules) refl synced (search rules) (search rules) refl refl (omega (arith, c.self.invariant.whole_pool)) (omega (arith, c.self.invariant.whole_calls))

pub returns-clause-same : goal.returns-clause-same
returns-clause-same c = sym (invariant_of-self c).newest ∙ c.self.invariant.newest ∙ ap (λ (d : Memory). (now_of d).newest) c.self.view_is

pub returns-clause-only : goal.returns-clause-only
returns-clause-only c =
    let none : map range_of (drop c.self.inside.pending_from c.self.inside.calls.items) ≡ [] = pending_none c.self.inside.pending_from c.self.inside.calls.items (search rules) in
    λ yes. only_made (now_of c.args.self.now) (now_of c.args.self.now).newest _ refl (c.self.invariant.pending ∙ ap (λ (d : Memory). (now_of d).pending) c.self.view_is) none

pub returns-clause-anew : goal.returns-clause-anew
returns-clause-anew c =
    let inside = c.self.inside in
    let bytes : c.of.result.value.items ≡ inside.newest.items = search rules in
    let none : map (change_of c.clear-2.new.self.items) c.clear.new.self.items ≡ [] = ap (map (change_of c.clear-2.new.self.items)) c.clear.ensures.items in
    λ _.
    ap (λ (first : List ℕ). record (view_of inside) { first = first; changes = map (change_of c.clear-2.new.self.items) c.clear.new.self.items; room = inside.whole }) (bytes ∙ c.self.invariant.newest)
    ∙ ap (λ (changes : List Change). record (view_of inside) { first = (now_of (view_of inside)).newest; changes = changes; room = inside.whole }) none
    ∙ ap begun_anew c.self.view_is
