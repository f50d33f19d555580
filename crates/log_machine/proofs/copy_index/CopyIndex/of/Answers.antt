use Rattle.std.proofs.Common.{◌≡◌, ◌+◌, ◌-◌, ◌<◌, ℕ, length, drop, get_or, refl, subst, arith}
use Rattle.std.proofs.lemmas.Option.{slice_get-get_or}
use Rattle.log_machine.specs.CopyIndex.{AreIndexed}
use Rattle.log_machine.proofs.IndexLaws.{indexed_none, indexed_more}
use Rattle.log_machine.proofs.copy_index.CopyIndex.of.Goals as goal

pub loop-place-init : goal.loop-place-init
loop-place-init c = record { within = omega arith; indexed = indexed_none c.args.copies.now c.new-places.result.entries (length c.args.copies.now) c.new-places.ensures.empty refl }

pub loop-place-preserved : goal.loop-place-preserved
loop-place-preserved c =
    let all = c.args.copies.now in
    let place = c.loop-place.place - 1 in
    let within : place < length all = omega arith in
    let here : c.loop-place.place ≡ place + 1 = omega arith in
    let rest : AreIndexed all (drop (place + 1) all) c.loop-place.places.entries = subst (λ (n : ℕ). AreIndexed all (drop n all) c.loop-place.places.entries) here c.loop-place.invariant.indexed in
    record {
      within = omega arith;
      indexed = indexed_more all c.loop-place.places.entries c.insert.new.self.entries place (get_or all place c.index-copies-place.result) (slice_get-get_or all place c.index-copies-place.result within) rest c.in_ok-insert.ensures.updates.0;
    }
