-- Births after a promotion: what stands keeps its own, and what is promoted has those that it had in the area.
use Rattle.std.proofs.Common.{◌≡◌, ℕ, ◌+◌, List, ◌++◌, Some, sym, ap, ◌∙◌, subst, arith}
use Rattle.std.specs.Prelude.{Contains}
use Rattle.std.specs.FinSet.{contains}
use Rattle.heap_words.specs.Header.{header}
use Rattle.graph_model.specs.declared.id.Id.{Id}
use Rattle.log_machine.specs.Collecting.{other_base}
use Rattle.log_machine.proofs.ListLaws.{AllByRecursion-append, AllByRecursion-behind, AllByRecursion-front}
use Rattle.object_layout.specs.Layout.{birth_at, id_at, id_of}
use Rattle.graph_words.specs.Places.{addresses}
use Rattle.graph_words.specs.Promotion.{Move}
use Rattle.graph_words.specs.Stands.{AreNamedByBirth}
use Rattle.graph_words.proofs.Places.Moves.{moved_of}
use Rattle.graph_words.proofs.Seal.Stands.{all_of_map}
use Rattle.graph_words.proofs.Stands.TakenBack.{renamed}
use Rattle.collection_words.proofs.Laid.Old.{collection_within, old_within}
use Rattle.collection_words.proofs.Laid.Sources.{left_object}
use Rattle.collection_words.proofs.Laid.Within.{start_within}
use Rattle.collection_words.proofs.Laid.Write.{old_ends_same}
use Rattle.walk_laws.specs.Births.{HasOriginals}
use Rattle.walk_laws.specs.Heap.{TellsBirths}
use Rattle.walk_laws.proofs.Birth.Born.{olds_once}
use Rattle.walk_laws.proofs.Birth.TakenBack.{forward_one}
use Rattle.seal_laws.proofs.Based.{based_object}
use Rattle.seal_laws.proofs.Laid.{kept_here, kept_left, kept_old, old_each}
use Rattle.seal_laws.proofs.Promoting.{IsPromoting, Promoting, behind, currents, fits_here, here, moves_here, next, placed_here}

-- Names.

-- a current object keeps its birth
here_birth : (p : Promoting) → IsPromoting p → (at : ℕ) → Contains (addresses p.places) at → birth_at (behind p) at ≡ birth_at p.words at
here_birth p is at has =
    let object = start_within is.is.laid at has in
    (kept_here p is at object.fields has object.object).birth

-- so does one that remains
left_birth : (p : Promoting) → IsPromoting p → (at : ℕ) → Contains (addresses p.remaining) at → birth_at (behind p) at ≡ birth_at p.words at
left_birth p is at has =
    let object = left_object is.is.from at has in
    (kept_left p is at object.fields has object.object).birth

-- one that is promoted has the name that its birth in the area gives
new_name : (p : Promoting) → IsPromoting p → (m : Move) → Contains (moves_here p) m → id_at (behind p) m.1 ≡ id_at p.area.words m.0
new_name p is m has =
    let goes = moved_of p.area p.starts (here p) m is.are.distinct has in
    ap id_of (based_object is.are (here p) p.words (fits_here p is) m.0 m.1 goes.0 goes.1).birth_word

promoted_names : (p : Promoting) → IsPromoting p → AreNamedByBirth (p.places ++ p.remaining) p.words → AreNamedByBirth (currents p ++ p.remaining) (behind p)
promoted_names p is names =
    let Was : Id × ℕ → Type 0 = λ q. id_at p.words q.1 ≡ q.0 in
    let Named : Id × ℕ → Type 0 = λ q. id_at (behind p) q.1 ≡ q.0 in
    let old = renamed p.places p.words (behind p) (here_birth p is) (AllByRecursion-front Was p.places p.remaining names) in
    let left = renamed p.remaining p.words (behind p) (left_birth p is) (AllByRecursion-behind Was p.places p.remaining names) in
    let new = all_of_map Named (λ (m : Move). (id_at p.area.words m.0, m.1)) (moves_here p) (λ m has. new_name p is m has) in
    AllByRecursion-append Named (currents p) p.remaining (AllByRecursion-append Named p.places (placed_here p) old new) left

-- The from-space's births.

promoted_originals : (p : Promoting) → IsPromoting p → HasOriginals p.s p.words (Some p.k) → HasOriginals (next p) (behind p) (Some p.k)
promoted_originals p is (olds, ends, told) =
    let from = other_base p.s in
    let stop = other_base p.s + p.k.used in
    let space = (collection_within is.is).used in
    let same = olds_once p.words from olds is.is.from.starts stop ends is.is.from.chain in
    let start : (at : ℕ) → Contains olds at → Contains is.is.from.starts at = λ at has. subst (λ (xs : List ℕ). Contains xs at) same has in
    let birth : (at : ℕ) → Contains olds at → birth_at (behind p) at ≡ birth_at p.words at = λ at has.
    let lies = old_within p.words from olds stop at ends has in
    let above = lies.above in
    let below = lies.below in
    kept_old p is (at + 1) (omega arith) (omega arith) in (
      olds,
      old_ends_same p.words (behind p) from olds stop (λ at has. (old_each p is at (start at has)).1) ends,
      record {
        own_births = λ a b one other equal. told.own_births a b one other (sym (birth a one) ∙ equal ∙ birth b other);
        kept = λ at to has leads.
            let lies = old_within p.words from olds stop at ends has in
            let above = lies.above in
            let below = lies.below in
            let leads_before = sym (ap header (kept_old p is at above (omega arith))) ∙ leads in
            let current = forward_one p.words (addresses p.places) at to (contains p.k.moved at) leads_before (is.is.from.forwarded at (start at has)) in
            here_birth p is to current ∙ told.kept at to has leads_before ∙ sym (birth at has);
        moved = told.moved;
      },
    )

-- A promotion keeps what births say.
pub promoted_births : (p : Promoting) → IsPromoting p → TellsBirths p.s p.places p.remaining p.words → TellsBirths (next p) (currents p) p.remaining (behind p)
promoted_births p is tells = record {
  names = promoted_names p is tells.names;
  originals = subst (HasOriginals (next p) (behind p)) (sym is.is.run) (promoted_originals p is (subst (HasOriginals p.s p.words) is.is.run tells.originals));
}
