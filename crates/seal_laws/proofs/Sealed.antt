-- A graph that stands in the completed words after a seal of these stands in those after the seal of the words.
use Rattle.std.proofs.Common.{◌≡◌, ℕ, ◌+◌, inl, inr, List, ◌++◌, map, Some, sym, ap, ◌∙◌, subst, arith}
use Rattle.std.specs.Prelude.{fold}
use Rattle.std.proofs.lemmas.List.Sums.{fold-append}
use Rattle.graph_model.specs.Graph.{Graph, root}
use Rattle.log_machine.specs.declared.UndoEntry.{UndoEntry}
use Rattle.log_machine.specs.Machine.{owed, put_record, taken_back}
use Rattle.log_machine.proofs.ListLaws.{AllByRecursion-append}
use Rattle.log_machine.proofs.StateLaws.{spaced_more}
use Rattle.graph_words.specs.Places.{address_of, addresses, index_of}
use Rattle.graph_words.specs.Promotion.{Field, base_of}
use Rattle.graph_words.specs.Stands.{Stands}
use Rattle.graph_words.proofs.Places.Addresses.{none_or_some}
use Rattle.graph_words.proofs.Places.Moves.{moved_to}
use Rattle.graph_words.proofs.Promotion.Fix.{fixes}
use Rattle.graph_words.proofs.Seal.Places.{address_of-append_left, address_of-append_right}
use Rattle.std.proofs.lemmas.Option.{same_Some}
use Rattle.collection_words.specs.Completed.{StandsCompleted, completed, future}
use Rattle.collection_words.specs.Writes.{AreBacked}
use Rattle.collection_words.proofs.Copy.Stands.{completed_names, root_current}
use Rattle.collection_words.proofs.Laid.Filled.{filling}
use Rattle.collection_words.proofs.Laid.Sources.{IsCollecting}
use Rattle.collection_words.proofs.Laid.TakenBack.{completed_taken_back, taken_back-append}
use Rattle.collection_words.proofs.Laid.Within.{start_within}
use Rattle.collection_words.proofs.Relocated.Stands.{relocated_stands}
use Rattle.collection_words.proofs.Relocated.Writes.{IsRelocation, relocated_taken_back}
use Rattle.walk_laws.specs.Heap.{TellsBirths}
use Rattle.walk_laws.proofs.Birth.TakenBack.{births_back}
use Rattle.seal_laws.proofs.Births.{promoted_births}
use Rattle.seal_laws.proofs.Fixed.{AreFixed, backed_behind, backed_led, backed_still, backed_whole, fix_entries, fixed_backed, fixed_entries, fixed_fields, put_entries}
use Rattle.seal_laws.proofs.Laid.{promoted_laid}
use Rattle.seal_laws.proofs.Promoting.{IsPromoting, Promoting, all_behind, all_there, alls, behind, currents, moves_here, moves_there, need, next, own_behind_all, placed_there, promoted_at, there, whole, whole_behind, whole_there}
use Rattle.seal_laws.proofs.Relocated.{promotion_relocates}

-- A promotion, and the fields that it puts right by the words that its transaction sees.
module _ (p : Promoting) (is : IsPromoting p) (seen : List ℕ) (fs : List Field) (fixed : AreFixed p seen fs) where
  -- the writes of the fields
  abbrev entries : List UndoEntry
  entries = fix_entries seen (moves_here p) fs

  abbrev entries_there : List UndoEntry
  entries_there = fix_entries seen (moves_there p) fs

  -- the words after all records
  abbrev pub final : List ℕ
  final = taken_back entries (behind p)

  abbrev pub final_there : List ℕ
  final_there = taken_back entries_there (whole_there p)

  -- They are laid out.
  pub final_laid : IsCollecting (next p) p.k (currents p) p.remaining final
  final_laid = (completed_taken_back entries (promoted_laid p is) (fixed_backed p is seen fs fixed)).is

  pub final_backed : (us : List UndoEntry) → AreBacked p.places p.words us → AreBacked (currents p) final us
  final_backed us backed = backed_behind entries (promoted_laid p is) (fixed_backed p is seen fs fixed) us (backed_still p is us backed)

  -- Births are known after them.
  pub final_births : TellsBirths p.s p.places p.remaining p.words → TellsBirths (next p) (currents p) p.remaining final
  final_births tells =
      let laid = promoted_laid p is in
      births_back (next p) (currents p) p.remaining (behind p) entries (record { spaced = laid.spaced; long = laid.long; small = is.small }) laid.laid (fixed_backed p is seen fs fixed)
      (promoted_births p is tells)

  final_whole : (us : List UndoEntry) → taken_back us (completed (next p) (currents p) p.remaining final) ≡ taken_back (entries ++ us) (whole_behind p)
  final_whole us =
      ap (taken_back us) (completed_taken_back entries (promoted_laid p is) (fixed_backed p is seen fs fixed)).same ∙ sym (taken_back-append entries us (whole_behind p))

  final_future : future (next p) final p.remaining ≡ future (next p) (behind p) p.remaining
  final_future = (completed_taken_back entries (promoted_laid p is) (fixed_backed p is seen fs fixed)).future

  -- The objects of the completed words are relocated, also when writes are taken back.
  pub final_relocates : (us : List UndoEntry) → AreBacked p.places p.words us
      → IsRelocation (all_there p) (currents p ++ future (next p) final p.remaining) (taken_back us final_there) (taken_back us (completed (next p) (currents p) p.remaining final))
      p.s.base (there p + need p) p.s.base (p.s.base + ((next p).used + owed (next p)))
  final_relocates us backed =
      let end = there p + need p in
      let stop = p.s.base + ((next p).used + owed (next p)) in
      let moves = relocated_taken_back (entries_there ++ us) (entries ++ us) (promotion_relocates p is) (fixed_entries p is seen fs fixed us us (backed_led p is us backed))
      (AllByRecursion-append _ entries_there us (fixed_fields p is seen fs fixed) (backed_whole p is us backed)) in
      subst (λ ps. IsRelocation (all_there p) (currents p ++ ps) (taken_back us final_there) (taken_back us (completed (next p) (currents p) p.remaining final)) p.s.base end p.s.base stop) (sym final_future)
      (subst (λ ws. IsRelocation (all_there p) (all_behind p) ws (taken_back us (completed (next p) (currents p) p.remaining final)) p.s.base end p.s.base stop) (taken_back-append entries_there us (whole_there p))
      (subst (λ ws. IsRelocation (all_there p) (all_behind p) (taken_back (entries_there ++ us) (whole_there p)) ws p.s.base end p.s.base stop) (sym (final_whole us)) moves))

  root_old : address_of (all_there p) root ≡ Some p.s.base → address_of (alls p) root ≡ Some p.s.base
  root_old stands = elim (none_or_some (address_of (alls p) root)) [
    | inl none ↦
        let one = promoted_at p is (there p) root p.s.base (sym (address_of-append_right (alls p) (placed_there p) root none) ∙ stands) in
        let goes = moved_to p.area p.starts (there p) (index_of p.g root) one.has in
        let above = goes.1.above in
        let same = same_Some goes.0 p.s.base (sym goes.1.is ∙ one.goes) in
        let within = start_within is.is.laid p.s.base (filling p.words p.s.base p.s.used (addresses p.places) is.is.laid.filled).first in
        let close = within.below in absurd (omega arith)
    | inr old ↦ old.1 ∙ sym (address_of-append_left (alls p) (placed_there p) root old.0 old.1) ∙ stands
  ]

  -- So a graph that stands in the former stands in the latter.
  pub final_stands : (us : List UndoEntry) (t made : ℕ) (g : Graph) → AreBacked p.places p.words us
      → Stands t made (all_there p) g (taken_back us final_there) p.s.base ((p.s.used + owed p.s) + need p) → StandsCompleted t made (currents p) p.remaining g us final (next p)
  final_stands us t made g backed stands =
      let moves = final_relocates us backed in
      let room = is.room in
      let more = spaced_more p.s (need p + owed p.s) is.is.spaced (omega arith) in
      let small = is.small in
      let old = root_current is.is.laid (root_old stands.root_place) in
      relocated_stands (currents p ++ future (next p) final p.remaining) (taken_back us (completed (next p) (currents p) p.remaining final)) p.s.base ((next p).used + owed (next p)) stands
      (record {
        below = omega arith;
        ends = moves.there;
        root_place = address_of-append_left (currents p) (future (next p) final p.remaining) root p.s.base (address_of-append_left p.places _ root p.s.base old);
        names = completed_names final_laid.laid (own_behind_all p is);
      }) moves.is

  -- The records.
  -- the words after the records of the objects and of the fields
  pub final_put : fold put_record p.words (map (base_of p.area (moves_here p)) (moves_here p) ++ fixes p.t seen (moves_here p) fs) ≡ final
  final_put = fold-append put_record p.words (map (base_of p.area (moves_here p)) (moves_here p)) (fixes p.t seen (moves_here p) fs) ∙ put_entries p.t seen (behind p) (moves_here p) fs

  pub final_put_there : fold put_record (whole p) (map (base_of p.area (moves_there p)) (moves_there p) ++ fixes p.t seen (moves_there p) fs) ≡ final_there
  final_put_there = fold-append put_record (whole p) (map (base_of p.area (moves_there p)) (moves_there p)) (fixes p.t seen (moves_there p) fs) ∙ put_entries p.t seen (whole_there p) (moves_there p) fs
