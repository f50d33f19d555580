-- The scan of a page, and the end of a collection, keep births.
use Rattle.std.proofs.Common.{◌≡◌, ℕ, ◌≤◌, List, [], ◌∷◌, ◌++◌, None, Some, refl, sym, ap, ◌∙◌, subst}
use Rattle.std.specs.Prelude.{slice_set}
use Rattle.std.specs.List.{AllByRecursion}
use Rattle.std.proofs.lemmas.List.{append-nil}
use Rattle.heap_spaces.specs.Collection.{Collection}
use Rattle.heap_spaces.specs.Copying.{with_scanned}
use Rattle.object_layout.specs.Layout.{id_at}
use Rattle.log_machine.specs.declared.UndoEntry.{UndoEntry}
use Rattle.log_machine.specs.Machine.{State, put_all, taken_back, words_in}
use Rattle.log_machine.specs.UndoEntry.{undo_entry}
use Rattle.graph_words.specs.Places.{Places}
use Rattle.graph_words.specs.Stands.{AreNamedByBirth}
use Rattle.collection_words.specs.LaidOut.{IsUnderway}
use Rattle.collection_words.specs.Writes.{AreBacked, IsScanWrite}
use Rattle.collection_words.proofs.Laid.Sources.{IsCollecting}
use Rattle.collection_words.proofs.Laid.Underway.{underway}
use Rattle.collection_words.proofs.Steps.Scan.{scan_here}
use Rattle.walk_laws.specs.Births.{HasOriginals}
use Rattle.walk_laws.specs.Heap.{AreSpaces, TellsBirths}
use Rattle.walk_laws.proofs.Birth.TakenBack.{births_back}

-- The writes of a scan, as writes that are taken back.

abbrev scan_entries : (s : State) (places remaining : Places) (words : List ℕ) (writes : List (ℕ × ℕ)) → AllByRecursion (IsScanWrite s places remaining words) writes → List UndoEntry
scan_entries s places remaining words [] all = []
scan_entries s places remaining words (w ∷ ws) all = undo_entry all.0.object all.0.field w.1 ∷ scan_entries s places remaining words ws all.1

entries_put : (s : State) (places remaining : Places) (words : List ℕ) (writes : List (ℕ × ℕ)) (all : AllByRecursion (IsScanWrite s places remaining words) writes) (now : List ℕ)
    → put_all now writes ≡ taken_back (scan_entries s places remaining words writes all) now
entries_put s places remaining words [] all now = refl
entries_put s places remaining words (w ∷ ws) all now =
    entries_put s places remaining words ws all.1 (slice_set now w.0 w.1) ∙ ap (λ (x : ℕ). taken_back (scan_entries s places remaining words ws all.1) (slice_set now x w.1)) all.0.at

entries_backed : {s : State} {k : Collection} {places remaining : Places} {words : List ℕ} (writes : List (ℕ × ℕ)) (all : AllByRecursion (IsScanWrite s places remaining words) writes) → IsCollecting s k places remaining words
    → words_in s.pages ≤ 2097152 → AreBacked places words (scan_entries s places remaining words writes all)
entries_backed [] all is small = tt
entries_backed (w ∷ ws) all is small = (scan_here is small w all.0, entries_backed ws all.1 is small)

-- Births.

scanned_originals : (s : State) (k : Collection) (page : ℕ) (words : List ℕ) → HasOriginals s words (Some k) → HasOriginals (record s { collection = Some (with_scanned k page) }) words (Some (with_scanned k page))
scanned_originals s k page words (olds, ends, told) = (olds, ends, record { own_births = told.own_births; kept = told.kept; moved = told.moved })

-- A scan keeps them.
pub scan_births : {s : State} {k : Collection} {places remaining : Places} {words : List ℕ} → IsUnderway s k places remaining words → (page : ℕ) (writes : List (ℕ × ℕ)) → AllByRecursion (IsScanWrite s places remaining words) writes
    → TellsBirths s places remaining words → TellsBirths (record s { collection = Some (with_scanned k page) }) places remaining (put_all words writes)
scan_births {s} {k} {places} {remaining} {words} is page writes all tells =
    let us = scan_entries s places remaining words writes all in
    let spaces : AreSpaces s words = record { spaced = is.spaced; long = is.long; small = is.small } in
    let back = births_back s places remaining words us spaces is.laid (entries_backed writes all (underway is) is.small) tells in
    let behind = subst (λ (ws : List ℕ). TellsBirths s places remaining ws) (sym (entries_put s places remaining words writes all words)) back in
    record { names = behind.names; originals = scanned_originals s k page (put_all words writes) (subst (HasOriginals s (put_all words writes)) is.run behind.originals) }

pub first_all : {X : Type 0} (P : X → Type 0) (xs ys : List X) → AllByRecursion P (xs ++ ys) → AllByRecursion P xs
first_all P [] ys all = tt
first_all P (x ∷ xs) ys all = (all.0, first_all P xs ys all.1)

-- The end of a collection keeps those of current objects.
pub ended_births : (s : State) (places remaining : Places) (words : List ℕ) → TellsBirths s places remaining words → TellsBirths (record s { collection = None }) places [] words
ended_births s places remaining words tells = record {
  names = subst (λ (ps : Places). AreNamedByBirth ps words) (sym (append-nil places)) (first_all (λ p. id_at words p.1 ≡ p.0) places remaining tells.names);
  originals = tt;
}
