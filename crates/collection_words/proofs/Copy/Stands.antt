-- A graph that stands in the completed words stands there after a copy.
use Rattle.std.proofs.Common.{◌≡◌, ℕ, ◌+◌, ◌≤◌, inl, inr, List, [], ◌∷◌, ◌++◌, Some, sym, ◌∙◌, subst, arith}
use Rattle.std.specs.List.{AllByRecursion}
use Rattle.heap_spaces.specs.Collection.{Collection}
use Rattle.graph_model.specs.Graph.{Graph, root}
use Rattle.graph_model.specs.declared.id.Id.{Id}
use Rattle.log_machine.specs.declared.UndoEntry.{UndoEntry}
use Rattle.log_machine.specs.Machine.{State, owed, taken_back, words_in}
use Rattle.graph_words.specs.Places.{Places, address_of, addresses}
use Rattle.graph_words.proofs.Places.Addresses.{none_or_some}
use Rattle.graph_words.proofs.Seal.Places.{address_of-append_left, address_of-append_right}
use Rattle.collection_words.specs.Completed.{StandsCompleted, completed, future, without}
use Rattle.collection_words.specs.Copying.{words_after_copy, with_place}
use Rattle.collection_words.specs.LaidOut.{IsLaidOut}
use Rattle.collection_words.specs.Writes.{AreBacked}
use Rattle.collection_words.specs.Placed.{HaveOwnNames}
use Rattle.collection_words.proofs.Copy.Laid.{copied_laid, copied_state, copied_total}
use Rattle.collection_words.proofs.Copy.Named.{own_front}
use Rattle.collection_words.proofs.Copy.Relocated.{copied_own, copy_relocates}
use Rattle.collection_words.proofs.Copy.Words.{IsCopying}
use Rattle.collection_words.proofs.Laid.Completed.{completed_ends}
use Rattle.collection_words.proofs.Laid.Filled.{filling}
use Rattle.collection_words.proofs.Laid.Names.{names_own, own_names, own_put, put_own}
use Rattle.collection_words.proofs.Laid.Sources.{IsCollecting, all_places}
use Rattle.collection_words.proofs.Laid.Within.{start_within}
use Rattle.collection_words.proofs.Moves.Ends.{move_within}
use Rattle.collection_words.proofs.Moves.Sources.{put_source}
use Rattle.collection_words.proofs.Relocated.Entries.{backed_entries, backed_fields}
use Rattle.collection_words.proofs.Relocated.Stands.{relocated_stands}
use Rattle.collection_words.proofs.Relocated.Writes.{IsRelocation, relocated_taken_back}

-- where a graph stands in the completed words, no two objects have one name
pub completed_own : {s : State} {k : Collection} {places remaining : Places} {words : List ℕ} {t made : ℕ} {g : Graph} (us : List UndoEntry) → IsCollecting s k places remaining words
    → StandsCompleted t made places remaining g us words s → HaveOwnNames (places ++ remaining)
completed_own {s} {places = places} {remaining = remaining} {words = words} us is stands =
    let P = places ++ future s words remaining in
    let own = own_names P (completed s places remaining words) s.base P (s.base + (s.used + owed s)) (completed_ends is) stands.names in
    put_own words (places ++ remaining) s.base (subst HaveOwnNames (all_places is.laid) own)

-- and the other way round, each stands at its own place
pub completed_names : {s : State} {places remaining : Places} {words : List ℕ} → IsLaidOut s places remaining words → HaveOwnNames (places ++ remaining)
    → AllByRecursion (λ p. address_of (places ++ future s words remaining) p.0 ≡ Some p.1) (places ++ future s words remaining)
completed_names {s} {places} {remaining} {words} laid own =
    names_own (places ++ future s words remaining) (subst HaveOwnNames (sym (all_places laid)) (own_put words (places ++ remaining) s.base own))

-- the root is current
pub root_current : {s : State} {places remaining : Places} {words : List ℕ} → IsLaidOut s places remaining words → address_of (places ++ future s words remaining) root ≡ Some s.base → address_of places root ≡ Some s.base
root_current {s} {places} {remaining} {words} laid is = elim (none_or_some (address_of places root)) [
  | inl none ↦
      let later = sym (address_of-append_right places (future s words remaining) root none) ∙ is in
      let source = put_source words remaining (s.base + s.used) root s.base later in
      let far = (move_within words (addresses remaining) (s.base + s.used) source.0 s.base source.1.move).0 in
      let within = start_within laid s.base (filling words s.base s.used (addresses places) laid.filled).first in
      let close = within.below in absurd (omega arith)
  | inr there ↦ there.1 ∙ sym (address_of-append_left places (future s words remaining) root there.0 there.1) ∙ is
]

to_copied : (s : State) (places others : Places) (id q : Id) (at : ℕ) → address_of places q ≡ Some at → address_of (with_place s places id ++ others) q ≡ Some at
to_copied s places others id q at there = address_of-append_left (with_place s places id) others q at (address_of-append_left places ((id, s.base + s.used) ∷ []) q at there)

-- the objects are relocated also when writes are taken back
copied_back : {s : State} {k : Collection} {places remaining : Places} {words : List ℕ} {id : Id} {from : ℕ} (us : List UndoEntry) → (copying : IsCopying s k places remaining words id from) → words_in s.pages ≤ 2097152
    → AreBacked places words us
    → IsRelocation (places ++ future s words remaining) (with_place s places id ++ future (copied_state s k words from) (words_after_copy s words from) (without remaining from))
    (taken_back us (completed s places remaining words)) (taken_back us (completed (copied_state s k words from) (with_place s places id) (without remaining from) (words_after_copy s words from)))
    s.base (s.base + (s.used + owed s)) s.base (s.base + ((copied_state s k words from).used + owed (copied_state s k words from)))
copied_back {s} {k} {places} {remaining} {words} {id} {from} us copying limit backed =
    let rest = future (copied_state s k words from) (words_after_copy s words from) (without remaining from) in
    let own = own_front places remaining copying.own in
    let entries = backed_entries places (places ++ future s words remaining) (with_place s places id ++ rest) words us own
    (λ q at there. address_of-append_left places (future s words remaining) q at there) (λ q at there. to_copied s places rest id q at there) backed in
    relocated_taken_back us us (copy_relocates copying limit) entries (backed_fields copying.is own us backed)

-- A graph that stands in the completed words stands there after the copy of an object that remains: the writes that may be taken back are the same.
pub copy_stands : {s : State} {k : Collection} {places remaining : Places} {words : List ℕ} {id : Id} {from t made : ℕ} {g : Graph} (us : List UndoEntry) → (copying : IsCopying s k places remaining words id from)
    → words_in s.pages ≤ 2097152 → AreBacked places words us → StandsCompleted t made places remaining g us words s
    → StandsCompleted t made (with_place s places id) (without remaining from) g us (words_after_copy s words from) (copied_state s k words from)
copy_stands {s} {k} {places} {remaining} {words} {id} {from} us copying limit backed stands =
    let n = copied_state s k words from in
    let others = words_after_copy s words from in
    let rest = future n others (without remaining from) in
    let moves = copied_back us copying limit backed in
    let below = stands.below in
    let total = copied_total copying in
    relocated_stands (with_place s places id ++ rest) (taken_back us (completed n (with_place s places id) (without remaining from) others)) s.base (n.used + owed n) stands
    (record {
      below = omega arith;
      ends = moves.there;
      root_place = to_copied s places rest id root s.base (root_current copying.is.laid stands.root_place);
      names = completed_names (copied_laid copying limit).laid (copied_own copying);
    }) moves.is
