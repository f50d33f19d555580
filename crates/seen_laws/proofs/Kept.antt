-- What stays in words when writes of fields of current objects are taken back.
use Rattle.std.proofs.Common.{◌≡◌, ◌≢◌, ◌⊎◌, ℕ, ◌+◌, inl, inr, true, List, [], ◌∷◌, ◌++◌, Option, None, Some, refl, sym, ◌∙◌, subst, arith}
use Rattle.std.specs.Prelude.{Contains, MatchOption, slice_index}
use Rattle.std.specs.List.{AllByRecursion, flat_map}
use Rattle.std.proofs.lemmas.List.{get_or-set_other}
use Rattle.std.proofs.lemmas.List.Elements.{Contains-append_cases}
use Rattle.heap_spaces.specs.Collection.{Collection}
use Rattle.graph_model.specs.Graph.{Graph}
use Rattle.object_layout.specs.Layout.{birth_at, object_at}
use Rattle.object_layout.specs.Walk.{AreEndToEnd}
use Rattle.log_machine.proofs.ListLaws.{AllByRecursion-append, AllByRecursion-map}
use Rattle.log_machine.specs.declared.UndoEntry.{UndoEntry}
use Rattle.log_machine.specs.Machine.{Loser, State, field_at, owed, taken_back, with_word}
use Rattle.graph_words.specs.Places.{Places, addresses}
use Rattle.graph_words.specs.Stands.{Stands}
use Rattle.graph_words.proofs.Area.Field.{AreFields, birth_taken_back, ends_with_word, field_with_word, object_with_word}
use Rattle.graph_words.proofs.Stands.Field.{IsField}
use Rattle.collection_words.specs.Completed.{StandsCompleted, completed, future, in_other_space}
use Rattle.collection_words.specs.LaidOut.{IsFromSpace}
use Rattle.collection_words.specs.Writes.{AreBacked, IsHereWrite}
use Rattle.collection_words.proofs.Laid.Old.{left_within, other_bounds}
use Rattle.collection_words.proofs.Laid.Sources.{IsCollecting, collecting, here_ends}
use Rattle.collection_words.proofs.Laid.TakenBack.{completed_taken_back}
use Rattle.collection_words.proofs.Laid.Write.{as_field, write_current}
use Rattle.collection_words.proofs.Moves.Ends.{addresses-append}
use Rattle.seen_laws.specs.Heap.{IsHeap, IsUnwritten}

-- Where a collection runs, and where none does.

-- no collection runs, and nothing remains; or one does
pub heap_cases : {s : State} {places remaining : Places} {words : List ℕ} → IsHeap s places remaining words
    → ((s.collection ≡ None) × (remaining ≡ [])) ⊎ ((k : Collection) × IsCollecting s k places remaining words)
heap_cases {s} {places} {remaining} {words} heap = each s.collection refl
  where
    each : (o : Option Collection) → s.collection ≡ o → ((s.collection ≡ None) × (remaining ≡ [])) ⊎ ((k : Collection) × IsCollecting s k places remaining words)
    each None none = inl (none, subst (λ o. MatchOption o (remaining ≡ []) (λ k. IsFromSpace s k places remaining words)) none heap.laid.from)
    each (Some k) run = inr (k, collecting k run heap.spaced heap.long heap.laid)

-- A graph stands in the completed words of those that are left when writes are taken back.
pub record IsBack (s : State) (k : Collection) (places remaining : Places) (words : List ℕ) (t made : ℕ) (g : Graph) : Type 0 where
  pub is : IsCollecting s k places remaining words
  pub stands : Stands t made (places ++ future s words remaining) g (completed s places remaining words) s.base (s.used + owed s)

-- so does one that stands in the completed words when they are taken back of these
pub back : {s : State} {k : Collection} {places remaining : Places} {words : List ℕ} {t made : ℕ} {g : Graph} (us : List UndoEntry) → IsCollecting s k places remaining words → AreBacked places words us
    → StandsCompleted t made places remaining g us words s → IsBack s k places remaining (taken_back us words) t made g
back {s} {places = places} {remaining = remaining} {words = words} {t = t} {made = made} {g = g} us is backed stands =
    let left = completed_taken_back us is backed in
    record {
      is = left.is;
      stands = subst (λ (ps : Places). Stands t made (places ++ ps) g (completed s places remaining (taken_back us words)) s.base (s.used + owed s)) (sym left.future)
          (subst (λ (ws : List ℕ). Stands t made (places ++ future s words remaining) g ws s.base (s.used + owed s)) (sym left.same) stands);
    }

-- Words.

-- the word at an address that was not written stays
pub unwritten_word : (us : List UndoEntry) (words : List ℕ) (at : ℕ) → IsUnwritten us at → slice_index (taken_back us words) at ≡ slice_index words at
unwritten_word [] words at all = refl
unwritten_word (u ∷ us) words at all =
    unwritten_word us (with_word words u.object u.field u.was) at all.1 ∙ get_or-set_other words (field_at u.object u.field) at u.was 0 all.0

-- nor did the writes of several transactions, as one list, where none of them wrote it
pub none_wrote : (es : List Loser) (at : ℕ) → AllByRecursion (λ (e : Loser). IsUnwritten e.1 at) es → IsUnwritten (flat_map (λ (e : Loser). e.1) es) at
none_wrote [] at all = tt
none_wrote (e ∷ es) at all = AllByRecursion-append (λ (u : UndoEntry). at ≢ field_at u.object u.field) e.1 (flat_map (λ (e : Loser). e.1) es) all.0 (none_wrote es at all.1)

-- Objects.

-- the writes are of fields of current objects
pub backed_are_fields : (places : Places) (words : List ℕ) (us : List UndoEntry) → AreBacked places words us → AreFields words (addresses places) us
backed_are_fields places words us backed =
    AllByRecursion-map (λ u. IsHereWrite places words u.object u.field u.was) (λ u. IsField words (addresses places) u.object u.field) us (λ u write. as_field write.is) backed

-- an object keeps its header
pub object_taken_back : (us : List UndoEntry) (words : List ℕ) (from : ℕ) (starts : List ℕ) (end at n : ℕ) → AreEndToEnd words from starts end → AreFields words starts us → Contains starts at
    → object_at words at ≡ Some n → object_at (taken_back us words) at ≡ Some n
object_taken_back [] words from starts end at n ends all has there = there
object_taken_back (u ∷ us) words from starts end at n ends all has there =
    let next = with_word words u.object u.field u.was in
    let others = AllByRecursion-map (λ (v : UndoEntry). IsField words starts v.object v.field) (λ v. IsField next starts v.object v.field) us
    (λ v is. field_with_word words from starts end u.object u.field u.was v.object v.field ends all.0 is) all.1 in
    object_taken_back us next from starts end at n (ends_with_word words from starts end u.object u.field u.was ends all.0) others has
    (object_with_word words from starts end u.object u.field u.was at n ends all.0 has there)

-- and its birth, also where it remains
pub birth_back : {s : State} {k : Collection} {places remaining : Places} {words : List ℕ} (us : List UndoEntry) → IsCollecting s k places remaining words → AreBacked places words us → (at : ℕ)
    → Contains (addresses (places ++ remaining)) at → birth_at (taken_back us words) at ≡ birth_at words at
birth_back {s} {places = places} {remaining = remaining} {words = words} us is backed at has =
    elim (Contains-append_cases (addresses places) (addresses remaining) at (subst (λ (xs : List ℕ). Contains xs at) (addresses-append places remaining) has)) [
      | inl here ↦ birth_taken_back us words s.base (addresses places) (s.base + s.used) at (here_ends is.laid) (backed_are_fields places words us backed) here
      | inr left ↦
          let lies = left_within is at left in
          let above = lies.above in
          let below = lies.below in
          unwritten_word us words (at + 1) (AllByRecursion-map (λ u. IsHereWrite places words u.object u.field u.was) (λ u. at + 1 ≢ field_at u.object u.field) us
          (λ u write same. write_current is write (at + 1) (omega arith) (omega arith) (sym same)) backed)
    ]
