-- The same of the writes that a state says may be taken back: of all transactions, or of all others.
use Rattle.std.proofs.Common.{◌≡◌, ℕ, ◌+◌, ◌<◌, false, List, [], ◌∷◌, ◌++◌, length, Some, sym, subst}
use Rattle.std.specs.List.{AllByRecursion, flat_map}
use Rattle.std.specs.FinMap.{entries, remove}
use Rattle.graph_model.specs.Graph.{Graph, fields}
use Rattle.graph_model.specs.declared.id.Id.{Id}
use Rattle.object_layout.specs.Layout.{IsSeen, IsSeenAs, object_at}
use Rattle.log_machine.proofs.ListLaws.{AllByRecursion-append}
use Rattle.log_machine.proofs.MapLaws.{each_entry, each_other, each_remove}
use Rattle.log_machine.specs.declared.UndoEntry.{UndoEntry}
use Rattle.log_machine.specs.Machine.{Loser, State, all_taken_back, field_at, losing, owed}
use Rattle.graph_words.specs.Places.{Places, address_of}
use Rattle.graph_words.specs.Stands.{AreNamedByBirth, Stands}
use Rattle.collection_words.specs.Completed.{StandsCompleted, completed, future}
use Rattle.collection_words.specs.LaidOut.{is_gray_field}
use Rattle.collection_words.specs.Writes.{AreBacked, IsHereWrite}
use Rattle.collection_words.proofs.Laid.TakenBack.{each_taken_back-list}
use Rattle.seen_laws.specs.Heap.{AreAllBacked, IsFieldHere, IsHeap, IsUnwritten, IsUnwrittenByOthers, StandsSealed, StandsViewed}
use Rattle.seen_laws.proofs.Births.{over_born}
use Rattle.seen_laws.proofs.Kept.{none_wrote}
use Rattle.seen_laws.proofs.Names.{AreNames}
use Rattle.seen_laws.proofs.Over.{over_seen}
use Rattle.seen_laws.proofs.Reading.{field_here, object_here}

-- the writes of these transactions as one list
abbrev pub writes_of_all : List Loser → List UndoEntry
writes_of_all es = flat_map (λ (e : Loser). e.1) es

pub all_backed : (places : Places) (words : List ℕ) (es : List Loser) → AllByRecursion (λ (e : Loser). AreBacked places words e.1) es → AreBacked places words (writes_of_all es)
all_backed places words [] all = tt
all_backed places words (e ∷ es) all = AllByRecursion-append (λ (u : UndoEntry). IsHereWrite places words u.object u.field u.was) e.1 (writes_of_all es) all.0 (all_backed places words es all.1)

-- All transactions.

pub backed_all : (s : State) (places : Places) (words : List ℕ) → AreAllBacked s places words → AreBacked places words (writes_of_all (losing s))
backed_all s places words backed = all_backed places words (losing s) (each_entry (λ t us. AreBacked places words us) s.undo backed)

pub sealed_stands : (s : State) (places remaining : Places) (words : List ℕ) {g : Graph} → StandsSealed places remaining g words s → StandsCompleted 0 0 places remaining g (writes_of_all (losing s)) words s
sealed_stands s places remaining words {g} stands =
    subst (λ (ws : List ℕ). Stands 0 0 (places ++ future s words remaining) g ws s.base (s.used + owed s)) (each_taken_back-list (losing s) (completed s places remaining words)) stands

-- the graph of the transactions that have ended is seen in the words without the writes of the others
pub sealed_seen : (s : State) (places remaining : Places) (words : List ℕ) {g : Graph} (name : ℕ → Id) → IsHeap s places remaining words → AreAllBacked s places words → StandsSealed places remaining g words s
    → AreNames name (places ++ remaining) → IsSeenAs name (all_taken_back s words) s.base g
sealed_seen s places remaining words {g} name heap backed stands names =
    subst (λ (ws : List ℕ). IsSeenAs name ws s.base g) (sym (each_taken_back-list (losing s) words))
    (over_seen (writes_of_all (losing s)) name heap (backed_all s places words backed) (sealed_stands s places remaining words stands) names)

-- also by births
pub sealed_born : (s : State) (places remaining : Places) (words : List ℕ) {g : Graph} → IsHeap s places remaining words → AreAllBacked s places words → StandsSealed places remaining g words s
    → AreNamedByBirth (places ++ future s words remaining) (all_taken_back s (completed s places remaining words)) → IsSeen (all_taken_back s words) s.base g
sealed_born s places remaining words {g} heap backed stands born =
    subst (λ (ws : List ℕ). IsSeen ws s.base g) (sym (each_taken_back-list (losing s) words))
    (over_born (writes_of_all (losing s)) heap (backed_all s places words backed) (sealed_stands s places remaining words stands)
    (subst (λ (ws : List ℕ). AreNamedByBirth (places ++ future s words remaining) ws) (each_taken_back-list (losing s) (completed s places remaining words)) born))

-- All others.

abbrev pub others : State → ℕ → List Loser
others s t = entries (remove s.undo t)

pub backed_others : (s : State) (t : ℕ) (places : Places) (words : List ℕ) → AreAllBacked s places words → AreBacked places words (writes_of_all (others s t))
backed_others s t places words backed =
    all_backed places words (others s t) (each_entry (λ q us. AreBacked places words us) (remove s.undo t) (each_remove (λ q us. AreBacked places words us) s.undo t backed))

pub viewed_stands : (s : State) (t made : ℕ) (places remaining : Places) (words : List ℕ) {g : Graph} → StandsViewed t made places remaining g words s
    → StandsCompleted t made places remaining g (writes_of_all (others s t)) words s
viewed_stands s t made places remaining words {g} stands =
    subst (λ (ws : List ℕ). Stands t made (places ++ future s words remaining) g ws s.base (s.used + owed s)) (each_taken_back-list (others s t) (completed s places remaining words)) stands

-- a current object stands in the words with the length that a transaction sees
pub viewed_object : (s : State) (places remaining : Places) (words : List ℕ) {t made : ℕ} {g : Graph} → IsHeap s places remaining words → AreAllBacked s places words → StandsViewed t made places remaining g words s
    → (id : Id) (at : ℕ) → address_of places id ≡ Some at → object_at words at ≡ Some (length (fields g id))
viewed_object s places remaining words {t} {made} heap backed stands id at there =
    object_here (writes_of_all (others s t)) heap (backed_others s t places words backed) (viewed_stands s t made places remaining words stands) id at there

-- a field of it that is not gray, and that no other wrote, has the word of its value
pub viewed_field : (s : State) (places remaining : Places) (words : List ℕ) {t made : ℕ} {g : Graph} → IsHeap s places remaining words → AreAllBacked s places words → StandsViewed t made places remaining g words s
    → (id : Id) (at i : ℕ) → address_of places id ≡ Some at → i < length (fields g id) → is_gray_field s.collection at i ≡ false → IsUnwrittenByOthers s t (field_at at i) → IsFieldHere t made places g words id at i
viewed_field s places remaining words {t} {made} heap backed stands id at i there within black unwritten =
    field_here (writes_of_all (others s t)) heap (backed_others s t places words backed) (viewed_stands s t made places remaining words stands) id at i there within black
    (none_wrote (others s t) (field_at at i)
    (each_entry (λ q us. IsUnwritten us (field_at at i)) (remove s.undo t) (each_other (λ q us. IsUnwritten us (field_at at i)) s.undo t unwritten)))
