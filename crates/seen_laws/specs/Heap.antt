-- The words of a heap as they stand, whether a collection runs or none.
use Rattle.std.specs.Prelude.{◌≡◌, ◌≢◌, ◌+◌, ◌++◌, ℕ, List, length, slice_index, slice_index_or, Some}
use Rattle.std.specs.List.{AllByRecursion}
use Rattle.heap_words.specs.Word.{meaning}
use Rattle.graph_model.specs.declared.id.Id.{Id}
use Rattle.graph_model.specs.declared.val.Val.TheVariants.{Null}
use Rattle.graph_model.specs.Graph.{Graph, fields}
use Rattle.log_machine.specs.declared.UndoEntry.{UndoEntry}
use Rattle.log_machine.specs.Apart.{others_taken_back}
use Rattle.log_machine.specs.Entries.{EachKeyed}
use Rattle.log_machine.specs.Machine.{State, all_taken_back, field_at, owed, words_in}
use Rattle.log_machine.specs.Sound.{IsSpaced}
use Rattle.graph_words.specs.Places.{IsVisible, Places, address_of, addresses, bits_of, place_of}
use Rattle.graph_words.specs.Stands.{Stands}
use Rattle.collection_words.specs.Completed.{completed, future}
use Rattle.collection_words.specs.LaidOut.{IsLaidOut, LeadsHere}
use Rattle.collection_words.specs.Writes.{AreBacked}

-- The words of a heap are those of its spaces, and they are laid out.
pub record IsHeap (s : State) (places remaining : Places) (words : List ℕ) : Type 0 where
  pub spaced : IsSpaced s
  pub long : length words ≡ words_in s.pages
  pub laid : IsLaidOut s places remaining words

-- none of these writes wrote the word at an address
abbrev pub IsUnwritten : List UndoEntry → ℕ → Type 0
IsUnwritten us at = AllByRecursion (λ u. at ≢ field_at u.object u.field) us

-- A field of an object has the word of its value, which leads to current objects, or to the transaction's own.
pub record IsFieldHere (t made : ℕ) (places : Places) (g : Graph) (words : List ℕ) (id : Id) (at i : ℕ) : Type 0 where
  pub word : slice_index words (field_at at i) ≡ bits_of (place_of places g) (slice_index_or (fields g id) i Null)
  pub visible : IsVisible places t made (slice_index_or (fields g id) i Null)
  pub leads : LeadsHere (addresses places) (meaning (slice_index words (field_at at i)))

-- the writes of each transaction that may be taken back put back words that lead to current objects, or to none
abbrev pub AreAllBacked : State → Places → List ℕ → Type 0
AreAllBacked s places words = EachKeyed (λ t us. AreBacked places words us) s.undo

-- no other transaction wrote the word at an address
abbrev pub IsUnwrittenByOthers : State → ℕ → ℕ → Type 0
IsUnwrittenByOthers s t at = EachKeyed (λ q us. q ≢ t → IsUnwritten us at) s.undo

-- A graph stands in the completed words without the writes of transactions that have not ended.
abbrev pub StandsSealed : Places → Places → Graph → List ℕ → State → Type 0
StandsSealed places remaining g words s = Stands 0 0 (places ++ future s words remaining) g (all_taken_back s (completed s places remaining words)) s.base (s.used + owed s)

-- A graph stands in the completed words without the writes of all others, as a transaction that has made that many objects sees it.
abbrev pub StandsViewed : ℕ → ℕ → Places → Places → Graph → List ℕ → State → Type 0
StandsViewed t made places remaining g words s =
    Stands t made (places ++ future s words remaining) g (others_taken_back s t (completed s places remaining words)) s.base (s.used + owed s)
