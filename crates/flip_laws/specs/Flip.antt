-- A flip from roots of a heap that has no collection: what holds before it, and what it leaves.
use Rattle.std.specs.Prelude.{◌≡◌, ℕ, List, [], length, Contains, None, filter, not, true}
use Rattle.std.specs.FinSet.{contains}
use Rattle.std.specs.List.{AllByRecursion}
use Rattle.std.specs.List.Sorted.{IsStrictlyIncreasing}
use Rattle.heap_words.specs.Word.{is_volatile}
use Rattle.heap_spaces.specs.Collection.{Collection}
use Rattle.heap_spaces.specs.Copying.{begun, with_copies}
use Rattle.log_records.specs.declared.copies.ObjectCopy.{ObjectCopy}
use Rattle.log_machine.specs.Collecting.{other_base, pairs_of}
use Rattle.log_machine.specs.Machine.{State, put_record, spaces_of, undo_of, words_in}
use Rattle.log_machine.specs.Sound.{IsConsistent}
use Rattle.log_machine.specs.Translation.{translated_list}
use Rattle.log_machine.specs.declared.UndoEntry.{UndoEntry}
use Rattle.flip_copy.specs.Copied.{flip_record, moved_objects, root_copies, with_base}
use Rattle.flip_copy.specs.Flipped.{AreRooted, with_flip}
use Rattle.graph_words.specs.Places.{Places, addresses}
use Rattle.collection_words.specs.Completed.{places_from}
use Rattle.collection_words.specs.LaidOut.{EachField, IsLaidOut}

-- Before the flip.

-- an undo entry of one of the transactions
abbrev pub IsEntryOf : State → UndoEntry → Type 0
IsEntryOf s u = (t : ℕ) × Contains (undo_of s t) u

-- so is each of these
abbrev pub AreEntriesOf : State → List UndoEntry → Type 0
AreEntriesOf s us = AllByRecursion (IsEntryOf s) us

-- an undo entry is of a field of the object at an address
abbrev pub HasEntry : State → ℕ → Type 0
HasEntry s at = (u : UndoEntry) × IsEntryOf s u × (u.object ≡ at)

-- A flip can be made from these roots of a heap without a collection: they ascend, objects stand there, and the undo entries name no other
-- objects but the root; only objects of undo entries lead to volatile objects.
pub record CanFlip (s : State) (places : Places) (words roots : List ℕ) : Type 0 where
  pub consistent : IsConsistent s
  pub none : s.collection ≡ None
  pub long : length words ≡ words_in s.pages
  pub laid : IsLaidOut s places [] words
  pub ascending : IsStrictlyIncreasing roots
  pub among : (at : ℕ) → Contains roots at → Contains (addresses places) at
  pub rooted : AreRooted words (with_base s.base roots) s
  pub written : (at : ℕ) → Contains (addresses places) at → EachField words at (λ i w. is_volatile w ≡ true → HasEntry s at)

-- After it.

-- the copies of the root object and the other roots
abbrev pub copies_of : State → List ℕ → List ℕ → List ObjectCopy
copies_of s words roots = root_copies (spaces_of s) words roots

-- the state
abbrev pub state_behind : State → List ℕ → List ℕ → State
state_behind s words roots = with_flip s (copies_of s words roots)

-- its collection, which has begun
abbrev pub collection_begun : State → List ℕ → List ℕ → Collection
collection_begun s words roots = with_copies (begun s.used) (moved_objects (copies_of s words roots))

-- the words
abbrev pub words_behind : State → List ℕ → List ℕ → List ℕ
words_behind s words roots = put_record words (flip_record (spaces_of s) words roots)

-- entries, translated along with the objects
abbrev pub entries_behind : State → List ℕ → List ℕ → List UndoEntry → List UndoEntry
entries_behind s words roots us = translated_list (pairs_of (copies_of s words roots)) us

-- where the objects that were copied stood
abbrev pub root_places : State → List ℕ → List ℕ → Places → Places
root_places s words roots places = filter (λ p. contains (collection_begun s words roots).moved p.1) places

-- where their copies stand
abbrev pub copy_places : State → List ℕ → List ℕ → Places → Places
copy_places s words roots places = places_from words (root_places s words roots places) (other_base s)

-- where the objects that were not copied stand
abbrev pub left_places : State → List ℕ → List ℕ → Places → Places
left_places s words roots places = filter (λ p. not (contains (collection_begun s words roots).moved p.1)) places
