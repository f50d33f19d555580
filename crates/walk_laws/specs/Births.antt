-- Births of the objects of both spaces of a collection.
use Rattle.std.specs.Prelude.{◌≡◌, ◌≢◌, ◌⊎◌, ℕ, ◌+◌, List, slice_index, Bool, not, true, Option, None, Some, Contains}
use Rattle.std.specs.FinSet.{contains}
use Rattle.heap_words.specs.declared.Header.TheVariants.{Forward}
use Rattle.heap_words.specs.Header.{header}
use Rattle.heap_spaces.specs.Collection.{Collection}
use Rattle.object_layout.specs.Layout.{birth_at}
use Rattle.object_layout.specs.Walk.{AreBornBefore, HaveOwnBirths, IsBornBefore}
use Rattle.object_layout.specs.CollectionWalk.{AreAmong, FromSpace, IsCollectionWalked, IsWalkedBeside}
use Rattle.log_machine.specs.Machine.{State}
use Rattle.log_machine.specs.Collecting.{other_base}
use Rattle.collection_words.specs.LaidOut.{AreOldEndToEnd}

-- an object of the from-space is not copied
abbrev pub is_uncopied : Collection → ℕ → Bool
is_uncopied k at = not (contains k.moved at)

-- The from-space still gives the births of its objects, copied or not: they differ, a copy has that of its original, and no other places are
-- taken for those of copied objects.
pub record AreOriginals (k : Collection) (words olds : List ℕ) : Type 0 where
  pub own_births : HaveOwnBirths words olds
  pub kept : (at to : ℕ) → Contains olds at → header (slice_index words at) ≡ Some (Forward to) → birth_at words to ≡ birth_at words at
  pub moved : AreAmong k.moved olds

-- so they are in the words of a state, if a collection runs
abbrev pub HasOriginals : State → List ℕ → Option Collection → Type 0
HasOriginals s words None = Unit {0}
HasOriginals s words (Some k) = (olds : List ℕ) × AreOldEndToEnd words (other_base s) olds (other_base s + k.used) × AreOriginals k words olds

-- each of these objects has the root's birth or one that a transaction below the next one gave
abbrev pub AreBornBeforeOrRoot : ℕ → List ℕ → List ℕ → Type 0
AreBornBeforeOrRoot next words olds = (at : ℕ) → Contains olds at → (birth_at words at ≡ 0) ⊎ IsBornBefore next (birth_at words at)

-- In each space births differ, and come from transactions below the next one. A copy has that of its original, and no object that is not
-- copied has one of the current space.
pub record AreBornInBoth (next : ℕ) (words : List ℕ) (base used : ℕ) (from : FromSpace) (walked : IsCollectionWalked words base used from) : Type 0 where
  pub own_births : HaveOwnBirths words walked.starts
  pub born_before : AreBornBefore next words base walked.starts
  pub originals : AreOriginals from.collection words walked.olds
  pub old_born_before : AreBornBeforeOrRoot next words walked.olds
  pub left_apart : (at b : ℕ) → Contains walked.olds at → is_uncopied from.collection at ≡ true → Contains walked.starts b → birth_at words at ≢ birth_at words b

-- the same of a walk of the current space alone or of both
abbrev pub AreBornBeside : ℕ → (words : List ℕ) (base used : ℕ) (from : Option FromSpace) → IsWalkedBeside words base used from → Type 0
AreBornBeside next words base used None walked = HaveOwnBirths words walked.starts × AreBornBefore next words base walked.starts
AreBornBeside next words base used (Some from) walked = AreBornInBoth next words base used from walked
