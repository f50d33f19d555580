-- What a flip plans, from the words before it.
use Rattle.std.specs.Prelude.{◌≡◌, ℕ, ◌+◌, ◌≤◌, List, [], ◌∷◌, length, Contains}
use Rattle.std.specs.List.{AllByRecursion}
use Rattle.std.specs.List.Sorted.{IsStrictlyIncreasing}
use Rattle.heap_spaces.specs.Spaces.{SpacesState, flipped}
use Rattle.heap_spaces.specs.declared.collection.CopiedObject.{CopiedObject}
use Rattle.log_machine.specs.Collecting.{pairs_of}
use Rattle.log_records.specs.declared.copies.ObjectCopy.{ObjectCopy}
use Rattle.log_records.specs.declared.Record.{Record}
use Rattle.log_records.specs.declared.Record.TheVariants.{Flip}
use Rattle.object_layout.specs.Walk.{IsFilled}
use Rattle.relocation.specs.Relocation.{IsRelocation}
use Rattle.flip_copy.specs.Copied.{copies_in, moved_objects}

-- a copy has as many words as an object may have
pub record HasObjectSize (copy : ObjectCopy) : Type 0 where
  pub least : 2 ≤ length copy.words
  pub most : length copy.words ≤ 512

-- the objects stood in order, without overlap, in the words from one address up to another
abbrev pub StoodInOrder : ℕ → ℕ → List ObjectCopy → Type 0
StoodInOrder from end [] = from ≤ end
StoodInOrder from end (copy ∷ copies) = (from ≤ copy.from) × StoodInOrder (copy.from + length copy.words) end copies

-- the copies stand end to end from an address on
abbrev pub StandEndToEnd : ℕ → List ObjectCopy → Type 0
StandEndToEnd to [] = Unit {0}
StandEndToEnd to (copy ∷ copies) = (copy.to ≡ to) × StandEndToEnd (to + length copy.words) copies

-- Copies of objects that stood in the words from one address up to another, end to end from a third.
pub record AreCopies (from end to : ℕ) (copies : List ObjectCopy) : Type 0 where
  pub sized : AllByRecursion HasObjectSize copies
  pub ordered : StoodInOrder from end copies
  pub together : StandEndToEnd to copies

-- Copies of objects of the current space's used words, for the space that becomes current.
abbrev pub AreCopiesOf : SpacesState → List ObjectCopy → Type 0
AreCopiesOf spaces copies = AreCopies spaces.base (spaces.base + spaces.used) (flipped spaces).base copies

-- What is kept of a plan: the record, where its objects go, and what a collection keeps of its copies.
pub record IsFlipPlan (rec : Record) (pairs : List (ℕ × ℕ)) (moved : List CopiedObject) : Type 0 where
  pub flip : rec ≡ Flip (copies_in rec)
  pub pairs_are : pairs ≡ pairs_of (copies_in rec)
  pub moved_are : moved ≡ moved_objects (copies_in rec)
  pub moves : IsRelocation pairs

-- The roots of a heap: objects fill the used words, and the roots are addresses of these, ascending.
pub record AreRootsIn (words : List ℕ) (spaces : SpacesState) (roots : List ℕ) : Type 0 where
  pub starts : List ℕ
  pub filled : IsFilled words spaces.base spaces.used starts
  pub ascending : IsStrictlyIncreasing roots
  pub among : (at : ℕ) → Contains roots at → Contains starts at
