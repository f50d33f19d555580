-- The walk of the heap's spaces while a collection runs: the from-space's objects stand end to end too, copied or not, and only the fields
-- of gray objects, and of those not yet copied, lead there.
use Rattle.std.specs.Prelude.{◌≡◌, ◌≢◌, ℕ, ◌+◌, ◌<◌, ◌==◌, nat_le, List, [], ◌∷◌, ◌++◌, take, slice_index, sum_by, Bool, true, false, Option, None, Some, Contains, if◌then◌else◌}
use Rattle.std.specs.List.{list_any}
use Rattle.std.specs.Ordering.{nat_cmp}
use Rattle.std.specs.FinSet.{FinSet, contains}
use Rattle.heap_words.specs.declared.Header.{Header}
use Rattle.heap_words.specs.declared.Header.TheVariants.{Forward}
use Rattle.heap_words.specs.Header.{header}
use Rattle.heap_spaces.specs.Collection.{Collection}
use Rattle.object_layout.specs.declared.from_space.FromSpace as declared
use Rattle.object_layout.specs.Layout.{object_at}
use Rattle.object_layout.specs.Walk.{KeepsInside, IsFilled, IsWalked, BreaksAt, IsWalkFault}

-- The space that a collection empties: where its words begin, and what is known of the collection.
pub record FromSpace : Type 0 where
  pub base : ℕ
  pub collection : Collection

-- the same, as calls take it
abbrev pub given : declared.FromSpace → FromSpace
given from = record { base = from.base; collection = from.collection.now }

-- the end of its used words
abbrev pub from_end : FromSpace → ℕ
from_end from = from.base + from.collection.used

-- the number of fields of the copy to which a forwarding word leads, if that is one of these objects
abbrev pub copy_length : List ℕ → List ℕ → Option Header → Option ℕ
copy_length words starts (Some (Forward to)) = if list_any (λ at. to == at) starts then object_at words to else None
copy_length words starts h = None

-- the number of fields of an object, if its words end there or before
abbrev pub ending : ℕ → ℕ → Option ℕ → Option ℕ
ending end at (Some n) = if nat_le (at + 2 + n) end then Some n else None
ending end at None = None

-- the number of fields of the object at an address of the from-space: its copy's if it was copied, otherwise its own
abbrev pub old_object : List ℕ → List ℕ → ℕ → ℕ → Bool → Option ℕ
old_object words starts end at true = ending end at (copy_length words starts (header (slice_index words at)))
old_object words starts end at false = object_at (take end words) at

abbrev pub is_moved : FromSpace → ℕ → Bool
is_moved from at = contains from.collection.moved at

abbrev pub old_object_at : List ℕ → List ℕ → FromSpace → ℕ → Option ℕ
old_object_at words starts from at = old_object words starts (from_end from) at (is_moved from at)

-- objects stand end to end from one address to another, where `object` gives the number of fields of the object at an address
abbrev pub AreChained : (ℕ → Option ℕ) → ℕ → List ℕ → ℕ → Type 0
AreChained object from [] end = from ≡ end
AreChained object from (at ∷ rest) end = (n : ℕ) × (at ≡ from) × (object at ≡ Some n) × AreChained object (at + 2 + n) rest end

-- from the from-space's base up to an end
abbrev pub AreOldObjects : List ℕ → List ℕ → FromSpace → List ℕ → ℕ → Type 0
AreOldObjects words starts from olds end = AreChained (old_object_at words starts from) from.base olds end

-- how many words an object takes of the from-space if it was copied, and 0 if it was not
abbrev pub moved_size : Bool → Option ℕ → ℕ
moved_size true (Some n) = 2 + n
moved_size moved object = 0

-- the same for all these
abbrev pub words_moved : List ℕ → List ℕ → FromSpace → List ℕ → ℕ
words_moved words starts from olds = sum_by (λ at. moved_size (is_moved from at) (old_object_at words starts from at)) olds

-- The from-space's used words are objects end to end, copied or not, and those that were copied are as many words as the collection counts.
pub record IsOldFilled (words starts : List ℕ) (from : FromSpace) (olds : List ℕ) : Type 0 where
  pub objects : AreOldObjects words starts from olds (from_end from)
  pub sum : words_moved words starts from olds ≡ from.collection.copied

-- each gray object is one of these
abbrev pub AreAmong : FinSet nat_cmp → List ℕ → Type 0
AreAmong gray starts = (at : ℕ) → contains gray at ≡ true → Contains starts at

-- those of the from-space's objects to which a field may lead: all if its own object is gray, otherwise none
abbrev pub open_to : Bool → List ℕ → List ℕ
open_to true olds = olds
open_to false olds = []

-- all objects to which the fields of an object of the current space may lead
abbrev pub targets : Collection → List ℕ → List ℕ → ℕ → List ℕ
targets k starts olds at = starts ++ open_to (contains k.gray at) olds

-- the fields of each of these objects lead only where they may
abbrev pub AllKeepInside : List ℕ → (ℕ → List ℕ) → List ℕ → Type 0
AllKeepInside words may starts = (at : ℕ) → Contains starts at → KeepsInside words (may at) at

-- The walk of the spaces of a collection passes. An object that was copied has no fields in the from-space any more.
pub record IsCollectionWalked (words : List ℕ) (base used : ℕ) (from : FromSpace) : Type 0 where
  pub starts : List ℕ
  pub olds : List ℕ
  pub filled : IsFilled words base used starts
  pub old_filled : IsOldFilled words starts from olds
  pub grays : AreAmong from.collection.gray starts
  pub inside : AllKeepInside words (targets from.collection starts olds) starts
  pub old_inside : AllKeepInside words (λ at. olds) olds

-- The from-space's objects break off at an address: none stands there that ends within the used words, or it was copied and no forwarding
-- word leads to its copy, or it was not and there is one.
pub record OldBreaksAt (words starts : List ℕ) (from : FromSpace) (at : ℕ) : Type 0 where
  pub olds : List ℕ
  pub objects : AreOldObjects words starts from olds at
  pub before : at < from_end from
  pub none : old_object_at words starts from at ≡ None

-- Where the from-space fails first: where its objects break off; otherwise at its base, if the copied ones are not as many words as are counted.
pub data IsOldFault (words starts : List ℕ) (from : FromSpace) : ℕ → Type 0 where
  old_breaks : {at : ℕ} → OldBreaksAt words starts from at → IsOldFault words starts from at
  old_sum : (olds : List ℕ) → AreOldObjects words starts from olds (from_end from) → words_moved words starts from olds ≢ from.collection.copied
      → IsOldFault words starts from from.base

-- The least gray address at which none of these objects starts.
pub record IsFirstStray (gray : FinSet nat_cmp) (starts : List ℕ) (at : ℕ) : Type 0 where
  pub gray_there : contains gray at ≡ true
  pub stray : Contains starts at → ⊥
  pub first : (before : ℕ) → contains gray before ≡ true → before < at → Contains starts before

-- The first of these objects with a field that leads elsewhere than it may.
pub record IsFirstOut (words : List ℕ) (may : ℕ → List ℕ) (starts : List ℕ) (at : ℕ) : Type 0 where
  pub has : Contains starts at
  pub out : KeepsInside words (may at) at → ⊥
  pub first : (before : ℕ) → Contains starts before → before < at → KeepsInside words (may before) before

-- Where the walk of the spaces of a collection fails first. Each rule is checked after all before it hold everywhere: the current space is
-- filled; so is the from-space; gray objects stand; their fields and all others of the current space lead where they may; so do those that
-- are not yet copied.
pub data IsCollectionFault (words : List ℕ) (base used : ℕ) (from : FromSpace) : ℕ → Type 0 where
  breaks_off : {at : ℕ} → BreaksAt words base used at → IsCollectionFault words base used from at
  old_fails : {at : ℕ} (starts : List ℕ) → IsFilled words base used starts → IsOldFault words starts from at → IsCollectionFault words base used from at
  gray_strays : {at : ℕ} (starts olds : List ℕ) → IsFilled words base used starts → IsOldFilled words starts from olds
      → IsFirstStray from.collection.gray starts at → IsCollectionFault words base used from at
  field_leads_out : {at : ℕ} (starts olds : List ℕ) → IsFilled words base used starts → IsOldFilled words starts from olds
      → AreAmong from.collection.gray starts → IsFirstOut words (targets from.collection starts olds) starts at → IsCollectionFault words base used from at
  old_field_leads_out : {at : ℕ} (starts olds : List ℕ) → IsFilled words base used starts → IsOldFilled words starts from olds
      → AreAmong from.collection.gray starts → AllKeepInside words (targets from.collection starts olds) starts
      → IsFirstOut words (λ a. olds) olds at → IsCollectionFault words base used from at

-- the walk of the heap's spaces passes: of the current one alone, or of both if a collection runs
abbrev pub IsWalkedBeside : List ℕ → ℕ → ℕ → Option FromSpace → Type 0
IsWalkedBeside words base used None = IsWalked words base used
IsWalkedBeside words base used (Some from) = IsCollectionWalked words base used from

-- where it fails first
abbrev pub IsWalkFaultBeside : List ℕ → ℕ → ℕ → Option FromSpace → ℕ → Type 0
IsWalkFaultBeside words base used None at = IsWalkFault words base used at
IsWalkFaultBeside words base used (Some from) at = IsCollectionFault words base used from at
