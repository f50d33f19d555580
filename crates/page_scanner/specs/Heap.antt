-- The words of a heap within a collection, as far as a scan goes over them.
use Rattle.std.specs.Prelude.{◌≡◌, ℕ, ◌+◌, ◌-◌, ◌<◌, ◌≤◌, true, false, List, [], ◌∷◌, Option, None, Some, Contains, slice_index, sum_by, if◌then◌else◌}
use Rattle.std.specs.List.{AllByRecursion}
use Rattle.std.specs.FinSet.{contains}
use Rattle.heap_words.specs.declared.Header.TheVariants.{Forward}
use Rattle.heap_words.specs.declared.Word.{Word}
use Rattle.heap_words.specs.declared.Word.TheVariants as word
use Rattle.heap_words.specs.Header.{header}
use Rattle.heap_words.specs.Word.{meaning}
use Rattle.heap_spaces.specs.Collection.{Collection}
use Rattle.heap_spaces.specs.Spaces.{SpacesState, space_words}
use Rattle.object_layout.specs.Layout.{object_at, field_words}
use Rattle.log_records.specs.Record.{IsObjectWords}
use Rattle.page_scanner.specs.Bounds.{AreGrayApart}
use Rattle.page_scanner.specs.Scan.{from_base, in_from_space, object_words}
use Rattle.heap_words.specs.declared.TheConstants.{STABLE_WORDS}

-- objects, each by its address and its number of words, fill a space end to end from one address to another
abbrev pub AreFilling : ℕ → List (ℕ × ℕ) → ℕ → Type 0
AreFilling from [] end = from ≡ end
AreFilling from (o ∷ os) end = (o.0 ≡ from) × (0 < o.1) × AreFilling (from + o.1) os end

-- how many words those of them have that have been copied
abbrev pub moved_words : Collection → List (ℕ × ℕ) → ℕ
moved_words k olds = sum_by (λ o. if contains k.moved o.0 then o.1 else 0) olds

-- a field of this meaning that leads to the from-space leads to one of these objects
abbrev pub LeadsOn : SpacesState → List (ℕ × ℕ) → Option Word → Type 0
LeadsOn spaces olds None = Unit {0}
LeadsOn spaces olds (Some word.Null) = Unit {0}
LeadsOn spaces olds (Some (word.Int n)) = Unit {0}
LeadsOn spaces olds (Some (word.Stable b)) = in_from_space spaces b ≡ true → (size : ℕ) × Contains olds (b, size)
LeadsOn spaces olds (Some (word.Volatile index)) = Unit {0}

-- fields of these words all do
abbrev pub AllLeadOn : SpacesState → List (ℕ × ℕ) → List ℕ → Type 0
AllLeadOn spaces olds ws = AllByRecursion (λ w. LeadsOn spaces olds (meaning w)) ws

-- an object of the from-space that was copied leads to a word of the current space that is used
pub record IsForwarded (spaces : SpacesState) (words : List ℕ) (b : ℕ) : Type 0 where
  pub to : ℕ
  pub leads : header (slice_index words b) ≡ Some (Forward to)
  pub low : spaces.base ≤ to
  pub high : to < spaces.base + spaces.used

-- one that is left stands there with words that a record can have, and its fields lead on
pub record IsWaiting (spaces : SpacesState) (words : List ℕ) (olds : List (ℕ × ℕ)) (b size : ℕ) : Type 0 where
  pub fields : ℕ
  pub stands : object_at words b ≡ Some fields
  pub whole : size ≡ 2 + fields
  pub lead : AllLeadOn spaces olds (field_words words b)
  pub spelled : IsObjectWords (object_words words b fields)

-- A heap within a collection.
pub record IsCollected (spaces : SpacesState) (k : Collection) (words : List ℕ) : Type 0 where
  pub olds : List (ℕ × ℕ)  -- the objects of the from-space
  pub filled : AreFilling (from_base spaces) olds (from_base spaces + k.used)
  pub counted : moved_words k olds ≡ k.copied
  pub room : spaces.used + (k.used - k.copied) ≤ space_words spaces.pages
  pub fits : k.used ≤ space_words spaces.pages
  pub few : spaces.base + space_words spaces.pages ≤ STABLE_WORDS
  pub forwarded : (b size : ℕ) → Contains olds (b, size) → contains k.moved b ≡ true → IsForwarded spaces words b
  pub waiting : (b size : ℕ) → Contains olds (b, size) → contains k.moved b ≡ false → IsWaiting spaces words olds b size
  pub gray_apart : AreGrayApart spaces k words
  pub gray_here : (a : ℕ) → contains k.gray a ≡ true → spaces.base ≤ a
  pub gray_lead : (a : ℕ) → contains k.gray a ≡ true → AllLeadOn spaces olds (field_words words a)
