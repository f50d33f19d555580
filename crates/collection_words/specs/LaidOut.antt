-- How words are while a collection runs: what stands where, what is gray, and that only gray fields and what remains lead to the from-space.
use Rattle.std.specs.Prelude.{◌≡◌, ℕ, ◌+◌, ◌<◌, ◌≤◌, ◌⊎◌, List, [], ◌∷◌, length, filter, slice_index, Bool, true, false, not, Option, None, Some, Contains, MatchOption}
use Rattle.std.specs.FinSet.{contains}
use Rattle.heap_words.specs.declared.Header.TheVariants.{Forward}
use Rattle.heap_words.specs.Header.{header}
use Rattle.heap_words.specs.declared.Word.{Word}
use Rattle.heap_words.specs.declared.Word.TheVariants.{Null, Int, Stable, Volatile}
use Rattle.heap_words.specs.Word.{meaning}
use Rattle.heap_spaces.specs.Collection.{Collection}
use Rattle.object_layout.specs.Layout.{object_at, led}
use Rattle.object_layout.specs.Walk.{IsFilled, IsInside}
use Rattle.log_machine.specs.Machine.{State, field_at, words_in}
use Rattle.log_machine.specs.Sound.{IsSpaced}
use Rattle.log_machine.specs.Collecting.{other_base}
use Rattle.graph_words.specs.Places.{Places, addresses}
use Rattle.collection_words.specs.Completed.{taken_by}
use Rattle.heap_words.specs.declared.TheConstants.{STABLE_WORDS}

-- something holds of the number and the word of each field of the object at an address
abbrev pub EachField : List ℕ → ℕ → (ℕ → ℕ → Type 0) → Type 0
EachField words at P = (n i : ℕ) → object_at words at ≡ Some n → i < n → P i (slice_index words (field_at at i))

-- a field of an object is gray: it may still lead to the from-space
abbrev pub is_gray_field : Option Collection → ℕ → ℕ → Bool
is_gray_field None object field = false
is_gray_field (Some k) object field = contains k.gray object

-- a field that is null, a number, a reference to an object of an area, or one to the start of one of these objects
abbrev pub LeadsHere : List ℕ → Option Word → Type 0
LeadsHere starts None = ⊥
LeadsHere starts (Some Null) = Unit {0}
LeadsHere starts (Some (Int n)) = Unit {0}
LeadsHere starts (Some (Stable at)) = Contains starts at
LeadsHere starts (Some (Volatile index)) = Unit {0}

-- the same, or a reference to the start of an object of the from-space
abbrev pub MayLeadBack : List ℕ → List ℕ → Option Word → Type 0
MayLeadBack starts old_starts meant = LeadsHere starts meant ⊎ ((from : ℕ) × (meant ≡ Some (Stable from)) × Contains old_starts from)

-- the number of fields of an object of the from-space: its own, or those of the copy to which its forwarding word leads
abbrev pub old_length : List ℕ → ℕ → Option ℕ
old_length words at = object_at words (led at (header (slice_index words at)))

-- objects of the from-space, forwarded or not, stand end to end from one address to another: these are their addresses
abbrev pub AreOldEndToEnd : List ℕ → ℕ → List ℕ → ℕ → Type 0
AreOldEndToEnd words from [] end = from ≡ end
AreOldEndToEnd words from (at ∷ rest) end = (n : ℕ) × (at ≡ from) × (old_length words at ≡ Some n) × AreOldEndToEnd words (at + 2 + n) rest end

-- an object of the from-space whose place was copied is forwarded to one of these objects, and no other one is forwarded
abbrev pub StandsOrForwards : List ℕ → List ℕ → ℕ → Bool → Type 0
StandsOrForwards words starts at true = (to : ℕ) × (header (slice_index words at) ≡ Some (Forward to)) × Contains starts to
StandsOrForwards words starts at false = (n : ℕ) × (object_at words at ≡ Some n)

-- How the from-space of a collection is.
pub record IsFromSpace (s : State) (k : Collection) (places remaining : Places) (words : List ℕ) : Type 0 where
  pub starts : List ℕ  -- the addresses of its objects, forwarded or not
  pub chain : AreOldEndToEnd words (other_base s) starts (other_base s + k.used)
  pub forwarded : (at : ℕ) → Contains starts at → StandsOrForwards words (addresses places) at (contains k.moved at)
  pub left : addresses remaining ≡ filter (λ at. not (contains k.moved at)) starts
  pub sum : k.copied + taken_by words (addresses remaining) ≡ k.used
  pub grays : (at : ℕ) → contains k.gray at ≡ true → Contains (addresses places) at
  pub back : (at : ℕ) → Contains (addresses places) at → EachField words at (λ i w. MayLeadBack (addresses places) starts (meaning w))
  pub inside : (at : ℕ) → Contains (addresses remaining) at → EachField words at (λ i w. IsInside starts (meaning w))

-- The words are laid out: the objects of places fill the used words, each of their fields that is not gray leads to one of them, and the
-- from-space has what remains.
pub record IsLaidOut (s : State) (places remaining : Places) (words : List ℕ) : Type 0 where
  pub filled : IsFilled words s.base s.used (addresses places)
  pub here : (at : ℕ) → Contains (addresses places) at → EachField words at (λ i w. is_gray_field s.collection at i ≡ false → LeadsHere (addresses places) (meaning w))
  pub from : MatchOption s.collection (remaining ≡ []) (λ k. IsFromSpace s k places remaining words)

-- A collection is under way, and the words of a heap are laid out.
pub record IsUnderway (s : State) (k : Collection) (places remaining : Places) (words : List ℕ) : Type 0 where
  pub run : s.collection ≡ Some k
  pub spaced : IsSpaced s
  pub long : length words ≡ words_in s.pages
  pub small : words_in s.pages ≤ STABLE_WORDS
  pub laid : IsLaidOut s places remaining words

-- The words of a heap, whether a collection is under way or not: the spaces have room for what it owes, and the words are laid out.
pub record AreHeapWords (s : State) (places remaining : Places) (words : List ℕ) : Type 0 where
  pub spaced : IsSpaced s
  pub long : length words ≡ words_in s.pages
  pub small : words_in s.pages ≤ STABLE_WORDS
  pub laid : IsLaidOut s places remaining words
