-- What a flip does to objects: some are copied, and the others stay in what is the from-space then.
use Rattle.std.specs.Prelude.{◌≡◌, ◌⊎◌, ℕ, ◌≤◌, ◌++◌, List, [], length, Contains, map, slice_index, Option, Some, true, filter, not, false}
use Rattle.std.specs.List.{AllByRecursion, flat_map}
use Rattle.std.specs.FinSet.{contains}
use Rattle.heap_words.specs.declared.Header.TheVariants.{Forward}
use Rattle.heap_words.specs.declared.Word.{Word}
use Rattle.heap_words.specs.declared.Word.TheVariants as word
use Rattle.heap_words.specs.Header.{header}
use Rattle.heap_words.specs.Word.{is_volatile, meaning}
use Rattle.heap_spaces.specs.Collection.{Collection}
use Rattle.graph_model.specs.declared.id.Id.{Id}
use Rattle.relocation.specs.Relocation.{moved_to}
use Rattle.log_machine.specs.declared.UndoEntry.{UndoEntry}
use Rattle.log_records.specs.declared.copies.ObjectCopy.{ObjectCopy}
use Rattle.log_machine.specs.Collecting.{other_base}
use Rattle.log_machine.specs.Machine.{State, put_all, words_in, writes_of}
use Rattle.log_machine.specs.Sound.{IsSpaced}
use Rattle.graph_words.specs.Places.{Places, address_of, addresses}
use Rattle.collection_words.specs.Completed.{IsMade, in_other_space, moves_from, places_from, taken_by}
use Rattle.collection_words.specs.Copying.{words_to_copy}
use Rattle.collection_words.specs.LaidOut.{EachField, IsLaidOut}
use Rattle.collection_words.specs.Placed.{Ascend}
use Rattle.collection_words.specs.Relocated.{HaveSameIds}
use Rattle.heap_words.specs.declared.TheConstants.{STABLE_WORDS}

-- the copies of the objects at these addresses, end to end from an address on
abbrev pub copies_of_flip : List ℕ → List ℕ → ℕ → List ObjectCopy
copies_of_flip words roots to = map (λ m. record { from = m.0; to = m.1; words = words_to_copy words m.0 }) (moves_from words roots to)

-- the words after a flip that copies them into the other space
abbrev pub flipped_words : State → List ℕ → List ℕ → List ℕ
flipped_words s words roots = put_all words (flat_map writes_of (copies_of_flip words roots (other_base s)))

-- An object was copied, and where it stood is a forwarding word.
pub record WasCopied (n : State) (places : Places) (words moved : List ℕ) (id : Id) (at : ℕ) : Type 0 where
  pub to : ℕ
  pub fields : ℕ
  pub current : address_of places id ≡ Some to
  pub old : in_other_space n at ≡ true
  pub forward : header (slice_index moved at) ≡ Some (Forward to)
  pub same : IsMade (λ w. w) words moved at to fields

-- An object stays where it stood, with its words.
pub record HasStayed (remaining : Places) (words moved : List ℕ) (id : Id) (at : ℕ) : Type 0 where
  pub fields : ℕ
  pub left : address_of remaining id ≡ Some at
  pub same : IsMade (λ w. w) words moved at at fields

-- The objects of these places were copied to those, or remain.
pub record HaveParted (n : State) (places currents remaining : Places) (words moved : List ℕ) : Type 0 where
  pub same : HaveSameIds places (currents ++ remaining)
  pub each : (id : Id) (at : ℕ) → address_of places id ≡ Some at → WasCopied n currents words moved id at ⊎ HasStayed remaining words moved id at

-- an object went along these pairs
abbrev pub WentAlong : List (ℕ × ℕ) → Places → Places → ℕ → Type 0
WentAlong pairs places currents at = (id : Id) × (address_of places id ≡ Some at) × (address_of currents id ≡ Some (moved_to pairs at))

-- so did the one to which a word of this meaning leads, if it is a reference to a stable object
abbrev pub LedAlong : List (ℕ × ℕ) → Places → Places → Option Word → Type 0
LedAlong pairs places currents (Some (word.Stable at)) = WentAlong pairs places currents at
LedAlong pairs places currents meant = Unit {0}

-- the objects of these writes went along, and what they would put back leads to such
abbrev pub WereTranslated : List (ℕ × ℕ) → Places → Places → List UndoEntry → Type 0
WereTranslated pairs places currents us = AllByRecursion (λ u. WentAlong pairs places currents u.object × LedAlong pairs places currents (meaning u.was)) us

-- A flip copies the chosen ones of the objects of places, and the others remain.
pub record IsFlipping (s : State) (places chosen remaining : Places) (words : List ℕ) : Type 0 where
  pub spaced : IsSpaced s
  pub long : length words ≡ words_in s.pages
  pub small : words_in s.pages ≤ STABLE_WORDS
  pub laid : IsLaidOut s places [] words
  pub up : Ascend s.base (addresses chosen)
  pub starts : (at : ℕ) → Contains (addresses chosen) at → Contains (addresses places) at
  pub parts : (id : Id) (at : ℕ) → address_of places id ≡ Some at → (address_of chosen id ≡ Some at) ⊎ ((address_of remaining id ≡ Some at) × (Contains (addresses chosen) at → ⊥))
  pub same : HaveSameIds places (chosen ++ remaining)

-- The state after a flip, by its spaces.
pub record HasFlipped (s n : State) : Type 0 where
  pub base : n.base ≡ other_base s
  pub pages : n.pages ≡ s.pages

-- What the state after a flip says of its collection: these were copied and are gray, and all else is left.
pub record HasBegun (s n : State) (k : Collection) (places chosen remaining : Places) (words : List ℕ) : Type 0 where
  pub flipped : HasFlipped s n
  pub used : n.used ≡ taken_by words (addresses chosen)
  pub run : n.collection ≡ Some k
  pub words_left : k.used ≡ s.used
  pub copied : k.copied ≡ taken_by words (addresses chosen)
  pub moved : addresses chosen ≡ filter (λ at. contains k.moved at) (addresses places)
  pub left : addresses remaining ≡ filter (λ at. not (contains k.moved at)) (addresses places)
  pub grays : (at : ℕ) → contains k.gray at ≡ true → Contains (addresses (places_from words chosen (other_base s))) at
  pub gray : (at : ℕ) → Contains (addresses (places_from words chosen (other_base s))) at → contains k.gray at ≡ true
  pub first : Contains (moves_from words (addresses chosen) (other_base s)) (s.base, other_base s)
  pub plain : (at : ℕ) → Contains (addresses remaining) at → EachField words at (λ i w. is_volatile w ≡ false)
