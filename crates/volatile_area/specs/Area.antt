-- The objects that a transaction makes, in words of its own.
use Rattle.std.specs.Prelude.{◌≡◌, ◌≢◌, ℕ, map, zero, suc, ◌+◌, ◌≤◌, ◌<◌, List, [], ◌∷◌, ◌++◌, length, replicate, slice_get, slice_set, Some, Contains}
use Rattle.heap_words.specs.declared.Header.TheVariants.{Length}
use Rattle.heap_words.specs.Header.{header_bits, birth_bits}
use Rattle.heap_words.specs.Word.{IsFieldWord}
use Rattle.relocation.specs.Relocation.{translated_word}
use Rattle.object_layout.specs.Layout.{field_words, birth_at}
use Rattle.object_layout.specs.Walk.{AreEndToEnd}
use Rattle.heap_words.specs.declared.TheConstants.{VOLATILE_WORDS}

-- A transaction's volatile area, as contracts see it.
pub record AreaState : Type 0 where
  pub transaction : ℕ  -- the number of the transaction
  pub made : ℕ  -- how many objects it has made
  pub words : List ℕ  -- the words of these objects, in the order of making

-- the area of a transaction that has made no object
abbrev pub new_area : ℕ → AreaState
new_area t = record { transaction = t; made = 0; words = [] }

-- the number of fields of the object at a word
abbrev pub length_at : List ℕ → ℕ → ℕ
length_at words at = length (field_words words at)

-- the first words of that many objects that stand end to end from a word on
abbrev pub starts_from : ℕ → List ℕ → ℕ → List ℕ
starts_from zero words at = []
starts_from (suc more) words at = at ∷ starts_from more words (at + 2 + length_at words at)

-- the first word of each object, in the order of making, which is also the object's name
abbrev pub starts_of : AreaState → List ℕ
starts_of area = starts_from area.made area.words 0

-- the words of the kth object that transaction t makes, of that many fields, each null
abbrev pub new_words : ℕ → ℕ → ℕ → List ℕ
new_words t k fields = header_bits (Length fields) ∷ birth_bits t k ∷ replicate fields 0

-- the area with one more object
abbrev pub with_object : AreaState → ℕ → AreaState
with_object area fields = record area { made = area.made + 1; words = area.words ++ new_words area.transaction (area.made + 1) fields }

-- the area with a word in a field of an object
abbrev pub with_field : AreaState → ℕ → ℕ → ℕ → AreaState
with_field area object field word = record area { words = slice_set area.words (object + 2 + field) word }

-- An object of the area starts there, and has that field.
pub record HasField (area : AreaState) (object field : ℕ) : Type 0 where
  pub starts : Contains (starts_of area) object
  pub within : field < length_at area.words object

-- What holds of each area: objects fill its words end to end, the kth has the birth of the kth, and each field holds a field's word.
pub record IsArea (area : AreaState) : Type 0 where
  pub few : length area.words ≤ VOLATILE_WORDS
  pub objects : AreEndToEnd area.words 0 (starts_of area) (length area.words)
  pub births : (i at : ℕ) → slice_get (starts_of area) i ≡ Some at → birth_at area.words at ≡ birth_bits area.transaction (i + 1)
  pub fields : (at i w : ℕ) → Contains (starts_of area) at → slice_get (field_words area.words at) i ≡ Some w → IsFieldWord w

-- The same objects with the same births: words of their fields alone may differ.
pub record HasSameObjects (old new : AreaState) : Type 0 where
  pub transaction : new.transaction ≡ old.transaction
  pub made : new.made ≡ old.made
  pub used : length new.words ≡ length old.words
  pub starts : starts_of new ≡ starts_of old
  pub births : (object : ℕ) → Contains (starts_of old) object → birth_at new.words object ≡ birth_at old.words object

-- The area after objects of the heap have moved: in each field of each of its objects a reference to one that moved leads to where it went, and
-- every other word is as it was.
pub record IsTranslated (pairs : List (ℕ × ℕ)) (old new : AreaState) : Type 0 where
  pub objects : HasSameObjects old new
  pub fields : (object : ℕ) → Contains (starts_of old) object → field_words new.words object ≡ map (translated_word pairs) (field_words old.words object)

-- The same for the fields of one object alone.
pub record IsTranslatedIn (pairs : List (ℕ × ℕ)) (object : ℕ) (old new : AreaState) : Type 0 where
  pub objects : HasSameObjects old new
  pub fields : field_words new.words object ≡ map (translated_word pairs) (field_words old.words object)
  pub others : (other : ℕ) → Contains (starts_of old) other → other ≢ object → field_words new.words other ≡ field_words old.words other

-- What is kept in memory.

-- the area of a transaction, by the starts and the words that are kept
abbrev pub area_of : ℕ → List ℕ → List ℕ → AreaState
area_of t starts words = record { transaction = t; made = length starts; words = words }

-- The starts that are kept with the words of an area are its own.
pub record AreItsStarts (starts : List ℕ) (area : AreaState) : Type 0 where
  pub own : starts ≡ starts_of area
  pub sound : IsArea area
