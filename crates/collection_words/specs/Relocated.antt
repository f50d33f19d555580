-- Objects that stand elsewhere, with their references updated.
use Rattle.std.specs.Prelude.{◌≡◌, ◌⊎◌, ℕ, ◌<◌, List, [], ◌∷◌, slice_index, is_some, false, Some}
use Rattle.heap_words.specs.declared.Word.TheVariants.{Stable}
use Rattle.heap_words.specs.Word.{bits, is_stable}
use Rattle.graph_model.specs.declared.id.Id.{Id}
use Rattle.object_layout.specs.Layout.{object_at, birth_at}
use Rattle.log_machine.specs.declared.UndoEntry.{UndoEntry}
use Rattle.log_machine.specs.Machine.{field_at}
use Rattle.graph_words.specs.Places.{Places, address_of}

-- An object has its address among these places, and another one among those.
pub record HasMoved (places others : Places) (id : Id) (at to : ℕ) : Type 0 where
  pub before : address_of places id ≡ Some at
  pub after : address_of others id ≡ Some to

-- A reference leads to the object to which another one led before.
pub record IsLedAlong (places others : Places) (w v : ℕ) : Type 0 where
  pub id : Id
  pub at : ℕ
  pub to : ℕ
  pub moved : HasMoved places others id at to
  pub was : w ≡ bits (Stable at)
  pub is : v ≡ bits (Stable to)

-- a word, and what it is where objects have these other places: a reference to one of them is updated, and any other word is the same
abbrev pub IsRelocatedWord : Places → Places → ℕ → ℕ → Type 0
IsRelocatedWord places others w v = ((is_stable w ≡ false) × (v ≡ w)) ⊎ IsLedAlong places others w v

-- An object stands elsewhere: its length and birth are the same, and its fields are updated.
pub record IsRelocatedObject (places others : Places) (words moved : List ℕ) (at to : ℕ) : Type 0 where
  pub fields : ℕ
  pub was : object_at words at ≡ Some fields
  pub is : object_at moved to ≡ Some fields
  pub birth : birth_at moved to ≡ birth_at words at
  pub led : (i : ℕ) → i < fields → IsRelocatedWord places others (slice_index words (field_at at i)) (slice_index moved (field_at to i))

-- the same objects have places
abbrev pub HaveSameIds : Places → Places → Type 0
HaveSameIds places others = (id : Id) → is_some (address_of places id) ≡ is_some (address_of others id)

-- The objects of places stand at others in other words.
pub record IsRelocated (places others : Places) (words moved : List ℕ) : Type 0 where
  pub same : HaveSameIds places others
  pub each : (id : Id) (at to : ℕ) → HasMoved places others id at to → IsRelocatedObject places others words moved at to

-- A write of a field, as it is where the object has another place.
pub record IsRelocatedEntry (places others : Places) (u v : UndoEntry) : Type 0 where
  pub id : Id
  pub object : HasMoved places others id u.object v.object
  pub field : u.field ≡ v.field
  pub was : IsRelocatedWord places others u.was v.was

-- these writes, in their order
abbrev pub AreRelocatedEntries : Places → Places → List UndoEntry → List UndoEntry → Type 0
AreRelocatedEntries places others [] [] = Unit {0}
AreRelocatedEntries places others [] (v ∷ vs) = ⊥
AreRelocatedEntries places others (u ∷ us) [] = ⊥
AreRelocatedEntries places others (u ∷ us) (v ∷ vs) = IsRelocatedEntry places others u v × AreRelocatedEntries places others us vs
