-- Which stable objects the sessions' transactions and their locks name: what a collector keeps, besides the root object.
use Rattle.std.specs.Prelude.{◌≡◌, ℕ, ◌↔◌, ◌⊎◌, List, [], ◌∷◌, Contains, Option, None, Some}
use Rattle.std.specs.List.{flat_map}
use Rattle.std.specs.List.Sorted.{IsStrictlyIncreasing}
use Rattle.heap_words.specs.declared.Word.{Word}
use Rattle.heap_words.specs.declared.Word.TheVariants as word
use Rattle.heap_words.specs.Word.{meaning}
use Rattle.object_layout.specs.Layout.{field_words}
use Rattle.object_locks.specs.Holdings.{Holdings, IsLocked}
use Rattle.log_machine.specs.declared.UndoEntry.{UndoEntry}
use Rattle.volatile_area.specs.Area.{starts_of}
use Rattle.txn_table.specs.declared.place.Place.{Place}
use Rattle.txn_table.specs.declared.place.Place.TheVariants.{Stable, Volatile}
use Rattle.txn_table.specs.Table.{TransactionState, TableState, transaction_of}

-- A transaction names the stable object at an address: a handle holds it, a field of an object that it made refers to it, even of one that nothing
-- names any more, it is an object whose field it wrote, or a word that a write of it replaced refers to it.
pub data Names (t : TransactionState) (address : ℕ) : Type 0 where
  held : Contains t.handles (Some (Stable address)) → Names t address
  referred : (object w : ℕ) → Contains (starts_of t.area) object → Contains (field_words t.area.words object) w → meaning w ≡ Some (word.Stable address) → Names t address
  written : (u : UndoEntry) → Contains t.undo u → u.object ≡ address → Names t address
  replaced : (u : UndoEntry) → Contains t.undo u → meaning u.was ≡ Some (word.Stable address) → Names t address

-- The stable object at an address is a root: it is locked, or a session's transaction names it.
pub data IsRoot (table : TableState) (held : Holdings) (address : ℕ) : Type 0 where
  locked : IsLocked held address → IsRoot table held address
  named : (s : ℕ) (t : TransactionState) → transaction_of table s ≡ Some t → Names t address → IsRoot table held address

-- These are the addresses of the roots, ascending, each once.
pub record AreRoots (table : TableState) (held : Holdings) (roots : List ℕ) : Type 0 where
  pub ascending : IsStrictlyIncreasing roots
  pub each : (address : ℕ) → Contains roots address ↔ IsRoot table held address

-- the addresses of the stable objects that a transaction names were added to these
abbrev pub AddsNamed : TransactionState → List ℕ → List ℕ → Type 0
AddsNamed t old new = (address : ℕ) → Contains new address ↔ (Contains old address ⊎ Names t address)

-- The same in lists.

-- the address of the stable object that a handle holds, if it holds one
abbrev pub held_by : Option Place → List ℕ
held_by None = []
held_by (Some (Stable address)) = address ∷ []
held_by (Some (Volatile index)) = []

-- the address of the stable object to which a word of this meaning refers, if it does
abbrev pub referred_by : Option Word → List ℕ
referred_by None = []
referred_by (Some word.Null) = []
referred_by (Some (word.Int n)) = []
referred_by (Some (word.Stable address)) = address ∷ []
referred_by (Some (word.Volatile index)) = []

abbrev pub referred_in : ℕ → List ℕ
referred_in w = referred_by (meaning w)

-- those that an entry names: the object, and that to which the replaced word refers
abbrev pub named_by : UndoEntry → List ℕ
named_by u = u.object ∷ referred_in u.was

-- those to which the fields of an object of the area refer
abbrev pub referred_from : List ℕ → ℕ → List ℕ
referred_from words object = flat_map referred_in (field_words words object)
