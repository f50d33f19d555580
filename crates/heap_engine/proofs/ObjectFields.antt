-- The fields of objects.
use Rattle.std.proofs.Common.{◌≡◌, ℕ, ◌<◌, ◌≤◌, Bool, true, false, List, [], length, nat_eq, Option, None, Some, refl, ap, arith}
use Rattle.std.specs.Prelude.{Contains, IfSome, IsSome, if◌then◌else◌}
use Rattle.std.specs.List.{list_any}
use Rattle.std.proofs.lemmas.Bool.{eqb-true}
use Rattle.std.proofs.lemmas.Map.Views.{Contains-from_any}
use Rattle.log_machine.specs.Machine.{field_at}
use Rattle.object_layout.specs.Layout.{object_at, words_of, field_words}
use Rattle.object_layout.proofs.LayoutLaws.{object_header, object_small, length-field_words}
use Rattle.volatile_area.specs.Area.{AreaState, starts_of, HasField}
use Rattle.txn_table.specs.declared.place.Place.{Place}
use Rattle.txn_table.specs.declared.place.Place.TheVariants.{Stable, Volatile}
use Rattle.txn_table.specs.Table.{TransactionState}
use Rattle.heap_memory.specs.Memory.{own_fields, fields_at}
use Rattle.heap_engine.proofs.Tables.{there, told}

-- an object has few fields
pub fields_few : (words : List ℕ) (at : ℕ) → length (field_words words at) ≤ 510
fields_few words at = few (object_at words at) refl
  where
    few : (o : Option ℕ) → object_at words at ≡ o → length (field_words words at) ≤ 510
    few None is = omega (arith, ap (λ (o : Option ℕ). length (words_of words at o)) is)
    few (Some n) is = omega (arith, object_small words at n is, length-field_words words at n is)

-- they lie in the words
pub field_within : (words : List ℕ) (at i : ℕ) → i < length (field_words words at) → field_at at i < length words
field_within words at i low = within (object_at words at) refl
  where
    within : (o : Option ℕ) → object_at words at ≡ o → field_at at i < length words
    within None is = absurd (omega (arith, low, ap (λ (o : Option ℕ). length (words_of words at o)) is))
    within (Some n) is = let head = object_header words at n is in omega (arith, low, head.1, length-field_words words at n is)

tied : (a b : ℕ) → nat_eq a b ≡ true → a ≡ b
tied a b is = eqb-true a b is

-- where no object starts there are no fields
pub own_none : (area : AreaState) (at : ℕ) → (Contains (starts_of area) at → ⊥) → [] ≡ own_fields area at
own_none area at none = cases (list_any (nat_eq at) (starts_of area)) refl
  where
    cases : (b : Bool) → list_any (nat_eq at) (starts_of area) ≡ b → [] ≡ (if b then field_words area.words at else [])
    cases true is = absurd (none (Contains-from_any tied at (starts_of area) is))
    cases false is = refl

pub own_has : (area : AreaState) (at i : ℕ) → i < length (own_fields area at) → HasField area at i
own_has area at i low = cases (list_any (nat_eq at) (starts_of area)) refl low
  where
    cases : (b : Bool) → list_any (nat_eq at) (starts_of area) ≡ b → i < length (if b then field_words area.words at else []) → HasField area at i
    cases true is low = record { starts = Contains-from_any tied at (starts_of area) is; within = low }
    cases false is low = absurd (omega arith)

own_few : (area : AreaState) (at : ℕ) → length (own_fields area at) ≤ 510
own_few area at = cases (list_any (nat_eq at) (starts_of area))
  where
    cases : (b : Bool) → length (if b then field_words area.words at else []) ≤ 510
    cases true = fields_few area.words at
    cases false = omega arith

-- an object at a place has few fields
pub placed_few : (words : List ℕ) (area : AreaState) (p : Place) → length (fields_at words area p) ≤ 510
placed_few words area (Stable at) = fields_few words at
placed_few words area (Volatile at) = own_few area at

-- what follows of a transaction that there may be
pub map_some : (o : Option TransactionState) (P Q : TransactionState → Type 0) → ((t : TransactionState) → P t → Q t) → IfSome o P → IfSome o Q
map_some None P Q f p = tt
map_some (Some t) P Q f p = f t p

-- so has one at a place of a transaction that there is
pub held_few : (o : Option TransactionState) (words : List ℕ) (p : Place) (fields : List ℕ) → IsSome o → IfSome o (λ t. fields ≡ fields_at words t.area p) → length fields ≤ 510
held_few o words p fields some is =
    let t = there o some in
    let same = told o t.0 (λ v. fields ≡ fields_at words v.area p) t.1 is in
    omega (arith, ap length same, placed_few words t.0.area p)
