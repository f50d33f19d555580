-- How a table is stored, so that it can be what contracts see of a struct.
use Rattle.std.specs.Prelude.{◌≡◌, ℕ, Bool, true, false, List, Option}
use Rattle.std.specs.Coded.{Coded, code_by, coded×, coded_ℕ, coded_bool, coded_list, coded_option}
use Rattle.std.specs.Ordering.{nat_cmp}
use Rattle.std.specs.FinMap.{FinMap}
use Rattle.std.specs.FinMap as map
use Rattle.std.proofs.Common.{refl}
use Rattle.log_machine.specs.declared.UndoEntry.{UndoEntry}
use Rattle.log_machine.specs.StateCode.{entry_code}
use Rattle.volatile_area.specs.Area.{AreaState}
use Rattle.txn_table.specs.declared.place.Place.{Place}
use Rattle.txn_table.specs.declared.place.Place.TheVariants.{Stable, Volatile}
use Rattle.txn_table.specs.Table.{TransactionState, TableState}

-- whether a place is in a volatile area, and its number
abbrev pub from_place : Place → Bool × ℕ
from_place (Stable address) = (false, address)
from_place (Volatile index) = (true, index)

abbrev pub to_place : Bool × ℕ → Place
to_place (false, address) = Stable address
to_place (true, index) = Volatile index

abbrev pub same_place : (p : Place) → to_place (from_place p) ≡ p
same_place (Stable address) = refl
same_place (Volatile index) = refl

abbrev pub place_code : Coded Place
place_code = code_by (Bool × ℕ) (coded× coded_bool coded_ℕ) from_place to_place same_place

abbrev pub area_code : Coded AreaState
area_code =
    code_by (ℕ × (ℕ × List ℕ)) (coded× coded_ℕ (coded× coded_ℕ (coded_list coded_ℕ))) (λ a. (a.transaction, (a.made, a.words)))
    (λ p. record { transaction = p.0; made = p.1.0; words = p.1.1 }) (λ _. refl)

abbrev pub transaction_code : Coded TransactionState
transaction_code =
    code_by (ℕ × (List (Option Place) × (List UndoEntry × AreaState))) (coded× coded_ℕ (coded× (coded_list (coded_option place_code)) (coded× (coded_list entry_code) area_code)))
    (λ t. (t.number, (t.handles, (t.undo, t.area))))
    (λ p. record { number = p.0; handles = p.1.0; undo = p.1.1.0; area = p.1.1.1 })
    (λ _. refl)

abbrev pub table_code : Coded TableState
table_code =
    code_by (ℕ × FinMap nat_cmp TransactionState) (coded× coded_ℕ (map.code coded_ℕ transaction_code)) (λ t. (t.next, t.active)) (λ p. record { next = p.0; active = p.1 }) (λ _. refl)
