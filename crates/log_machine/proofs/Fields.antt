-- Writes to different fields.
use Rattle.std.specs.Prelude.{◌≢◌, ℕ, List}
use Rattle.std.specs.List.{AllByRecursion}
use Rattle.log_machine.specs.declared.UndoEntry.{UndoEntry}
use Rattle.log_machine.specs.Machine.{State, field_at}
use Rattle.log_machine.specs.Entries.{EachKeyed}

-- the address that a write wrote
abbrev pub written : UndoEntry → ℕ
written u = field_at u.object u.field

-- no write of the one list is to a field that the other has written
abbrev pub AreApart : List UndoEntry → List UndoEntry → Type 0
AreApart us vs = AllByRecursion (λ u. AllByRecursion (λ v. written u ≢ written v) vs) us

-- no other transaction's writes that may be taken back are to fields that these have written
abbrev pub IsApart : State → ℕ → List UndoEntry → Type 0
IsApart s t us = EachKeyed (λ q vs. q ≢ t → AreApart us vs) s.undo
