-- The records that take writes back, of which the newest comes first.
use Rattle.std.proofs.Common.{◌≡◌, ℕ, List, [], ◌∷◌, ◌++◌, reverse, ap, ◌∙◌}
use Rattle.std.proofs.lemmas.List.{reverse-append}
use Rattle.log_machine.specs.declared.UndoEntry.{UndoEntry}
use Rattle.log_machine.specs.Machine.{abort_records}
use Rattle.log_records.specs.declared.Record.TheVariants.{Undo}

-- the records of the writes up to one begin with its own
pub newest : (t : ℕ) (rest before : List UndoEntry) (u : UndoEntry) → rest ≡ before ++ u ∷ [] → abort_records t (reverse rest) ≡ Undo t u.object u.field u.was ∷ abort_records t (reverse before)
newest t rest before u is = ap (λ (us : List UndoEntry). abort_records t (reverse us)) is ∙ ap (abort_records t) (reverse-append before (u ∷ []))
