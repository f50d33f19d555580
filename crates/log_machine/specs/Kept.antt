-- The counter of the log's bytes that are kept agrees with the lists.
use Rattle.std.specs.Prelude.{◌≡◌, ℕ, List}
use Rattle.std.specs.Ordering.{nat_cmp}
use Rattle.std.specs.FinMap.{FinMap}
use Rattle.log_machine.specs.declared.UndoEntry.{UndoEntry}
use Rattle.log_machine.specs.Sound.{NoneEmpty}
use Rattle.log_machine.specs.Entries.{bytes_over}

-- That many bytes are kept for these lists, none of which is empty.
pub record IsReserve (bytes : ℕ) (undo : FinMap nat_cmp (List UndoEntry)) : Type 0 where
  pub sum : bytes ≡ bytes_over undo
  pub some : NoneEmpty undo
