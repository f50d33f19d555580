-- A history as a value.
use Rattle.std.specs.Prelude.{ℕ, List}
use Rattle.graph_model.specs.declared.reply.Entry.{Entry}

-- The entries, oldest first, the number of further ones for which there is room, and how many are kept whole.
pub record Recorded : Type 0 where
  pub entries : List Entry
  pub room : ℕ
  pub whole : ℕ
