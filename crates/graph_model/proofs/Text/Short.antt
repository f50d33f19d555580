-- Rows that are short enough to be printed.
use Rattle.std.specs.Prelude.{◌^◌, ◌<◌, List, length}
use Rattle.std.specs.List.{AllByRecursion}
use Rattle.graph_model.specs.Canon.{Shown, Nothing, Number, Object}

-- a field whose number is below 2 ^ 64
abbrev pub IsShort : Shown → Type 0
IsShort Nothing = Unit {0}
IsShort (Number n) = n < 2 ^ 64
IsShort (Object n) = n < 2 ^ 64

-- Rows of such fields, of which there are fewer than 2 ^ 64.
pub record AreShort (rows : List (List Shown)) : Type 0 where
  pub count : length rows < 2 ^ 64
  pub fields : AllByRecursion (AllByRecursion IsShort) rows
