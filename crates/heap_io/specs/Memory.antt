-- What a source and a sink in memory hold.
use Rattle.std.specs.Prelude.{ℕ, List}

-- A source: the bytes that are left, the numbers of the calls that fail, and how many calls and faults there were.
pub record Supply : Type 0 where
  pub left : List ℕ
  pub fails : List ℕ
  pub calls : ℕ
  pub faults : ℕ

-- A sink: the bytes that were written, how many there may be, the numbers of the calls that fail, and how many calls
-- and faults there were.
pub record Store : Type 0 where
  pub written : List ℕ
  pub room : ℕ
  pub fails : List ℕ
  pub calls : ℕ
  pub faults : ℕ
