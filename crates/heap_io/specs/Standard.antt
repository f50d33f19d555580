-- What is known of a reader or a writer of std, and how often it failed.
use Rattle.std.specs.Prelude.{ℕ, List, Option}

-- A reader: the bytes that it has left, where std models them, and its faults.
pub record Intake : Type 0 where
  pub unread : Option (List ℕ)
  pub faults : ℕ

-- A writer: the bytes that it holds, where std models them, and its faults.
pub record Outlet : Type 0 where
  pub held : Option (List ℕ)
  pub faults : ℕ
