-- What a journal and its mirror are to each other.
use Rattle.std.specs.Prelude.{◌≡◌, ℕ, ◌≤◌, Bool, true, false, List}
use Rattle.turn_lock.specs.Turning.{IsBeginning}

-- 1 of a mirror that has failed, and else 0
abbrev pub flag : Bool → ℕ
flag true = 1
flag false = 0

-- The mirror has the first posts, and the journal was not told of a failure before it failed, nor more than once.
pub record Mirrors (posts : List ℕ) (told : ℕ) (copied : List ℕ) (failed : Bool) : Type 0 where
  pub first : IsBeginning copied posts
  pub told_of : told ≤ flag failed

-- What was copied stays copied, and a mirror that has failed has failed.
pub record IsGrown (copied : List ℕ) (failed : Bool) (copied' : List ℕ) (failed' : Bool) : Type 0 where
  pub more : IsBeginning copied copied'
  pub still : failed ≡ true → failed' ≡ true
