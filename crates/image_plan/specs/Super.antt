-- The superblock at the front of an image.
use Rattle.std.specs.Prelude.{ℕ, ◌^◌, ◌<◌, ◌≤◌, List, ◌∷◌, ◌++◌, replicate, codes}
use Rattle.std.specs.Int.{w32, to_le_bytes}
use Rattle.image_plan.specs.declared.superblock.Super.{Super}
use Rattle.image_plan.specs.declared.plan.TheConstants.{LEAST_LOG, MOST_LOG, MOST_PAGES}

-- the limits of a heap's numbers
pub record IsSuper (s : Super) : Type 0 where
  pub some_pages : 1 ≤ s.pages
  pub few_pages : s.pages ≤ MOST_PAGES
  pub some_log : LEAST_LOG ≤ s.log_bytes
  pub small_log : s.log_bytes ≤ MOST_LOG
  pub some_first : 1 ≤ s.first
  pub small_first : s.first < 2 ^ 32

-- the superblock: an open gate, seven letters, the format 1, the three numbers, and zeros
abbrev pub superblock : Super → List ℕ
superblock s =
    1 ∷ codes "stbheap" ++ to_le_bytes w32 1 ++ to_le_bytes w32 s.pages ++ to_le_bytes w32 s.log_bytes
    ++ to_le_bytes w32 s.first ++ replicate 40 0
