-- Bytes are the superblock of one heap.
use Rattle.std.specs.Prelude.{◌≡◌, ℕ, List, drop, ◌++◌, replicate}
use Rattle.std.proofs.Common.{sym, ap, ◌∙◌, arith}
use Rattle.std.specs.Int.{w32, to_le_bytes}
use Rattle.byteorder.specs.Endian.{little_number}
use Rattle.byteorder.specs.Numbers.{little_number-reads_back}
use Rattle.image_plan.specs.declared.superblock.Super.{Super}
use Rattle.image_plan.specs.Super.{IsSuper, superblock}

module _ (s : Super) (good : IsSuper s) where
  -- what follows each number
  abbrev behind_log : List ℕ
  behind_log = to_le_bytes w32 s.first ++ replicate 40 0

  abbrev behind_pages : List ℕ
  behind_pages = to_le_bytes w32 s.log_bytes ++ behind_log

  pages_stand : little_number 4 (drop 12 (superblock s)) ≡ s.pages
  pages_stand = little_number-reads_back 4 s.pages behind_pages (omega (arith, good.few_pages))

  log_stands : little_number 4 (drop 16 (superblock s)) ≡ s.log_bytes
  log_stands = little_number-reads_back 4 s.log_bytes behind_log (omega (arith, good.small_log))

  first_stands : little_number 4 (drop 20 (superblock s)) ≡ s.first
  first_stands = little_number-reads_back 4 s.first (replicate 40 0) good.small_first

-- a heap's numbers are those that its superblock spells
pub one_super : (a b : Super) → IsSuper a → IsSuper b → superblock a ≡ superblock b → a ≡ b
one_super a b good good' same =
    let read : (at : ℕ) → little_number 4 (drop at (superblock a)) ≡ little_number 4 (drop at (superblock b)) = λ at. ap (λ (l : List ℕ). little_number 4 (drop at l)) same in
    let pages : a.pages ≡ b.pages = sym (pages_stand a good) ∙ read 12 ∙ pages_stand b good' in
    let log_bytes : a.log_bytes ≡ b.log_bytes = sym (log_stands a good) ∙ read 16 ∙ log_stands b good' in
    let first : a.first ≡ b.first = sym (first_stands a good) ∙ read 20 ∙ first_stands b good' in
    let P : ℕ → ℕ → ℕ → Super = λ p l f. record { pages = p; log_bytes = l; first = f } in
    ap (λ (n : ℕ). P n a.log_bytes a.first) pages ∙ ap (λ (n : ℕ). P b.pages n a.first) log_bytes ∙ ap (λ (n : ℕ). P b.pages b.log_bytes n) first
