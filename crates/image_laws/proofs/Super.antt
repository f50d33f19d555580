-- Bytes begin with the superblock of a heap, or of none.
use Rattle.std.proofs.Common.{◌≡◌, ◌⊎◌, inl, inr, ℕ, ◌≤◌, ◌^◌, List, [], ◌∷◌, ◌++◌, get_or, drop, replicate, refl, sym, ap, ◌∙◌, subst, arith}
use Rattle.std.proofs.lemmas.Bool.{cases_lt}
use Rattle.std.specs.Int.{w32, to_le_bytes}
use Rattle.byteorder.specs.Endian.{little_number}
use Rattle.byteorder.specs.Numbers.{little_number-reads_back}
use Rattle.image_plan.specs.declared.superblock.Super.{Super}
use Rattle.image_plan.specs.Super.{IsSuper, superblock}
use Rattle.image_laws.proofs.Walk.{same_or_not}

-- two lists are one, or not
pub lists_same_or_not : (xs ys : List ℕ) → (xs ≡ ys) ⊎ (xs ≡ ys → ⊥)
lists_same_or_not [] [] = inl refl
lists_same_or_not [] (y ∷ ys) = inr (λ same. cc)
lists_same_or_not (x ∷ xs) [] = inr (λ same. cc)
lists_same_or_not (x ∷ xs) (y ∷ ys) = elim (same_or_not x y) [
  | inr other ↦ inr (λ same. other (ap (λ (l : List ℕ). get_or l 0 0) same))
  | inl same ↦ elim (lists_same_or_not xs ys) [
    | inl rest ↦ inl (ap (λ (n : ℕ). n ∷ xs) same ∙ ap (λ (l : List ℕ). y ∷ l) rest)
    | inr other ↦ inr (λ is. other (ap (λ (l : List ℕ). drop 1 l) is))
  ]
]

-- a number is at most another, or not
pub le_or_not : (a b : ℕ) → (a ≤ b) ⊎ (a ≤ b → ⊥)
le_or_not a b = elim (cases_lt b a) [ inl less ↦ inr (λ le. omega (arith, le, less)) | inr le ↦ inl le ]

-- numbers are within their limits, or not
limits_or_not : (s : Super) → IsSuper s ⊎ (IsSuper s → ⊥)
limits_or_not s = elim (le_or_not 1 s.pages) [
  | inr bad ↦ inr (λ good. bad good.some_pages)
  | inl some_pages ↦ elim (le_or_not s.pages 16384) [
    | inr bad ↦ inr (λ good. bad good.few_pages)
    | inl few_pages ↦ elim (le_or_not 64 s.log_bytes) [
      | inr bad ↦ inr (λ good. bad good.some_log)
      | inl some_log ↦ elim (le_or_not s.log_bytes 1073741824) [
        | inr bad ↦ inr (λ good. bad good.small_log)
        | inl small_log ↦ elim (le_or_not 1 s.first) [
          | inr bad ↦ inr (λ good. bad good.some_first)
          | inl some_first ↦ elim (cases_lt s.first (2 ^ 32)) [
            | inr large ↦ inr (λ good. omega (arith, large, good.small_first))
            | inl small_first ↦ inl (record { some_pages = some_pages; few_pages = few_pages; some_log = some_log; small_log = small_log; some_first = some_first; small_first = small_first })
          ]
        ]
      ]
    ]
  ]
]

-- the numbers that stand where a superblock has them
abbrev stand_there : List ℕ → Super
stand_there bytes = record { pages = little_number 4 (drop 12 bytes); log_bytes = little_number 4 (drop 16 bytes); first = little_number 4 (drop 20 bytes) }

read_there : (s : Super) → IsSuper s → stand_there (superblock s) ≡ s
read_there s good =
    let behind_log = to_le_bytes w32 s.first ++ replicate 40 0 in
    let behind_pages = to_le_bytes w32 s.log_bytes ++ behind_log in
    let pages : little_number 4 (drop 12 (superblock s)) ≡ s.pages = little_number-reads_back 4 s.pages behind_pages (omega (arith, good.few_pages)) in
    let log_bytes : little_number 4 (drop 16 (superblock s)) ≡ s.log_bytes = little_number-reads_back 4 s.log_bytes behind_log (omega (arith, good.small_log)) in
    let first : little_number 4 (drop 20 (superblock s)) ≡ s.first = little_number-reads_back 4 s.first (replicate 40 0) good.small_first in
    λ i. record { pages = pages i; log_bytes = log_bytes i; first = first i }

-- bytes are the superblock of a heap, or of none
pub super_or_none : (bytes : List ℕ) → ((s : Super) × IsSuper s × (bytes ≡ superblock s)) ⊎ ((s : Super) → IsSuper s → bytes ≡ superblock s → ⊥)
super_or_none bytes =
    let s : Super = stand_there bytes in
    let only : (r : Super) → IsSuper r → bytes ≡ superblock r → r ≡ s = λ r good is. sym (read_there r good) ∙ ap stand_there (sym is) in
    elim (limits_or_not s) [
      | inr bad ↦ inr (λ r good is. bad (subst IsSuper (only r good is) good))
      | inl good ↦ elim (lists_same_or_not bytes (superblock s)) [
        | inl is ↦ inl (s, good, is)
        | inr other ↦ inr (λ r fine is. other (is ∙ ap superblock (only r fine is)))
      ]
    ]
