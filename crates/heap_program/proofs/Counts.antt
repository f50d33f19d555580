-- Sums of counts of a 64-bit type.
use Rattle.std.proofs.Common.{◌≡◌, inl, inr, ⊎_elim, ℕ, ◌+◌, ◌-◌, ◌≤◌, ◌<◌, min, zero, suc, Bool, refl, sym, ap, ◌∙◌, subst, arith}
use Rattle.std.specs.Prelude.{if◌then◌else◌}
use Rattle.std.proofs.lemmas.Bool.{cases_lt, lt-ltb, le-ltb}
use Rattle.counts.specs.Count.{Rose, counted, raised, greatest}

raised_below : (n : ℕ) → n < greatest → raised n ≡ n + 1
raised_below n below = ap (λ (b : Bool). if b then n + 1 else n) (lt-ltb n greatest below)

raised_full : (n : ℕ) → greatest ≤ n → raised n ≡ n
raised_full n full = ap (λ (b : Bool). if b then n + 1 else n) (le-ltb n greatest full)

-- a count that stays below the greatest is the sum
pub counted-sum : (m n : ℕ) → m + n ≤ greatest → counted m n ≡ m + n
counted-sum zero n small = omega arith
counted-sum (suc m) n small =
    let rest = counted-sum m n (omega arith) in
    ap raised rest ∙ raised_below (m + n) (omega arith) ∙ omega arith

-- it is no less than what was counted, up to the greatest
counted_most : (m n : ℕ) → min m greatest ≤ counted m n
counted_most zero n = omega arith
counted_most (suc m) n =
    let rest = counted_most m n in
    ⊎_elim
    (λ (below : counted m n < greatest). let up = raised_below (counted m n) below in omega arith)
    (λ (full : greatest ≤ counted m n). let still = raised_full (counted m n) full in omega arith)
    (cases_lt (counted m n) greatest)

-- counting k more than p, all at once, is counting p and then k more
pub counted-counted : (k p n : ℕ) → counted (counted k p) n ≡ counted k (counted p n)
counted-counted zero p n = refl
counted-counted (suc k) p n =
    let q = counted k p in
    let rest = counted-counted k p n in
    ⊎_elim
    (λ (below : q < greatest).
    let up : raised q ≡ suc q = raised_below q below ∙ omega arith in
    ap (λ (i : ℕ). counted i n) up ∙ ap raised rest)
    (λ (full : greatest ≤ q).
    let most = counted_most q n in
    let over : greatest ≤ counted q n = omega arith in
    ap (λ (i : ℕ). counted i n) (raised_full q full) ∙ sym (raised_full (counted q n) over) ∙ ap raised rest)
    (cases_lt q greatest)

raised_more : (n : ℕ) → n ≤ raised n
raised_more n = ⊎_elim
    (λ (below : n < greatest). let up = raised_below n below in omega arith)
    (λ (full : greatest ≤ n). let still = raised_full n full in omega arith)
    (cases_lt n greatest)

-- what is raised, once or twice, rose
pub rose_once : (n now : ℕ) → now ≡ raised n → Rose n now
rose_once n now is = ⊎_elim
    (λ (below : n < greatest). let up = raised_below n below in inl (omega arith))
    (λ (full : greatest ≤ n). inr full)
    (cases_lt n greatest)

pub rose_twice : (n now : ℕ) → now ≡ raised (raised n) → Rose n now
rose_twice n now is =
    let more = raised_more (raised n) in
    ⊎_elim
    (λ (below : n < greatest). let up = raised_below n below in inl (omega arith))
    (λ (full : greatest ≤ n). inr full)
    (cases_lt n greatest)

counted_more : (d m n : ℕ) → counted m n ≤ counted (d + m) n
counted_more zero m n = let same : m ≡ 0 + m = omega arith in let more = ap (λ (i : ℕ). counted i n) same in omega arith
counted_more (suc d) m n =
    let rest = counted_more d m n in
    let up = raised_more (counted (d + m) n) in
    let same : suc (d + m) ≡ suc d + m = omega arith in
    let more : raised (counted (d + m) n) ≡ counted (suc d + m) n = ap (λ (i : ℕ). counted i n) same in
    omega arith

-- who counts more has a greater count
pub counted_mono : (m k n : ℕ) → m ≤ k → counted m n ≤ counted k n
counted_mono m k n less =
    let same : (k - m) + m ≡ k = omega arith in
    subst (λ (i : ℕ). counted m n ≤ counted i n) same (counted_more (k - m) m n)
