use Rattle.std.proofs.Common.{◌≡◌, ℕ, zero, suc, ◌+◌, ◌<◌, ◌≤◌, Bool, false, length, ◌∷◌, refl, ap, ◌∙◌, arith}
use Rattle.std.specs.Prelude.{◌==◌, not}
use Rattle.std.specs.List.{filter, range_with_len}
use Rattle.std.proofs.lemmas.Bool.{cond-false, eq-eqb}
use Rattle.storage_tests.proofs.logged_pages_tests.open.Goals as goal

none_pass : (f : ℕ → Bool) (a n : ℕ) → ((q : ℕ) → a ≤ q → q < a + n → f q ≡ false) → length (filter f (range_with_len a n)) ≡ 0
none_pass f a zero fails = refl
none_pass f a (suc n) fails =
    let rest = filter f (range_with_len (a + 1) n) in
    ap length (cond-false (f a) (a ∷ rest) rest (fails a (omega arith) (omega arith))) ∙ none_pass f (a + 1) n (λ q low high. fails q (omega (arith, low)) (omega (arith, high)))

-- of clean pages none is dirty, so they are within each bound
few_dirty : (pages bound : ℕ) (lsns stored : ℕ → ℕ) → ((p : ℕ) → p < pages → lsns p ≡ stored p) → length (filter (λ p. not (lsns p == stored p)) (range_with_len 0 pages)) ≤ bound
few_dirty pages bound lsns stored clean =
    omega (arith, none_pass (λ p. not (lsns p == stored p)) 0 pages (λ q low high. ap not (eq-eqb (lsns q) (stored q) (clean q (omega (arith, high))))))

pub new-requires-clause-logged : goal.new-requires-clause-logged
new-requires-clause-logged g c p = omega (arith, c.first_past.ensures.none c.in-None.is p)

pub new-requires-clause-bounded : goal.new-requires-clause-bounded
new-requires-clause-bounded g c = few_dirty _ _ _ _ c.in_ok-cache.ensures.clean
