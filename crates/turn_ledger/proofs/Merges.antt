-- The turns of two passes whose places are those of a history, each once, are that history.
use Rattle.std.proofs.Common.{◌≡◌, ℕ, zero, suc, ◌+◌, ◌-◌, ◌<◌, ◌≤◌, ◌⊎◌, List, [], ◌∷◌, ◌++◌, length, drop, sym, refl, ap, ◌∙◌, subst, inl, inr, ⊎_elim, arith, length-drop, Some, slice_get}
use mathlib.Core.Logic.{dite}
use native.Mathlib.Decide.{ℕ_discrete}
use Rattle.turn_lock.specs.Turning.{one, times, EachOnce, places, StandIn}
use Rattle.turn_lock.specs.Merging.{entries_of, Rise}
use Rattle.turn_ledger.specs.Merged.{IsMerge}
use Rattle.turn_lock.proofs.Counts.{one_same, one_other, once_passed, once_same}
use Rattle.turn_lock.proofs.Lists.{value_or}
use Rattle.turn_lock.proofs.TurnLaws.{places_append}

module _ {E : Type 0} where
  -- no place of an ascending list lies below its start
  none_below : (low k : ℕ) (ps : List (ℕ × E)) → Rise low ps → k < low → times k (places ps) ≡ 0
  none_below low k [] r h = refl
  none_below low k (p ∷ ps) r h = omega (arith, one_other k p.0 (λ e. omega (arith, r.0)), none_below (p.0 + 1) k ps r.1 (omega (arith, r.0)))

  -- an ascending list that doesn't begin at its start begins later
  starts_later : (low : ℕ) (ps : List (ℕ × E)) → Rise low ps → times low (places ps) ≡ 0 → Rise (low + 1) ps
  starts_later low [] r h = tt
  starts_later low (p ∷ ps) r h = (dite (ℕ_discrete low p.0) (λ e. absurd (omega (arith, one_same low p.0 e))) (λ n. omega (arith, r.0)), r.1)

  nothing : (low : ℕ) (ps : List (ℕ × E)) → Rise low ps → ((k : ℕ) → low ≤ k → times k (places ps) ≡ 0) → ps ≡ []
  nothing low [] r h = refl
  nothing low (p ∷ ps) r h = absurd (omega (arith, h p.0 r.0, one_same p.0 p.0 refl))

  -- the entries of a list stand in a history that begins at the place `low`
  abbrev pub StandFrom : ℕ → List E → List (ℕ × E) → Type 0
  StandFrom low log [] = Unit {0}
  StandFrom low log (p ∷ ps) = (slice_get log (p.0 - low) ≡ Some p.1) × StandFrom low log ps

  weaker : (low high : ℕ) (ps : List (ℕ × E)) → low ≤ high → Rise high ps → Rise low ps
  weaker low high [] le r = tt
  weaker low high (p ∷ ps) le r = (omega (arith, r.0), r.1)

  later : (low : ℕ) (z : E) (zs : List E) (ps : List (ℕ × E)) → Rise (low + 1) ps → StandFrom low (z ∷ zs) ps → StandFrom (low + 1) zs ps
  later low z zs [] r h = tt
  later low z zs (p ∷ ps) r h = (
    ap (slice_get (z ∷ zs)) (let e : suc (p.0 - (low + 1)) ≡ p.0 - low = omega (arith, r.0) in e) ∙ h.0,
    later low z zs ps (weaker (low + 1) (p.0 + 1) ps (omega (arith, r.0)) r.1) h.1,
  )

  -- a list that ascends from `low` has no entry there, or begins with it
  heads : (low : ℕ) (z : E) (zs : List E) (ps : List (ℕ × E)) → Rise low ps → StandFrom low (z ∷ zs) ps
      → (times low (places ps) ≡ 0)
      ⊎ ((ps' : List (ℕ × E)) × (entries_of ps ≡ z ∷ entries_of ps') × ((k : ℕ) → times k (places ps) ≡ one k low + times k (places ps')) × Rise (low + 1) ps' × StandFrom (low + 1) zs ps')
  heads low z zs [] r h = inl refl
  heads low z zs (p ∷ ps) r h = dite (ℕ_discrete p.0 low)
      (λ e. let rise : Rise (low + 1) ps = subst (λ n. Rise (n + 1) ps) e r.1 in
      let is : Some z ≡ Some p.1 = ap (slice_get (z ∷ zs)) (let n : 0 ≡ p.0 - low = omega arith in n) ∙ h.0 in
      inr (ps, ap (λ x. x ∷ entries_of ps) (sym (ap (λ o. value_or o z) is)), (λ k. ap (λ n. one k n + times k (places ps)) e), rise, later low z zs ps rise h.1))
      (λ n. inl (omega (arith, one_other low p.0 (λ e. n (sym e)), none_below (p.0 + 1) low ps r.1 (omega (arith, r.0)))))

  pub merges : (low : ℕ) (log : List E) (ps qs : List (ℕ × E)) → Rise low ps → Rise low qs → StandFrom low log ps → StandFrom low log qs
      → EachOnce (λ k. times k (places ps) + times k (places qs)) low (low + length log) → IsMerge (entries_of ps) (entries_of qs) log
  merges low [] ps qs a b c d once = (
    ap entries_of (nothing low ps a (λ k h. omega (arith, once.above k (omega arith)))),
    ap entries_of (nothing low qs b (λ k h. omega (arith, once.above k (omega arith)))),
  )
  merges low (z ∷ zs) ps qs a b c d once =
      let here = once.inside low (omega arith) (omega arith) in
      let high : low + length (z ∷ zs) ≡ low + 1 + length zs = omega arith in
      let next : (f : ℕ → ℕ) → ((k : ℕ) → f k + one k low ≡ times k (places ps) + times k (places qs)) → EachOnce f (low + 1) (low + 1 + length zs) = λ f e.
      subst (EachOnce f (low + 1)) high (once_passed (λ k. times k (places ps) + times k (places qs)) f low (low + length (z ∷ zs)) once e) in
      ⊎_elim
      (λ no_p. let a' = starts_later low ps a no_p in ⊎_elim
      (λ no_q. absurd (omega arith))
      (λ q. inr (entries_of q.0, q.1, merges (low + 1) zs ps q.0 a' q.3 (later low z zs ps a' c) q.4 (next (λ k. times k (places ps) + times k (places q.0)) (λ k. omega (arith, q.2 k)))))
      (heads low z zs qs b d))
      (λ p. let no_q : times low (places qs) ≡ 0 = omega (arith, p.2 low, one_same low low refl) in let b' = starts_later low qs b no_q in
      inl (entries_of p.0, p.1, merges (low + 1) zs p.0 qs p.3 b' p.4 (later low z zs qs b' d) (next (λ k. times k (places p.0) + times k (places qs)) (λ k. omega (arith, p.2 k)))))
      (heads low z zs ps a c)

  get_drop : (n k : ℕ) (log : List E) → n ≤ k → slice_get (drop n log) (k - n) ≡ slice_get log k
  get_drop zero k log h = ap (slice_get log) (let e : k - 0 ≡ k = omega arith in e)
  get_drop (suc n) k [] h = refl
  get_drop (suc n) zero (x ∷ xs) h = absurd (omega arith)
  get_drop (suc n) (suc k) (x ∷ xs) h = ap (slice_get (drop n xs)) (let e : suc k - suc n ≡ k - n = omega arith in e) ∙ get_drop n k xs (omega arith)

  stand_from : (low : ℕ) (log : List E) (ps : List (ℕ × E)) → Rise low ps → StandIn log ps → StandFrom low (drop low log) ps
  stand_from low log [] r h = tt
  stand_from low log (p ∷ ps) r h = (get_drop low p.0 log r.0 ∙ h.0, stand_from low log ps (weaker low (p.0 + 1) ps (omega (arith, r.0)) r.1) h.1)

  stand_first : (log : List E) (ps qs : List (ℕ × E)) → StandIn log (ps ++ qs) → StandIn log ps
  stand_first log [] qs h = tt
  stand_first log (p ∷ ps) qs h = (h.0, stand_first log ps qs h.1)

  stand_second : (log : List E) (ps qs : List (ℕ × E)) → StandIn log (ps ++ qs) → StandIn log qs
  stand_second log [] qs h = h
  stand_second log (p ∷ ps) qs h = stand_second log ps qs h.1

  -- the turns of two passes are the history since the lock was made
  pub two_make_all : (low : ℕ) (log : List E) (ps qs : List (ℕ × E)) → low ≤ length log → Rise low ps → Rise low qs → StandIn log (ps ++ qs) → EachOnce (λ k. times k (places (ps ++ qs))) low (length log)
      → IsMerge (entries_of ps) (entries_of qs) (drop low log)
  two_make_all low log ps qs le a b stand once = merges low (drop low log) ps qs a b (stand_from low log ps a (stand_first log ps qs stand)) (stand_from low log qs b (stand_second log ps qs stand))
      (subst (EachOnce (λ k. times k (places ps) + times k (places qs)) low) (let e : length log ≡ low + length (drop low log) = omega (arith, length-drop low log) in e)
      (once_same (λ k. times k (places (ps ++ qs))) (λ k. times k (places ps) + times k (places qs)) low (length log) once (λ k. sym (places_append k ps qs))))
