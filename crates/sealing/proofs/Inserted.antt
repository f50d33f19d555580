-- The keys of an ordered set with one more key.
use Rattle.std.proofs.Common.{◌≡◌, ◌⊎◌, inl, inr, List, [], ◌∷◌, Ordering, Less, Equal, Greater, refl, sym, subst}
use Rattle.std.specs.Prelude.{Contains}
use Rattle.std.specs.Ordering.{match_ordering}
use Rattle.std.specs.BTreeSet.{insert_key}
use Rattle.object_layout.proofs.WalkLaws.{Contains-head, Contains-rest, Contains-cases, Contains-none}

module _ {K : Type 0} (R : K → K → Ordering) where
  from_cases : (k y : K) (ys : List K) (x : K) (o : Ordering) → (Contains (insert_key R ys k) x → Contains ys x ⊎ (x ≡ k))
      → Contains (match_ordering o (k ∷ y ∷ ys) (y ∷ ys) (y ∷ insert_key R ys k)) x → Contains (y ∷ ys) x ⊎ (x ≡ k)
  from_cases k y ys x Less later has = elim (Contains-cases k (y ∷ ys) x has) [ inl here ↦ inr (sym here) | inr behind ↦ inl behind ]
  from_cases k y ys x Equal later has = inl has
  from_cases k y ys x Greater later has = elim (Contains-cases y (insert_key R ys k) x has) [
    | inl here ↦ inl (subst (λ (z : K). Contains (y ∷ ys) z) here (Contains-head y ys))
    | inr behind ↦ elim (later behind) [ inl old ↦ inl (Contains-rest y ys x old) | inr new ↦ inr new ]
  ]

  -- each of them is old or the one that was put in
  pub inserted_from : (xs : List K) (k x : K) → Contains (insert_key R xs k) x → Contains xs x ⊎ (x ≡ k)
  inserted_from [] k x has = elim (Contains-cases k [] x has) [ inl here ↦ inr (sym here) | inr behind ↦ inl behind ]
  inserted_from (y ∷ ys) k x has = from_cases k y ys x (R k y) (inserted_from ys k x) has

  kept_cases : (k y : K) (ys : List K) (x : K) (o : Ordering) → (Contains ys x → Contains (insert_key R ys k) x) → Contains (y ∷ ys) x
      → Contains (match_ordering o (k ∷ y ∷ ys) (y ∷ ys) (y ∷ insert_key R ys k)) x
  kept_cases k y ys x Less later has = Contains-rest k (y ∷ ys) x has
  kept_cases k y ys x Equal later has = has
  kept_cases k y ys x Greater later has = elim (Contains-cases y ys x has) [
    | inl here ↦ subst (λ (z : K). Contains (y ∷ insert_key R ys k) z) here (Contains-head y (insert_key R ys k))
    | inr behind ↦ Contains-rest y (insert_key R ys k) x (later behind)
  ]

  -- the old ones stay
  pub inserted_keeps : (xs : List K) (k x : K) → Contains xs x → Contains (insert_key R xs k) x
  inserted_keeps [] k x has = absurd (Contains-none x has)
  inserted_keeps (y ∷ ys) k x has = kept_cases k y ys x (R k y) (inserted_keeps ys k x) has

  there_cases : ((a b : K) → R a b ≡ Equal → a ≡ b) → (k y : K) (ys : List K) (o : Ordering) → R k y ≡ o → Contains (insert_key R ys k) k
      → Contains (match_ordering o (k ∷ y ∷ ys) (y ∷ ys) (y ∷ insert_key R ys k)) k
  there_cases exact k y ys Less is later = Contains-head k (y ∷ ys)
  there_cases exact k y ys Equal is later = subst (λ (z : K). Contains (y ∷ ys) z) (sym (exact k y is)) (Contains-head y ys)
  there_cases exact k y ys Greater is later = Contains-rest y (insert_key R ys k) k later

  -- the one that was put in is there, where only equal keys tie
  pub inserted_there : ((a b : K) → R a b ≡ Equal → a ≡ b) → (xs : List K) (k : K) → Contains (insert_key R xs k) k
  inserted_there exact [] k = Contains-head k []
  inserted_there exact (y ∷ ys) k = there_cases exact k y ys (R k y) refl (inserted_there exact ys k)
