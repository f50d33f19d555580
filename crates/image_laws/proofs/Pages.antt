-- No page is ahead of a log, or one is the first that is.
use Rattle.std.proofs.Common.{◌⊎◌, inl, inr, ℕ, zero, suc, ◌≤◌, ◌<◌, length, sym, subst, arith}
use Rattle.std.proofs.lemmas.Bool.{cases_lt, cases_order}
use Rattle.std.proofs.lemmas.List.{get_or_past}
use Rattle.page_redo.specs.Pages.{Pages, lsn_of}
use Rattle.page_cache.specs.CacheState.{IsFirstPast}

module _ (lsn : ℕ) (at : Pages) where
  -- of the first pages none is past an LSN, or one is the first that is
  front_behind_or_past : (n : ℕ) → ((p : ℕ) → p < n → lsn_of at p ≤ lsn) ⊎ ((p : ℕ) × IsFirstPast lsn p at)
  front_behind_or_past zero = inl (λ p none. absurd (omega (arith, none)))
  front_behind_or_past (suc n) = elim (front_behind_or_past n) [
    | inr found ↦ inr found
    | inl before ↦ elim (cases_lt lsn (lsn_of at n)) [
      | inr behind ↦ inl (λ p less. elim (cases_order p n) [
        | inl same ↦ subst (λ (q : ℕ). lsn_of at q ≤ lsn) (sym same) behind
        | inr (inl below) ↦ before p below
        | inr (inr above) ↦ absurd (omega (arith, less, above))
      ])
      | inl past ↦ elim (cases_lt n (length at.lsns)) [
        | inl page ↦ inr (n, record { page = page; past = past; before = before })
        | inr beyond ↦ absurd (omega (arith, past, get_or_past at.lsns n 0 beyond))
      ]
    ]
  ]

  -- none is, or one is the first
  pub behind_or_past : ((p : ℕ) → lsn_of at p ≤ lsn) ⊎ ((p : ℕ) × IsFirstPast lsn p at)
  behind_or_past = elim (front_behind_or_past (length at.lsns)) [
    | inr found ↦ inr found
    | inl before ↦ inl (λ p. elim (cases_lt p (length at.lsns)) [
      | inl page ↦ before p page
      | inr beyond ↦ omega (arith, get_or_past at.lsns p 0 beyond)
    ])
  ]
