-- Records follow one another, or there is a first one that can't.
use Rattle.std.proofs.Common.{◌≡◌, ◌⊎◌, inl, inr, ℕ, zero, suc, ◌+◌, ◌-◌, List, length, take, None, Some, true, is_some, refl, sym, ap, ◌∙◌, subst, arith}
use Rattle.std.proofs.lemmas.List.{take_all}
use Rattle.log_records.specs.declared.Record.{Record}
use Rattle.log_machine.specs.Machine.{State, after_all}
use Rattle.page_redo.specs.Origin.{Origin, state_from}
use Rattle.log_machine.specs.Replay.{IsFirstUnshaped}
use Rattle.image_laws.proofs.Walk.{some_or_none}

-- so do the first of them, or one of these is the first that can't
front_or_stuck : (o : Origin) (records : List Record) (n : ℕ) → (is_some (after_all o.state (take n records)) ≡ true) ⊎ ((lsn : ℕ) × IsFirstUnshaped o.lsn o.state records lsn)
front_or_stuck o records zero = inl refl
front_or_stuck o records (suc n) = elim (front_or_stuck o records n) [
  | inr found ↦ inr found
  | inl before ↦ elim (some_or_none (after_all o.state (take (suc n) records))) [
    | inl (s, is) ↦ inl (ap is_some is)
    | inr none ↦
        let Goes : ℕ → Type 0 = λ k. is_some (after_all o.state (take k records)) ≡ true in
        let Stuck : ℕ → Type 0 = λ k. after_all o.state (take k records) ≡ None in
        let here : n ≡ n + o.lsn - o.lsn = omega arith in
        let next : suc n ≡ n + o.lsn + 1 - o.lsn = omega arith in
        inr (n + o.lsn, record { before = subst Goes here before; stuck = subst Stuck next none })
  ]
]

-- all of them, or one is the first that can't
pub follow_or_stuck : (o : Origin) (records : List Record) → ((s : State) × (state_from o records ≡ Some s)) ⊎ ((lsn : ℕ) × IsFirstUnshaped o.lsn o.state records lsn)
follow_or_stuck o records = elim (front_or_stuck o records (length records)) [
  | inr found ↦ inr found
  | inl goes ↦ elim (some_or_none (state_from o records)) [
    | inl found ↦ inl found
    | inr none ↦
        let whole : take (length records) records ≡ records = take_all (length records) records (omega arith) in
        let never : is_some (after_all o.state records) ≡ true = subst (λ (l : List Record). is_some (after_all o.state l) ≡ true) whole goes in
        let clash = sym (ap is_some none) ∙ never in cc clash
  ]
]
