-- What a crash leaves while a gate is closed and filled again, and how many calls pass.
use Rattle.std.proofs.Common.{◌≡◌, ℕ, ◌+◌, ◌<◌, Bool, true, false, List, get_or, Result, Err, refl, sym, subst, inl, inr, arith}
use Rattle.std.specs.Prelude.{if◌then◌else◌}
use Rattle.std.proofs.lemmas.Bool.{cases_eq}
use Rattle.disk_model.specs.Disk.{Only}
use Rattle.disk_model.specs.Moments.{LeavesOnly}
use Rattle.disk_model.proofs.MomentLaws.{weaker, joined}
use Rattle.disk_model.specs.declared.disk.Disk.{Ghosts}
use Rattle.disk_model.specs.declared.disk.DiskError.{DiskError}
use Rattle.counts.specs.Count.{counted}
use Rattle.gate_slot.specs.Gate.{IsGateClosed, closed, SameButGate, IsFilling}
use Rattle.gate_slot.specs.Passing.{Passes}
use Rattle.gate_slot.proofs.PassingLaws.{joined as joined_calls, cut_short}
use Rattle.page_store.specs.Refill.{IsRefilling}

module _ {D : Type 0} (g : Ghosts D) (gate : ℕ) (body : List ℕ) where
  abbrev Run : D → D → (List ℕ → Type 0) → Type 0
  Run old new P = LeavesOnly g.moment g.left_since old new P

  -- while the gate is closed
  pub closing : (old mid : D) → Only (g.bytes old) (g.may_leave old) → Run old mid (λ c. (d : List ℕ) × g.may_leave old d × SameButGate gate d c)
      → (IsGateClosed gate (g.bytes old) → Run old mid (g.may_leave old)) → Run old mid (IsRefilling gate body (g.bytes old))
  closing old mid only run alone = elim (cases_eq (get_or (g.bytes old) gate 0) 1) [
    | inl is_open ↦ weaker g.moment g.left_since old mid _ _ run (λ c from. inr (inl (is_open, subst (λ (d : List ℕ). SameButGate gate d c) (only from.0 from.1) from.2)))
    | inr shut ↦ weaker g.moment g.left_since old mid _ _ (alone shut) (λ c left. inl (only c left))
  ]

  -- and while it is filled
  pub filling : (old mid new : D) → Run old mid (IsRefilling gate body (g.bytes old)) → g.bytes mid ≡ closed gate (g.bytes old) → Only (g.bytes mid) (g.may_leave mid)
      → Run mid new (λ c. (d : List ℕ) × g.may_leave mid d × IsFilling gate (gate + 1) body (g.bytes mid) d c) → Run old new (IsRefilling gate body (g.bytes old))
  filling old mid new so_far is only run =
      let behind = weaker g.moment g.left_since mid new _ (IsRefilling gate body (g.bytes old)) run (λ c from.
      inr (inr (subst (λ (d : List ℕ). IsFilling gate (gate + 1) body d d c) is (subst (λ (d : List ℕ). IsFilling gate (gate + 1) body (g.bytes mid) d c) (only from.0 from.1) from.2)))) in
      weaker g.moment g.left_since old new _ _ (joined g.moment g.left_since old mid new _ _ so_far behind) (λ c left. elim left [ inl first ↦ first | inr second ↦ second ])

-- four more calls than it takes to close the gate
six_or_four : (is_open : Bool) → (if is_open then 2 else 0) + 4 ≡ (if is_open then 6 else 4)
six_or_four true = refl
six_or_four false = refl

-- it takes fewer to close it
fewer : (is_open : Bool) → (if is_open then 2 else 0) < (if is_open then 6 else 4)
fewer true = omega arith
fewer false = omega arith

pub all_passed : (is_open : Bool) (before mid now : ℕ) (result : Result (Unit {0}) DiskError) → mid ≡ counted (if is_open then 2 else 0) before → Passes 4 mid now result → Passes (if is_open then 6 else 4) before now result
all_passed is_open before mid now result first second =
    subst (λ (n : ℕ). Passes n before now result) (six_or_four is_open) (joined_calls (if is_open then 2 else 0) 4 before mid now result (omega arith) first second)

pub some_passed : (is_open : Bool) (before now : ℕ) (result result' : Result (Unit {0}) DiskError) (e : DiskError) → result ≡ Err e → result' ≡ Err e → Passes (if is_open then 2 else 0) before now result → Passes (if is_open then 6 else 4) before now result'
some_passed is_open before now result result' e is is' run =
    subst (λ (r : Result (Unit {0}) DiskError). Passes (if is_open then 6 else 4) before now r) (sym is') (cut_short (if is_open then 2 else 0) (if is_open then 6 else 4) before now e (fewer is_open) (subst (λ (r : Result (Unit {0}) DiskError). Passes (if is_open then 2 else 0) before now r) is run))
