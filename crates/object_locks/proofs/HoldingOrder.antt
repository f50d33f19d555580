-- The order of holdings is total, and distinguishes all of them.
use Rattle.std.proofs.Common.{◌≡◌, Less, Equal, Greater, refl}
use Rattle.std.specs.Ordering.{nat_cmp, ordering_then}
use Rattle.std.specs.declared.cmp.Ordering.{Ordering}
use Rattle.std.specs.Cmp.{IsTotalOrder}
use Rattle.std.specs.FinMap.{IsAntisymmetric}
use Rattle.std.proofs.lemmas.Cmp.{nat_cmp_total, on_total, then_total}
use Rattle.std.proofs.lemmas.Map.Lookups.{exact_unsigned}
use Rattle.object_locks.specs.declared.holding.Mode.{Mode}
use Rattle.object_locks.specs.declared.holding.Mode.TheVariants.{Shared, Exclusive}
use Rattle.object_locks.specs.declared.holding.Holding.{Holding}
use Rattle.object_locks.specs.Holdings.{holding_cmp, mode_number}

pub holding_total : IsTotalOrder holding_cmp
holding_total =
    then_total (on_total (λ (h : Holding). h.key.address) nat_cmp_total)
    (then_total (on_total (λ (h : Holding). h.transaction) nat_cmp_total) (on_total (λ (h : Holding). mode_number h.mode) nat_cmp_total))

pub mode_exact : (a b : Mode) → mode_number a ≡ mode_number b → a ≡ b
mode_exact Shared Shared e = refl
mode_exact Shared Exclusive e = cc
mode_exact Exclusive Shared e = cc
mode_exact Exclusive Exclusive e = refl

-- both parts tie where both orders in turn do
pub both_tie : (x y : Ordering) → ordering_then x y ≡ Equal → (x ≡ Equal) × (y ≡ Equal)
both_tie Less y e = cc
both_tie Equal y e = (refl, e)
both_tie Greater y e = cc

pub holding_exact : IsAntisymmetric holding_cmp
holding_exact a b e =
    let first = both_tie (nat_cmp a.key.address b.key.address) _ e in
    let others = both_tie (nat_cmp a.transaction b.transaction) _ first.1 in
    let k = exact_unsigned _ _ first.0 in
    let t = exact_unsigned _ _ others.0 in
    let m = mode_exact a.mode b.mode (exact_unsigned _ _ others.1) in
    λ i. record { key = record { address = k i }; transaction = t i; mode = m i }
