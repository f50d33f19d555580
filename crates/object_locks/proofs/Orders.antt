-- The orders of holdings: the derived ones are those of the definitions, and the one by transactions is total and distinguishes all holdings too.
use Rattle.std.proofs.Common.{◌≡◌, ℕ, ◌<◌, ◌≤◌, ◌^◌, Bool, false, Less, Equal, Greater, refl, sym, ap, ◌∙◌, subst, arith}
use Rattle.std.specs.BTreeSet.{BTreeSet, Updates}
use Rattle.std.specs.Ordering.{nat_cmp, ordering_then, is_gt}
use Rattle.std.specs.declared.cmp.Ordering.{Ordering}
use Rattle.std.proofs.lemmas.Cmp.{nat_cmp_total, tied_itself, ranked, by_ranked}
use Rattle.std.proofs.lemmas.Bool.{true≢false}
use Rattle.object_locks.specs.declared.holding.Key.{Key}
use Rattle.object_locks.specs.declared.holding.Mode.{Mode}
use Rattle.object_locks.specs.declared.holding.Mode.TheVariants.{Shared, Exclusive}
use Rattle.object_locks.specs.declared.holding.Holding.{Holding}
use Rattle.object_locks.specs.declared.lock_table.Owned.{Owned}
use Rattle.object_locks.specs.contracts.holding.HoldingOrd.TheImpl as holding_ord
use Rattle.object_locks.specs.contracts.holding.ModeOrd.TheImpl as mode_ord
use Rattle.object_locks.specs.contracts.lock_table.OwnedOrd.TheImpl as owned_ord
use Rattle.object_locks.specs.Holdings.{holding_cmp, mode_number}
use Rattle.object_locks.specs.Table.{owned_cmp, owned}
pub use Rattle.object_locks.proofs.HoldingOrder.{holding_total, holding_exact}

same_mode : (a b : Mode) → mode_ord.cmp-value.it a b ≡ nat_cmp (mode_number a) (mode_number b)
same_mode Shared Shared = refl
same_mode Shared Exclusive = refl
same_mode Exclusive Shared = refl
same_mode Exclusive Exclusive = refl

-- the derived order of holdings
pub by_object_is : holding_ord.cmp-value.it ≡ holding_cmp
by_object_is i a b = ordering_then (nat_cmp a.key.address b.key.address) (ordering_then (nat_cmp a.transaction b.transaction) (same_mode a.mode b.mode i))

-- the derived order by transactions
pub by_transaction_is : owned_ord.cmp-value.it ≡ owned_cmp
by_transaction_is i a b = ordering_then (nat_cmp a.transaction b.transaction) (ordering_then (nat_cmp a.key.address b.key.address) (same_mode a.mode b.mode i))

-- a change as the derived order sees it
pub object_updates : (s n : BTreeSet Holding) (h : Holding) (b : Bool) → Updates holding_ord.cmp-value.it s n h b → Updates holding_cmp s n h b
object_updates s n h b = subst (λ (cmp : Holding → Holding → Ordering). Updates cmp s n h b) by_object_is

pub transaction_updates : (s n : BTreeSet Owned) (h : Holding) (k : Owned) (b : Bool) → k ≡ owned h → Updates owned_ord.cmp-value.it s n k b → Updates owned_cmp s n (owned h) b
transaction_updates s n h k b is updates =
    let ours : Updates owned_cmp s n k b = subst (λ (cmp : Owned → Owned → Ordering). Updates cmp s n k b) by_transaction_is updates in
    subst (λ (o : Owned). Updates owned_cmp s n o b) is ours

-- what is not greater when compared by a number first is not greater in it
pub upto_number : (a b : ℕ) (o : Ordering) → is_gt (ordering_then (nat_cmp a b) o) ≡ false → a ≤ b
upto_number a b o e =
    by_ranked (a < b) (a ≡ b) (b < a) (nat_cmp a b) (ranked a b _ refl) (λ is lt. omega arith) (λ is same. omega arith)
    (λ is gt. absurd (true≢false (sym (ap (λ r. is_gt (ordering_then r o)) is) ∙ e)))

-- after a tie the rest decides
pub tied_then : (a b : ℕ) (o : Ordering) → a ≡ b → ordering_then (nat_cmp a b) o ≡ o
tied_then a b o is = ap (λ r. ordering_then r o) (ap (λ n. nat_cmp n b) is ∙ tied_itself nat_cmp_total b)

number_upto : (a b : ℕ) → a ≤ b → is_gt (nat_cmp a b) ≡ false
number_upto a b le =
    by_ranked (a < b) (a ≡ b) (b < a) (nat_cmp a b) (ranked a b _ refl) (λ is lt. ap is_gt is) (λ is same. ap is_gt is) (λ is gt. absurd (omega arith))

not_greater : (x y : Ordering) → is_gt x ≡ false → is_gt y ≡ false → is_gt (ordering_then x y) ≡ false
not_greater Less y e f = refl
not_greater Equal y e f = f
not_greater Greater y e f = e

most_mode : (m : Mode) → mode_number m ≤ 1
most_mode Shared = omega arith
most_mode Exclusive = omega arith

-- the least holding of an object, and the greatest
pub first_on_object : (key : Key) (h : Holding) → key.address ≡ h.key.address → is_gt (holding_cmp (record { key = key; transaction = 0; mode = Shared }) h) ≡ false
first_on_object key h same =
    ap is_gt (tied_then key.address h.key.address _ same) ∙ not_greater (nat_cmp 0 h.transaction) _ (number_upto 0 h.transaction (omega arith)) (number_upto 0 (mode_number h.mode) (omega arith))

pub last_on_object : (key : Key) (h : Holding) → key.address ≡ h.key.address → h.transaction < 2 ^ 32 → is_gt (holding_cmp h (record { key = key; transaction = 4294967295; mode = Exclusive })) ≡ false
last_on_object key h same small =
    ap is_gt (tied_then h.key.address key.address _ (sym same))
    ∙ not_greater (nat_cmp h.transaction 4294967295) _ (number_upto h.transaction 4294967295 (omega arith)) (number_upto (mode_number h.mode) 1 (most_mode h.mode))

-- the least holding of a transaction
pub first_of_transaction : (t : ℕ) (h : Holding) → h.transaction ≡ t → is_gt (owned_cmp (record { transaction = t; key = record { address = 0 }; mode = Shared }) (owned h)) ≡ false
first_of_transaction t h same =
    ap is_gt (tied_then t h.transaction _ (sym same)) ∙ not_greater (nat_cmp 0 h.key.address) _ (number_upto 0 h.key.address (omega arith)) (number_upto 0 (mode_number h.mode) (omega arith))

-- of two holdings of one object, the transaction of the one that is not greater
pub least_on_object : (x h : Holding) → x.key.address ≡ h.key.address → is_gt (holding_cmp x h) ≡ false → x.transaction ≤ h.transaction
least_on_object x h same e = upto_number x.transaction h.transaction _ (sym (ap is_gt (tied_then x.key.address h.key.address _ same)) ∙ e)
