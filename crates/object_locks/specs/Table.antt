-- How the table keeps what is held.
use Rattle.std.specs.Prelude.{◌≡◌, ℕ, ◌<◌, ◌^◌, Bool, true, false, List, if◌then◌else◌}
use Rattle.std.specs.Ordering.{nat_cmp, ordering_then}
use Rattle.std.specs.declared.cmp.Ordering.{Ordering}
use Rattle.std.specs.Coded.{Coded, code_by, coded×, coded_ℕ, coded_bool}
use Rattle.std.specs.declared.ops.Bound.TheVariants.{Included}
use Rattle.std.specs.FinSet as set
use Rattle.std.specs.List.{filter}
use Rattle.std.specs.BTreeMap.Range.{range_contains}
use Rattle.std.specs.BTreeSet.{BTreeSet}
use Rattle.std.specs.BTreeSet as tree
use Rattle.std.proofs.Common.{refl}
use Rattle.object_locks.specs.declared.holding.Key.{Key}
use Rattle.object_locks.specs.declared.holding.Mode.{Mode}
use Rattle.object_locks.specs.declared.holding.Mode.TheVariants.{Shared, Exclusive}
use Rattle.object_locks.specs.declared.holding.Holding.{Holding}
use Rattle.object_locks.specs.declared.lock_table.Owned.{Owned}
use Rattle.object_locks.specs.Holdings.{Holdings, holding_cmp, mode_number}

abbrev is_exclusive : Mode → Bool
is_exclusive Shared = false
is_exclusive Exclusive = true

abbrev mode_of : Bool → Mode
mode_of b = if b then Exclusive else Shared

abbrev mode_back : (m : Mode) → mode_of (is_exclusive m) ≡ m
mode_back Shared = refl
mode_back Exclusive = refl

abbrev pub mode_code : Coded Mode
mode_code = code_by Bool coded_bool is_exclusive mode_of mode_back

abbrev pub holdings_code : Coded Holdings
holdings_code =
    set.code
    (code_by (ℕ × (ℕ × Mode)) (coded× coded_ℕ (coded× coded_ℕ mode_code)) (λ h. (h.key.address, (h.transaction, h.mode)))
    (λ p. record { key = record { address = p.0 }; transaction = p.1.0; mode = p.1.1 })
    (λ _. refl))

-- holdings by their transactions, and then in their usual order
abbrev pub owned_cmp : Owned → Owned → Ordering
owned_cmp a b =
    ordering_then (nat_cmp a.transaction b.transaction)
    (ordering_then (nat_cmp a.key.address b.key.address) (nat_cmp (mode_number a.mode) (mode_number b.mode)))

-- a holding, by its transaction
abbrev pub owned : Holding → Owned
owned h = record { transaction = h.transaction; key = h.key; mode = h.mode }

-- Both orders have the same holdings, whose transactions are numbers of 32 bits.
pub record IsTable (by_object : BTreeSet Holding) (by_transaction : BTreeSet Owned) : Type 0 where
  pub same : (h : Holding) → tree.contains owned_cmp by_transaction (owned h) ≡ tree.contains holding_cmp by_object h
  pub small : (h : Holding) → tree.contains holding_cmp by_object h ≡ true → h.transaction < 2 ^ 32

-- whether a holding stands between the first possible one of an object and its last
abbrev pub of_object : Key → Holding → Bool
of_object key h =
    range_contains holding_cmp (Included (record { key = key; transaction = 0; mode = Shared })) (Included (record { key = key; transaction = 4294967295; mode = Exclusive })) h

-- the holdings of one object
abbrev pub on_object : BTreeSet Holding → Key → List Holding
on_object held key = filter (of_object key) held.keys

-- a holding of transaction t
abbrev pub IsOf : Holdings → ℕ → Holding → Type 0
IsOf held t h = (h.transaction ≡ t) × (set.contains held h ≡ true)

-- transaction t holds nothing
abbrev pub HasNone : Holdings → ℕ → Type 0
HasNone held t = (h : Holding) → IsOf held t h → ⊥
