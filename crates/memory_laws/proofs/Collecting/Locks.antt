-- The locks on objects that a flip copied are on the copies.
use Rattle.std.proofs.Common.{◌≡◌, ℕ, true, List, map, Some, sym, ap, ◌∙◌, subst}
use Rattle.std.specs.Prelude.{Contains}
use Rattle.std.specs.FinSet as set
use Rattle.std.specs.FinSet.{contains-from_list, contains-items, items}
use Rattle.std.specs.Ordering.{eq_by_cmp}
use Rattle.graph_model.specs.Graph.{Graph}
use Rattle.graph_model.specs.History.{Account}
use Rattle.relocation.specs.Relocation.{moved_to}
use Rattle.object_locks.specs.declared.holding.Holding.{Holding}
use Rattle.object_locks.proofs.HoldingOrder.{holding_total}
use Rattle.object_locks.specs.Holdings.{Holdings, holding_cmp, moved_with, rekeyed}
use Rattle.graph_words.specs.Places.{Places, address_of}
use Rattle.core_laws.proofs.Collecting.Roots.{any_of}
use Rattle.memory_laws.specs.CoreMemory.{AreHeld, IsHeld}
use Rattle.memory_laws.proofs.Collecting.Lists.{any_found, of_map, to_map}
use Rattle.memory_laws.proofs.Kept.Locks.{as_held, itself, of_held, same_key}

-- What is held then, was held before.
rekeyed_was : (pairs : List (ℕ × ℕ)) (held : Holdings) (h : Holding) → set.contains (rekeyed pairs held) h ≡ true → (x : Holding) × (set.contains held x ≡ true) × (moved_with pairs x ≡ h)
rekeyed_was pairs held h has =
    let found = any_found (eq_by_cmp holding_cmp h) (map (moved_with pairs) (items held)) (sym (contains-from_list holding_total (map (moved_with pairs) (items held)) h) ∙ has) in
    let one = of_map (moved_with pairs) (items held) found.0 found.1 in
    (one.0, contains-items held one.0 ∙ any_of (eq_by_cmp holding_cmp one.0) (items held) one.0 one.1 (itself one.0), one.2 ∙ sym (same_key h found.0 found.2))

-- and the other way round
to_rekeyed : (pairs : List (ℕ × ℕ)) (held : Holdings) (x : Holding) → set.contains held x ≡ true → set.contains (rekeyed pairs held) (moved_with pairs x) ≡ true
to_rekeyed pairs held x has =
    let found = any_found (eq_by_cmp holding_cmp x) (items held) (sym (contains-items held x) ∙ has) in
    let listed = subst (Contains (items held)) (sym (same_key x found.0 found.2)) found.1 in
    let h = moved_with pairs x in
    contains-from_list holding_total (map (moved_with pairs) (items held)) h
    ∙ any_of (eq_by_cmp holding_cmp h) (map (moved_with pairs) (items held)) h (to_map (moved_with pairs) (items held) x listed) (itself h)

-- Where locked objects went along, and no others are locked, the locks of the table are those of the model.
pub held_along : (locks : Holdings) (places currents : Places) (g0 : Graph) (a : Account) (pairs : List (ℕ × ℕ)) → AreHeld locks places g0 a
    → ((h : Holding) (x : IsHeld places g0 a h) → address_of currents x.id ≡ Some (moved_to pairs h.key.address))
    → ((h : Holding) (x : IsHeld currents g0 a h) → (at : ℕ) × (address_of places x.id ≡ Some at) × (h.key.address ≡ moved_to pairs at))
    → AreHeld (rekeyed pairs locks) currents g0 a
held_along locks places currents g0 a pairs all goes was h = (
  λ has.
      let from = rekeyed_was pairs locks h has in
      let x = (all from.0).0 from.1 in
      subst (IsHeld currents g0 a) from.2 (as_held currents g0 a (moved_with pairs from.0) x.id (goes from.0 x) (of_held places g0 a from.0 x)),
  λ x.
      let before = was h x in
      let from : Holding = record { key = record { address = before.0 }; transaction = h.transaction; mode = h.mode } in
      let held_before = (all from).1 (as_held places g0 a from x.id before.1 (of_held currents g0 a h x)) in
      let same : moved_with pairs from ≡ h = ap (λ (at : ℕ). record from { key = record { address = at } }) (sym before.2) in
      subst (λ (y : Holding). set.contains (rekeyed pairs locks) y ≡ true) same (to_rekeyed pairs locks from held_before),
)
