-- The locked ones, and then those that each slot's transaction names.
use Rattle.std.proofs.Common.{◌≡◌, ◌+◌, ◌≤◌, eqb, List, Option, ℕ, length, None, sym, ap, ◌∙◌, subst, arith}
use Rattle.std.proofs.lemmas.List.{get_or_read}
use Rattle.std.proofs.lemmas.List.Filters.{dedup_is}
use Rattle.txn_table.specs.Roots.{AreRoots}
use Rattle.txn_table.specs.Table.{TransactionState}
use Rattle.txn_table.proofs.RootsLaws.{AreUpto, upto_none, upto_some, upto_empty, are_roots}
use Rattle.txn_table.proofs.txn_table.TxnTable.roots.Goals.{in-Some+in_ok-add_roots, in_default}
use Rattle.txn_table.proofs.txn_table.TxnTable.roots.Goals as goal

pub loop-slot-init : goal.loop-slot-init
loop-slot-init c = upto_none c.args.locks.now c.deref-slot-items.result.now c.in_ok-roots.roots.items c.in_ok-roots.ensures

pub loop-slot-preserved : goal.loop-slot-preserved
loop-slot-preserved c =
    let slots = c.deref-slot-items.result.now in
    let locks = c.args.locks.now in
    let k = c.loop-slot.slot-index in
    let old = c.loop-slot.roots.items in
    let read = get_or_read slots k c.slot-item.result c.loop-slot-test.true c.slot-item.is None in
    let Upto : List ℕ → Type 0 = λ roots. AreUpto locks slots (k + 1) roots in
    elim c.match-slot.branch [
      | in-Some+in_ok-add_roots w ↦
          subst Upto (sym (ap (λ roots. roots.items) w.roots-is))
          (upto_some locks slots k w.in-Some.t old w.add_roots.new.roots.items c.loop-slot.invariant (sym read ∙ w.in-Some.is) w.in_ok-add_roots.ensures)
      | in_default w ↦
          subst Upto (sym (ap (λ roots. roots.items) w.roots-is)) (upto_empty locks slots k old c.loop-slot.invariant (sym read ∙ w.in_default.is))
    ]

pub returns : goal.returns
returns c =
    let kept = c.self.inside in
    let sorted = c.sort_unstable.new.self.items in
    let slots : c.deref-slot-items.result.now ≡ kept.slots.items = c.deref-slot-items.ensures.value in
    let Upto : List (Option TransactionState) → Type 0 = λ xs. AreUpto c.args.locks.now xs c.loop-slot.slot-index c.loop-slot.roots.items in
    let all : length kept.slots.items ≤ c.loop-slot.slot-index = omega (arith, ap length slots, c.loop-slot-test.false) in
    subst (AreRoots c.args.self.now c.args.locks.now) (sym (dedup_is eqb sorted c.dedup.new.self.items c.dedup.ensures.filtered))
    (are_roots kept.next kept.slots.items c.args.self.now c.args.locks.now c.loop-slot.slot-index c.loop-slot.roots.items sorted c.self.view_is all (subst Upto slots c.loop-slot.invariant)
    c.sort_unstable.ensures.permutation c.sort_unstable.ensures.sorted)
