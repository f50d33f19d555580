-- The three lists are what the transaction names.
use Rattle.std.proofs.Common.{◌≡◌, ◌++◌, reverse, refl, ap, ◌∙◌, subst}
use Rattle.std.specs.List.{flat_map}
use Rattle.volatile_area.specs.Area.{starts_of}
use Rattle.txn_table.specs.Roots.{AddsNamed, referred_from, named_by}
use Rattle.txn_table.specs.Table.{TransactionState}
use Rattle.txn_table.proofs.RootsLaws.{adds_named}
use Rattle.txn_table.proofs.SlotLaws.{on_ok}
use Rattle.txn_table.proofs.transaction.Transaction.add_roots.Goals as goal

pub returns : goal.returns
returns c =
    let kept = c.self.inside in
    let old = c.args.roots.now.items in
    let new = c.add_written.new.roots.items in
    let t : TransactionState = record { number = kept.number; handles = kept.handles; undo = reverse kept.undo.items; area = kept.area } in
    let Adds : TransactionState → Type 0 = λ u. AddsNamed u old new in
    on_ok c.add_written.result (λ (is : new ≡ c.add_fields.new.roots.items ++ flat_map named_by c.deref.result.now).
    subst Adds c.self.view_is
    (adds_named t kept.undo.items old new refl
    (is
    ∙ ap (λ us. c.add_fields.new.roots.items ++ flat_map named_by us) c.deref.ensures.value
    ∙ ap (λ xs. xs ++ flat_map named_by kept.undo.items)
    (c.in_ok-add_fields.ensures ∙ ap (λ xs. xs ++ flat_map (referred_from kept.area.words) (starts_of kept.area)) c.in_ok-add_held.ensures)))) c.add_written.ensures
