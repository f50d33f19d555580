use Rattle.std.proofs.Common.{rules, sym, ap, ◌∙◌, ◌∷◌, Some}
use Rattle.atomic_table.specs.Table.{rest}
use Rattle.turn_lock.specs.declared.twin_view.Cell.TheVariants.{OfValue}
use Rattle.turn_lock.proofs.twin_lock.TwinLock.take.Goals as goal

pub exchange-requires : goal.exchange-requires
exchange-requires g c = let slot = c.requires.slot in
    (search rules, (OfValue (Some slot.0), slot.1 ∙ ap (λ l. (0, OfValue (Some slot.0)) ∷ l) (ap rest (sym slot.1))))
