use Rattle.std.proofs.Common.{rules, sym, ap, ◌∙◌, ◌∷◌, Some}
use Rattle.atomic_table.specs.Table.{rest}
use Rattle.turn_lock.proofs.lock.TurnLock.take.Goals as goal

pub exchange-requires : goal.exchange-requires
exchange-requires g c = let slot = c.requires.slot in
    (search rules, (Some slot.0, slot.1 ∙ ap (λ l. (0, Some slot.0) ∷ l) (ap rest (sym slot.1))))
