use Rattle.std.proofs.Common.{rules, sym, ap, ◌∙◌, ◌∷◌, None}
use Rattle.atomic_table.specs.Table.{rest}
use Rattle.turn_lock.specs.declared.twin_view.Cell.TheVariants.{OfValue}
use Rattle.turn_lock.proofs.twin_lock.TwinLock.put_back.Goals as goal

pub exchange-requires : goal.exchange-requires
exchange-requires g c = let slot = c.requires.slot in
    (search rules, (OfValue None, slot ∙ ap (λ l. (0, OfValue None) ∷ l) (ap rest (sym slot))))
