use Rattle.std.proofs.Common.{rules, ◌+◌, ◌%◌, sym, ap, ◌∙◌, ◌∷◌, None}
use Rattle.atomic_table.specs.Table.{rest}
use Rattle.turn_lock.specs.declared.twin_view.Cell.TheVariants.{OfDevice}
use Rattle.turn_lock.specs.Twin.{device_part}
use Rattle.turn_lock.specs.TwinPasses.{first_of, first_device_of, passes_of}
use Rattle.turn_lock.proofs.TwinLaws.{puts_device}
use Rattle.turn_lock.proofs.twin_lock.TwinLock.pass_device.Goals as goal

pub exchange-requires : goal.exchange-requires
exchange-requires g c = let slot = c.requires.turn.1.slots in
    (search rules, (OfDevice None, slot ∙ ap (λ l. (1, OfDevice None) ∷ l) (ap rest (sym slot))))

pub fetch_add-requires : goal.fetch_add-requires
fetch_add-requires g c = let pass = c.requires.pass in let turn = c.requires.turn in let left = c.requires.left in let old = c.requires.beside in let t = g.T.Turns in let w = g.T.Twins in (
  search rules,
  search rules,
  rw (c.args.self.now.sized.1, left.0, left.1) (puts_device t.entries t.stood t.front t.empty_turns t.follows w.beside w.later w.owed (first_of c.args.self.now) (first_device_of c.args.self.now) (passes_of c.args.self.now) _ c.args.pass.now.seat.me _ c.args.counted old.0 c.args._owes c.exchange.ensures.3 turn.1.device pass.first_device_is pass.number old.1
      (ap (λ l. device_part (rest l)) turn.1.slots ∙ turn.1.alone) turn.1.none_seen (turn.2 ∙ ap (λ n. (n + 1) % 18446744073709551616) (sym turn.1.turns_is)) w.later_itself w.later_on old.2),
)
