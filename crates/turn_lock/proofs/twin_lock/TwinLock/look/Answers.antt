use Rattle.std.proofs.Common.{rules, ◌≡◌, ◌%◌, ap, subst, sym, ◌∙◌}
use Rattle.turn_lock.specs.TwinSteps.{GetsValue}
use Rattle.turn_lock.specs.TwinPasses.{first_of, first_device_of, passes_of}
use Rattle.turn_lock.proofs.TwinLaws.{looks}
use Rattle.turn_lock.proofs.twin_lock.TwinLock.look.Goals as goal

pub load-requires : goal.load-requires
load-requires g c = let t = g.T.Turns in let w = g.T.Twins in
    (c.loop.invariant.1 ∙ c.requires.pass.lock_is, search rules, rw c.args.self.now.sized.1 (looks t.entries t.stood t.front t.empty_turns t.follows w.beside w.later w.owed (first_of c.args.self.now) (first_device_of c.args.self.now) (passes_of c.args.self.now) _ _ (ap (λ m. m.0.value.stage) c.loop.invariant.2 ∙ c.requires.waits.value)))

pub returns-then-load-ticket-clause-value : goal.returns-then-load-ticket-clause-value
returns-then-load-ticket-clause-value g c = let t = g.T.Turns in let w = g.T.Twins in let same = c.loop.invariant.2 in
    let served : c.load.result ≡ c.args.ticket = search rules in
    let hit = served ∙ (c.requires.waits.ticket_is ∙ ap (λ m. m.0.value.ticket % 18446744073709551616) (sym same)) in
    subst (λ m. GetsValue t.entries t.stood t.front t.empty_turns t.follows (λ f v c. w.beside f v c.device) (λ c d. w.later c.device d.device) m c.load.new.seat.me) same (c.load.ensures.2.0 hit)
