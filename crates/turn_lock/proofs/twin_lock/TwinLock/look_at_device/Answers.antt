use Rattle.std.proofs.Common.{rules, ◌≡◌, ◌%◌, ap, sym, subst, ◌∙◌}
use Rattle.turn_lock.specs.Tied.{no_entries, turns_of}
use Rattle.turn_lock.specs.TwinSteps.{GetsDevice}
use Rattle.turn_lock.specs.TwinPasses.{first_of, first_device_of, passes_of}
use Rattle.turn_lock.proofs.TwinLaws.{looks_for_device}
use Rattle.turn_lock.proofs.twin_lock.TwinLock.look_at_device.Goals as goal

pub load-served-requires : goal.load-served-requires
load-served-requires g c = let t = g.T.Turns in let w = g.T.Twins in
    (c.loop.invariant.1 ∙ c.requires.pass.lock_is, search rules, rw c.args.self.now.sized.1 (looks_for_device t.entries t.stood t.front t.empty_turns t.follows w.beside w.later w.owed (first_of c.args.self.now) (first_device_of c.args.self.now) (passes_of c.args.self.now) _ _ w.later_itself (ap (λ m. m.0.device.stage) c.loop.invariant.2 ∙ c.requires.waits.device)))

pub returns-then-served-ticket-clause-device : goal.returns-then-served-ticket-clause-device
returns-then-served-ticket-clause-device g c = let t = g.T.Turns in let w = g.T.Twins in let same = c.loop.invariant.2 in
    let served : c.load-served.result ≡ c.args.ticket = search rules in
    let hit = served ∙ (c.requires.waits.ticket_is ∙ ap (λ m. m.0.device.ticket % 18446744073709551616) (sym same)) in
    subst (λ m. GetsDevice t.entries t.follows (λ f v c. w.beside f v c.device) no_entries turns_of (λ c d. w.later c.device d.device) m c.load-served.new.seat.me) same (c.load-served.ensures.2.0 hit)
