use Rattle.std.proofs.Common.{◌≡◌, ℕ, ◌-◌, ◌≤◌, List, length, take, drop, ap, sym, ◌∙◌, arith}
use Rattle.std.proofs.lemmas.List.{take_rest}
use Rattle.gated_log.specs.Reader.{held, untaken}
use Rattle.gated_log.proofs.Reader.{log_short, length-untaken, batch_room, batch_size, size_held}
use Rattle.gated_log.proofs.reading.LogReader.next_length.Goals as goal

pub returns-then-rest-le-BATCH_BYTES-clause-none : goal.returns-then-rest-le-BATCH_BYTES-clause-none
returns-then-rest-le-BATCH_BYTES-clause-none g c log told is nothing has =
    let self = c.args.self.now in
    omega (arith, batch_room (untaken self log) has, length-untaken self log (log_short log _ self.at self.room is), c.if-rest-le-BATCH_BYTES.true)

pub returns-in_default-clause-none : goal.returns-in_default-clause-none
returns-in_default-clause-none g c log told is nothing has =
    let r = c.fill.new.self in
    let same = c.in_ok-fill.ensures.same in
    let enough = c.in_ok-fill.ensures.enough in
    let now = c.deref.result.now in
    let cut : take (length now - r.taken) (drop r.taken now) ≡ held r = take_rest now r.taken ∙ ap (λ (l : List ℕ). drop r.taken l) c.deref.ensures.value in
    let size = c.in-Some.ensures.length in
    let short : length log ≤ r.room = omega (arith, log_short log (g.D.Disk.bytes c.args.disk.now) c.args.self.now.at c.args.self.now.room is, same.room) in
    let most = length-untaken r log short in
    omega (arith, batch_size (untaken r log) c.in-Some.length (size_held r log enough ∙ ap (λ (l : List ℕ). take 4 (drop 1 l)) (sym cut) ∙ size.2) size.0 (omega (arith, most, r.small)) has, most, c.if-length-rest.false, same.room, same.next)
