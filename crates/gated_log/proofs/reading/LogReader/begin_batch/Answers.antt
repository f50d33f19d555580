use Rattle.std.proofs.Common.{◌≡◌, ℕ, ◌<◌, ◌≤◌, List, [], ◌∷◌, ◌++◌, length, get_or, take, drop, refl, ap, sym, ◌∙◌, arith}
use Rattle.std.specs.Prelude.{IsTrue}
use Rattle.std.specs.Int.{w32, to_le_bytes}
use Rattle.std.proofs.lemmas.List.{take_at, get_or_default}
use Rattle.disk_model.specs.Disk.{part}
use Rattle.gated_log.specs.Reader.{held, held_size, untaken, IsSameReader}
use Rattle.gated_log.proofs.Reader.{log_still, untaken_on, length-held, gate_on, head_is, same_read, begins}
use Rattle.gated_log.proofs.reading.LogReader.begin_batch.Goals as goal

pub returns-clause-begun : goal.returns-clause-begun
returns-clause-begun g c log batches is read begun =
    let old = c.args.self.now in
    let f = c.fill.new.self in
    let r = c.next_length.new.self in
    let new = c.pass.new.self in
    let n = c.in-Some.length in
    let first = c.in_ok-fill.ensures in
    let second = c.in_ok-length.ensures in
    let on : IsTrue g.D.Disk.tells → log ≡ part (g.D.Disk.bytes c.fill.new.disk) f.at f.room = λ told. log_still log (g.D.Disk.bytes c.args.disk.now) (g.D.Disk.bytes c.fill.new.disk) old.at old.room f.at f.room (is told) (first.disk.contents told).bytes first.same.at first.same.room in
    let size = rw c.in-Some.is at second.length in
    let enough : 5 ≤ held_size r = size.0 in
    let same : IsSameReader f r = record { at = second.same.at; room = second.same.room; next = second.same.next; tail = second.same.tail; left = second.same.left; first = second.same.first; given = second.same.given } in
    let read' = same_read g.D.Disk.tells log f r batches [] same (second.untaken log on) (same_read g.D.Disk.tells log old f batches [] first.same (first.untaken log is) read) in
    let here : f.taken < length f.window.items = omega (arith, first.enough, f.window.ok.0) in
    let gate : get_or f.window.items f.taken 0 ≡ 1 = get_or_default f.window.items f.taken 0 _ here ∙ sym c.index.ensures ∙ c.if-index-ne-OPEN.false in
    begins g.D.Disk.tells log r new batches read' (second.same.left ∙ first.same.left ∙ c.requires.border) c.pass.ensures.next c.pass.ensures.first (omega (arith, c.pass.ensures.given))
    (λ some. c.pass.ensures.inside (omega (arith, some, c.pass.ensures.left))) (λ zero. c.pass.ensures.border (sym c.pass.ensures.left ∙ zero))
    (λ told.
    let head = head_is (held r) n (gate_on f r log (second.untaken log on told) first.enough (omega (arith, enough)) gate) size.2 (omega (arith, enough, length-held r)) in
    untaken_on r new 5 log c.pass.ensures.window c.pass.ensures.taken c.pass.ensures.next (omega (arith, enough))
    ∙ ap (λ (l : List ℕ). l ++ untaken new log) (ap (λ (l : List ℕ). take 5 l) head ∙ take_at (1 ∷ to_le_bytes w32 n) (drop 5 (held r)) 5 refl)
    ∙ ap (λ (k : ℕ). (1 ∷ to_le_bytes w32 k) ++ untaken new log) (sym c.pass.ensures.left))
