use Rattle.std.proofs.Common.{get_or, ◌≡◌, ℕ, ◌+◌, ◌-◌, ◌^◌, ◌<◌, ◌≤◌, List, ◌++◌, length, take, drop, refl, ap, sym, ◌∙◌, arith, length-append, length-take}
use Rattle.std.specs.Prelude.{IsTrue}
use Rattle.disk_model.specs.Disk.{part}
use Rattle.std.proofs.lemmas.List.{take_rest, take-take, get_or_default}
use Rattle.log_records.specs.Record.{spelling, spellings}
use Rattle.gated_log.specs.Log.{batches_bytes}
use Rattle.gated_log.specs.Reader.{held, untaken, begun_bytes, IsSameReader}
use Rattle.gated_log.proofs.Reader.{log_still, log_short, first_on, front_held, untaken_on, same_read, breaks, no_batch, gives}
use Rattle.gated_log.proofs.reading.LogReader.take_record.Goals as goal

pub returns-in_default-clause-bad : goal.returns-in_default-clause-bad
returns-in_default-clause-bad g c told log batches begun is read offset same =
    let old = c.args.self.now in
    let f = c.fill.new.self in
    let r = c.fill-2.new.self in
    let first = c.in_ok-fill.ensures in
    let filled = c.in_ok-fill-2.ensures in
    let same_reader : IsSameReader f r = record { at = filled.same.at; room = filled.same.room; next = filled.same.next; tail = filled.same.tail; left = filled.same.left; first = filled.same.first; given = filled.same.given } in
    let still : IsTrue g.D.Disk.tells → log ≡ part (g.D.Disk.bytes c.fill.new.disk) f.at f.room = λ told. log_still log (g.D.Disk.bytes c.args.disk.now) (g.D.Disk.bytes c.fill.new.disk) old.at old.room f.at f.room is (first.disk.contents told).bytes first.same.at first.same.room in
    let on = same_read g.D.Disk.tells log f r batches begun same_reader (filled.untaken log still) (same_read g.D.Disk.tells log old f batches begun first.same (first.untaken log (λ _. is)) read) in
    let some : 0 < r.left = omega (arith, c.requires.some, filled.same.left, first.same.left) in
    let here = on.in_batch some in
    let now = c.deref.result.now in
    let most = c.most_bytes-most.result in
    let cut : take most (take (length now - r.taken) (drop r.taken now)) ≡ take most (untaken r log) =
    ap (λ (l : List ℕ). take most l) (take_rest now r.taken ∙ ap (λ (l : List ℕ). drop r.taken l) c.deref.ensures.value) ∙ sym (front_held r log most filled.enough) in
    let n = length (spellings begun) + r.left in
    let there : f.taken < length f.window.items = omega (arith, first.enough, f.window.ok.0) in
    let byte : get_or f.window.items f.taken 0 ≡ c.index.result.now = get_or_default f.window.items f.taken 0 _ there ∙ sym c.index.ensures in
    let begins = first_on f r log c.index.result.now (filled.untaken log still told) first.enough byte in
    let short : length (begun_bytes n begun ++ untaken r log) < 2 ^ 32 =
    omega (arith, ap (λ (l : List ℕ). length l) (here.bytes told), length-append (batches_bytes batches) (begun_bytes n begun ++ untaken r log), log_short log (g.D.Disk.bytes c.args.disk.now) old.at old.room is, old.small) in
    let at : r.tail ≡ offset = cc (c.from.ensures, same) in
    breaks log (begun_bytes n begun ++ untaken r log) batches offset (here.bytes told) on.good (sym at ∙ on.tail) refl
    (no_batch n r.left most begun (untaken r log) (take most (take (length now - r.taken) (drop r.taken now))) c.in_ok-record.field-0 on.good_begun refl some short cut (λ rec good same_byte fits. c.most_bytes-most.ensures.room rec good (same_byte ∙ begins) (omega (arith, fits, filled.same.left))) c.in_ok-record.ensures.only c.in_default.is (omega (arith, here.next, r.gate, r.small)))

pub returns-clause-given : goal.returns-clause-given
returns-clause-given g c log batches begun is read =
    let old = c.args.self.now in
    let f = c.fill.new.self in
    let r = c.fill-2.new.self in
    let first = c.in_ok-fill.ensures in
    let filled = c.in_ok-fill-2.ensures in
    let same_reader : IsSameReader f r = record { at = filled.same.at; room = filled.same.room; next = filled.same.next; tail = filled.same.tail; left = filled.same.left; first = filled.same.first; given = filled.same.given } in
    let still : IsTrue g.D.Disk.tells → log ≡ part (g.D.Disk.bytes c.fill.new.disk) f.at f.room = λ told. log_still log (g.D.Disk.bytes c.args.disk.now) (g.D.Disk.bytes c.fill.new.disk) old.at old.room f.at f.room (is told) (first.disk.contents told).bytes first.same.at first.same.room in
    let on = same_read g.D.Disk.tells log f r batches begun same_reader (filled.untaken log still) (same_read g.D.Disk.tells log old f batches begun first.same (first.untaken log is) read) in
    let some : 0 < r.left = omega (arith, c.requires.some, filled.same.left, first.same.left) in
    let now = c.deref.result.now in
    let most = c.most_bytes-most.result in
    let rec = c.in-Some.record in
    let size = c.in-Some.size in
    let found = rw c.in-Some.is at c.in_ok-record.ensures.found in
    let cut : take most (take (length now - r.taken) (drop r.taken now)) ≡ take most (held r) =
    ap (λ (l : List ℕ). take most l) (take_rest now r.taken ∙ ap (λ (l : List ℕ). drop r.taken l) c.deref.ensures.value) in
    let few : size ≤ most = omega (arith, ap (λ (l : List ℕ). length l) found.1, found.2, length-take size (take most (take (length now - r.taken) (drop r.taken now))), length-take most (take (length now - r.taken) (drop r.taken now))) in
    let front : take size (held r) ≡ spelling rec = sym (take-take size most (held r) few) ∙ ap (λ (l : List ℕ). take size l) (sym cut) ∙ found.1 in
    gives g.D.Disk.tells log r c.pass.new.self batches begun rec size on some found.0 found.2 (omega (arith, few, c.most_bytes-most.ensures.most, filled.same.left)) c.pass.ensures.next c.pass.ensures.left
    c.pass.ensures.first c.pass.ensures.given (λ some'. c.pass.ensures.inside (omega (arith, some', c.pass.ensures.left))) (λ zero. c.pass.ensures.border (sym c.pass.ensures.left ∙ zero))
    (λ told. untaken_on r c.pass.new.self size log c.pass.ensures.window c.pass.ensures.taken c.pass.ensures.next (omega (arith, few, filled.enough)) ∙ ap (λ (l : List ℕ). l ++ untaken c.pass.new.self log) front)
