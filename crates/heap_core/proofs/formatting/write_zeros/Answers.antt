use Rattle.std.proofs.Common.{◌≡◌, ℕ, ◌+◌, ◌≤◌, List, arith, length, get_or, IsTrue, Ok, Err, rules, ◌∙◌, ap, refl}
use Rattle.std.proofs.lemmas.List.{length-replicate}
use Rattle.disk_model.specs.Disk.{overwrite}
use Rattle.disk_model.proofs.KeepsLaws.{keeps_on}
use Rattle.disk_model.proofs.MomentLaws.{goes_on}
use Rattle.heap_core.proofs.Zeros.{crash_on, zero_on, outside_on, zero_at, write_more, some_writes}
use Rattle.heap_core.proofs.Calls.{one_more, ended}
use Rattle.heap_core.proofs.formatting.write_zeros.Goals as goal

pub returns-in_err-write-clause-crash : goal.returns-in_err-write-clause-crash
returns-in_err-write-clause-crash g c tells =
    let d = g.D.Disk in
    let i = c.loop-at.invariant in
    let size : length c.zeros.result.now ≡ c.if-left.piece = ap length c.zeros.ensures ∙ length-replicate c.if-left.piece 0 in
    crash_on c.args.from c.args.end c.loop-at.at (length c.zeros.result.now) (d.may_leave c.args.disk.now) (d.may_leave c.loop-at.disk) (d.may_leave c.write.new.self) i.low (omega arith) (i.crash tells) (c.write.ensures.crash tells)

pub returns-in_err-write-clause-moments : goal.returns-in_err-write-clause-moments
returns-in_err-write-clause-moments g c tells =
    let d = g.D.Disk in
    goes_on d.moment d.left_since c.args.disk.now c.loop-at.disk c.write.new.self _ (d.may_leave c.write.new.self) (c.loop-at.invariant.moments tells) (c.write.ensures.time tells) (returns-in_err-write-clause-crash g c tells)

pub returns-in_err-write-clause-passes : goal.returns-in_err-write-clause-passes
returns-in_err-write-clause-passes g c tells =
    let d = g.D.Disk in
    let err : c.from_residual.result ≡ Err c.in_err-write.field-0.0 = search rules in
    ended _ _ _ _ _ c.from_residual.result c.in_err-write.field-0.0 err (some_writes c.loop-at.at c.args.end (omega arith)) (c.loop-at.invariant.calls tells) (c.in_err-write.ensures.passed tells)

pub loop-at-preserved : goal.loop-at-preserved
loop-at-preserved g c =
    let d = g.D.Disk in
    let i = c.loop-at.invariant in
    let size : length c.zeros.result.now ≡ c.if-left.piece = ap length c.zeros.ensures ∙ length-replicate c.if-left.piece 0 in
    let crash = λ (tells : IsTrue d.tells). crash_on c.args.from c.args.end c.loop-at.at (length c.zeros.result.now) (d.may_leave c.args.disk.now) (d.may_leave c.loop-at.disk) (d.may_leave c.write.new.self) i.low (omega arith) (i.crash tells) (c.write.ensures.crash tells) in
    let whole = λ (tells : IsTrue d.tells). g.met.D.Disk.same_size tells c.loop-at.disk (d.bytes c.loop-at.disk) (g.met.D.Disk.reads_an_image tells c.loop-at.disk) in
    let fits : (tells : IsTrue d.tells) → c.loop-at.at + c.if-left.piece ≤ length (d.bytes c.loop-at.disk) = λ tells. omega (arith, whole tells, i.disk.extent, c.requires.inside) in
    let written : (tells : IsTrue d.tells) → d.bytes c.write.new.self ≡ overwrite (d.bytes c.loop-at.disk) c.loop-at.at c.zeros.result.now = λ tells. c.in_ok-write.ensures.written tells in
    let each : (k : ℕ) → get_or c.zeros.result.now k 0 ≡ 0 = λ k. ap (λ (l : List ℕ). get_or l k 0) c.zeros.ensures ∙ zero_at c.if-left.piece k in
    record {
      low = omega arith;
      high = omega arith;
      zero = λ tells. zero_on c.args.from c.loop-at.at c.if-left.piece (d.bytes c.loop-at.disk) c.zeros.result.now (d.bytes c.write.new.self) i.low (fits tells) size each (written tells) (i.zero tells);
      outside = λ tells. outside_on c.args.from c.loop-at.at c.args.end (d.bytes c.args.disk.now) (d.bytes c.loop-at.disk) c.zeros.result.now (d.bytes c.write.new.self) i.low (omega (arith, size)) (omega (arith, size, fits tells)) (written tells) (i.outside tells);
      crash = crash;
      moments = λ tells. goes_on d.moment d.left_since c.args.disk.now c.loop-at.disk c.write.new.self _ (d.may_leave c.write.new.self) (i.moments tells) (c.write.ensures.time tells) (crash tells);
      calls = λ tells. one_more _ _ _ _ _ _ (write_more c.loop-at.at c.if-left.piece c.args.end (omega arith) (omega arith)) (i.calls tells) (c.in_ok-write.ensures.passed tells);
      disk = keeps_on d c.args.disk.now c.loop-at.disk c.write.new.self (Ok tt) tt (Ok tt) refl i.disk (record { extent = c.write.ensures.extent; origin = c.write.ensures.origin; cause = c.in_ok-write.ensures.cause; restarts = c.write.ensures.restarts });
    }
