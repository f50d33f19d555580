use Rattle.std.proofs.Common.{◌∙◌, suc, [], refl, arith, subst, sym}
use Rattle.heap_program.specs.Causes.{IsFaultless}
use Rattle.heap_program.proofs.ImageLaws.{never_restarted}
use Rattle.heap_program.proofs.Unfaulted.{counts_on}
use Rattle.heap_program.proofs.Written.{front_written}
use Rattle.session_program.specs.Parts.{Place, ServesPart}
use Rattle.session_program.proofs.PartLaws.{on_done, on_error, error_of, last_part, no_part, told_part, untold_part}
use Rattle.session_program.proofs.serving.serve.Goals as goal

pub returns-in-Err-clause-parts : goal.returns-in-Err-clause-parts
returns-in-Err-clause-parts g c =
    let here : Place _ _ _ = record { disk = c.args.disk; held = []; source = c.args.source.now; sink = c.args.sink.now } in
    ([], no_part g.D.Disk g.S.Source g.K.Sink here here 0 refl)

pub returns-in-End-clause-parts : goal.returns-in-End-clause-parts
returns-in-End-clause-parts g c =
    let s = g.S.Source in
    let k = g.K.Sink in
    let d = g.D.Disk in
    let l = c.loop-part in
    let p = c.serve_part-status in
    let old : Place _ _ _ = record { disk = c.args.disk; held = []; source = c.args.source.now; sink = c.args.sink.now } in
    let here : Place _ _ _ = record { disk = l.disk; held = l.reader.held; source = l.source; sink = l.sink } in
    let closed : Place _ _ _ = record { disk = p.result.1; held = p.new.reader.held; source = p.new.source; sink = p.new.sink } in
    let e = p.ensures in
    let part : ServesPart d s k here p.result.0 p.result.2 closed = record {
      done = e.done;
      end = e.end;
      read_fault = e.read_fault;
      write_fault = e.write_fault;
      disk_fault = e.disk_fault;
      unfaulted = e.unfaulted;
      serves = e.serves;
      served = e.served;
      complete = e.complete;
      image = e.image;
    } in
    (p.new.reader.held, last_part d s k old here l.invariant.parts.0 l.invariant.parts.1 p.result.0 p.result.2 closed part c.in-End.is)

pub returns-then-is_err-clause-parts : goal.returns-then-is_err-clause-parts
returns-then-is_err-clause-parts g c =
    let s = g.S.Source in
    let k = g.K.Sink in
    let d = g.D.Disk in
    let l = c.loop-part in
    let p = c.serve_part-status in
    let old : Place _ _ _ = record { disk = c.args.disk; held = []; source = c.args.source.now; sink = c.args.sink.now } in
    let here : Place _ _ _ = record { disk = l.disk; held = l.reader.held; source = l.source; sink = l.sink } in
    let closed : Place _ _ _ = record { disk = p.result.1; held = p.new.reader.held; source = p.new.source; sink = p.new.sink } in
    let e = p.ensures in
    let part : ServesPart d s k here p.result.0 p.result.2 closed = record {
      done = e.done;
      end = e.end;
      read_fault = e.read_fault;
      write_fault = e.write_fault;
      disk_fault = e.disk_fault;
      unfaulted = e.unfaulted;
      serves = e.serves;
      served = e.served;
      complete = e.complete;
      image = e.image;
    } in
    let failed = sym c.is_err.ensures.value ∙ c.if-is_err.true in
    (p.new.reader.held, untold_part d s k old here l.invariant.parts.0 l.invariant.parts.1 p.result.0 p.result.2 closed part c.in-Reopen.is c.put_all.new.sink (c.put_all.ensures.cause.failed (error_of c.put_all.result failed)) (λ t. front_written _ _ _ _ refl (on_error c.put_all.result failed (c.put_all.ensures.front t))))

pub loop-part-preserved : goal.loop-part-preserved
loop-part-preserved g c =
    let s = g.S.Source in
    let k = g.K.Sink in
    let d = g.D.Disk in
    let l = c.loop-part in
    let p = c.serve_part-status in
    let old : Place _ _ _ = record { disk = c.args.disk; held = []; source = c.args.source.now; sink = c.args.sink.now } in
    let here : Place _ _ _ = record { disk = l.disk; held = l.reader.held; source = l.source; sink = l.sink } in
    let closed : Place _ _ _ = record { disk = p.result.1; held = p.new.reader.held; source = p.new.source; sink = p.new.sink } in
    let e = p.ensures in
    let part : ServesPart d s k here p.result.0 p.result.2 closed = record {
      done = e.done;
      end = e.end;
      read_fault = e.read_fault;
      write_fault = e.write_fault;
      disk_fault = e.disk_fault;
      unfaulted = e.unfaulted;
      serves = e.serves;
      served = e.served;
      complete = e.complete;
      image = e.image;
    } in
    let i = l.invariant in
    record {
      fresh = e.fresh c.in-Reopen.is;
      source = omega (arith, i.source, e.read_fault.kept);
      sink = omega (arith, i.sink, e.write_fault.kept, c.put_all.ensures.cause.kept);
      disk = record { extent = e.disk_fault.extent ∙ i.disk.extent; origin = e.disk_fault.origin ∙ i.disk.origin; kept = omega (arith, i.disk.kept, e.disk_fault.kept); cause = λ never. absurd never };
      counts = counts_on d _ _ _ i.counts (e.unfaulted (subst IsFaultless (sym (e.done c.in-Reopen.is)) tt));
      restarts = λ t. never_restarted _ _ _ (e.image.restarts t) ∙ i.restarts t;
      parts = (suc i.parts.0, told_part d s k old here i.parts.0 i.parts.1 p.result.0 p.result.2 closed part c.in-Reopen.is c.put_all.new.sink c.put_all.ensures.cause.kept (λ t. on_done c.put_all.result (sym c.is_err.ensures.value ∙ c.if-is_err.false) (c.put_all.ensures.all t)));
    }

pub returns-clause-parts : goal.returns-clause-parts
returns-clause-parts g c =
    let s = g.S.Source in
    let k = g.K.Sink in
    let d = g.D.Disk in
    let l = c.loop-part in
    let old : Place _ _ _ = record { disk = c.args.disk; held = []; source = c.args.source.now; sink = c.args.sink.now } in
    let here : Place _ _ _ = record { disk = l.disk; held = l.reader.held; source = l.source; sink = l.sink } in
    (l.reader.held, no_part d s k old here l.invariant.parts.0 l.invariant.parts.1)

-- no fault of the disk was ignored
pub returns-in-End-clause-unfaulted : goal.returns-in-End-clause-unfaulted
returns-in-End-clause-unfaulted g c none = counts_on g.D.Disk _ _ _ c.loop-part.invariant.counts (c.serve_part-status.ensures.unfaulted none)

-- nor was the disk restarted
pub returns-in-End-clause-restarts : goal.returns-in-End-clause-restarts
returns-in-End-clause-restarts g c tells = never_restarted _ _ _ (c.serve_part-status.ensures.image.restarts tells) ∙ c.loop-part.invariant.restarts tells

pub returns-then-is_err-clause-restarts : goal.returns-then-is_err-clause-restarts
returns-then-is_err-clause-restarts g c tells = never_restarted _ _ _ (c.serve_part-status.ensures.image.restarts tells) ∙ c.loop-part.invariant.restarts tells
