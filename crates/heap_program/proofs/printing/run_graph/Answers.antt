use Rattle.std.proofs.Common.{◌≡◌, ◌≢◌, inr, arith, refl, subst}
use Rattle.counts.specs.Count.{counted}
use Rattle.graph_model.specs.Transaction.{serial}
use Rattle.graph_model.specs.History.{sealed}
use Rattle.core_laws.proofs.Opening.Opened.{opened_reached}
use Rattle.heap_model.specs.Opening.{opened, opening_calls}
use Rattle.page_store.specs.Gates.{open_gates}
use Rattle.heap_program.specs.Headline.{graph_text}
use Rattle.heap_program.proofs.PlayOpen.{opened_core}
use Rattle.heap_program.proofs.PrintRecovered.{fails_most}
use Rattle.heap_recovery.proofs.FaultLaws.{shaped_readable}
use Rattle.heap_program.proofs.RefusalLaws.{left_outside}
use Rattle.heap_program.proofs.Statuses.{open_end, open_not_done, written_end, wrote_all}
use Rattle.heap_program.proofs.Written.{none_written, wrote_some}
use Rattle.heap_program.proofs.Reopened.{reads_only, refused_memory, outside_memory}
use Rattle.heap_program.proofs.RunLaws.{end_sound, restarts_none}
use Rattle.heap_program.proofs.Unfaulted.{keeps_counts, open_counts}
use Rattle.heap_program.specs.declared.status.Status.{Status}
use Rattle.heap_program.specs.declared.status.Status.TheVariants as status
use Rattle.heap_program.proofs.ImageLaws.{answers_failed, answers_opened}
use Rattle.heap_program.proofs.printing.run_graph.Goals as goal

pub returns-in-Ok-clause-graph : goal.returns-in-Ok-clause-graph
returns-in-Ok-clause-graph g c tells only stored shaped born places graph found =
    let d = g.D.Disk in
    let k = g.K.Sink in
    let e = c.in-Ok.ensures in
    let gates = open_gates stored.super.log_bytes (d.bytes c.args.disk) in
    let core = opened stored gates born places graph in
    let is = e.found tells stored shaped born places graph found in
    let reached = opened_reached stored shaped.log gates born places graph found in
    let before = k.written c.args.sink.now in
    let after = k.written c.write_graph.new.sink in
    let passed : d.passed c.in-Ok.heap.disk ≡ counted (opening_calls stored) (d.passed c.args.disk) = (e.image.shaped tells stored shaped).passes.ok in
    rw (c.close.ensures, c.status_after-status.ensures) (record {
      moments = (e.image.shaped tells stored shaped).moments only;
      left = (e.image.shaped tells stored shaped).crash only;
      outside = left_outside d stored c.args.disk c.in-Ok.heap.disk ((e.image.readable tells stored shaped.log.state (shaped_readable stored (d.bytes c.args.disk) shaped)).moments only);
      calls = record { times = opening_calls stored; most = omega arith; all = λ done. refl; told = passed };
      restarts = e.image.disk.restarts tells;
      holds = λ done. ((e.image.shaped tells stored shaped).holds, e.image.durable tells only);
      settled = λ other. e.image.durable tells only;
      written = λ t. record {
        front = wrote_some c.write_graph.result before (graph_text graph) after (c.write_graph.ensures.wrote t core is reached);
        whole = λ done. wrote_all c.write_graph.result before (graph_text graph) after done (c.write_graph.ensures.wrote t core is reached);
      };
      end = written_end c.write_graph.result;
    })

pub returns-in-Err-clause-graph : goal.returns-in-Err-clause-graph
returns-in-Err-clause-graph g c tells only stored shaped born places graph found =
    let d = g.D.Disk in
    let k = g.K.Sink in
    let e = c.in-Err.ensures in
    let most = fails_most (opening_calls stored) (d.passed c.args.disk) (d.passed c.in-Err.disk) c.in-Err.e ((e.image.shaped tells stored shaped).passes) in
    rw c.from.ensures (record {
      moments = (e.image.shaped tells stored shaped).moments only;
      left = (e.image.shaped tells stored shaped).crash only;
      outside = left_outside d stored c.args.disk c.in-Err.disk ((e.image.readable tells stored shaped.log.state (shaped_readable stored (d.bytes c.args.disk) shaped)).moments only);
      calls = record { times = most.0; most = most.1; all = λ done. absurd (open_not_done c.in-Err.e done); told = most.2 };
      restarts = e.image.disk.restarts tells;
      holds = λ done. absurd (open_not_done c.in-Err.e done);
      settled = λ other. reads_only d c.args.disk c.in-Err.disk ((e.image.left_alone (refused_memory c.in-Err.e (outside_memory c.in-Err.e ((e.image.shaped tells stored shaped).error) other))).contents tells) only;
      written = λ t. record { front = none_written (k.written c.args.sink.now) (graph_text graph); whole = λ done. absurd (open_not_done c.in-Err.e done) };
      end = open_end c.in-Err.e ((e.image.shaped tells stored shaped).error);
    })

pub returns-in-Ok-clause-prints : goal.returns-in-Ok-clause-prints
returns-in-Ok-clause-prints g c tells =
    let k = g.K.Sink in
    let some = opened_core g.D.Disk.tells (g.D.Disk.bytes c.args.disk) c.in-Ok.heap c.in-Ok.ensures.opens c.in-Ok.ensures.sound in
    let core = some.0 in
    let before = k.written c.args.sink.now in
    let after = k.written c.write_graph.new.sink in
    let graph = serial core.g0 (sealed core.history) in
    let wrote = c.write_graph.ensures.wrote tells core some.2 some.1.running.reached in
    rw c.status_after-status.ensures (inr (
      graph,
      record {
        front = wrote_some c.write_graph.result before (graph_text graph) after wrote;
        whole = λ done. wrote_all c.write_graph.result before (graph_text graph) after done wrote;
      },
    ))

-- no fault of the disk was ignored
pub returns-in-Err-clause-unfaulted : goal.returns-in-Err-clause-unfaulted
returns-in-Err-clause-unfaulted g c none = open_counts g.D.Disk c.args.disk c.in-Err.disk c.in-Err.e c.in-Err.ensures.image.disk (subst (λ (s : Status). s ≢ status.DiskFault) c.from.ensures none)

pub returns-in-Ok-clause-unfaulted : goal.returns-in-Ok-clause-unfaulted
returns-in-Ok-clause-unfaulted g c none = rw c.close.ensures (keeps_counts g.D.Disk c.args.disk c.in-Ok.heap.disk tt c.in-Ok.ensures.image.disk)

-- the image was not opened
pub returns-in-Err-clause-image : goal.returns-in-Err-clause-image
returns-in-Err-clause-image g c =
    rw c.from.ensures (answers_failed g.D.Disk c.args.disk c.in-Err.disk _ c.in-Err.e refl c.in-Err.ensures.image (λ tells t image le may. g.met.D.Disk.counts_now tells c.in-Err.disk t image le may))

pub returns-in-Ok-clause-image : goal.returns-in-Ok-clause-image
returns-in-Ok-clause-image g c =
    rw (c.close.ensures, c.status_after-status.ensures) (answers_opened g.D.Disk 0 c.args.disk _ _ _ (end_sound _ (written_end c.write_graph.result)) (λ tells none. (c.in-Ok.ensures.image.not_heap tells none).told) (λ tells at damage. (c.in-Ok.ensures.image.damaged tells at damage).told)
    (λ tells. restarts_none 0 _ _ _ (λ done. refl) (c.in-Ok.ensures.image.disk.restarts tells)))
