use Rattle.std.proofs.Common.{◌≢◌, inr, subst}
use Rattle.heap_core.specs.Format.{heap_of}
use Rattle.heap_program.specs.Commands.{formatted_line}
use Rattle.heap_program.proofs.CommandLaws.{written_format, format_ends}
use Rattle.heap_program.proofs.RunLaws.{large_made}
use Rattle.heap_program.proofs.Statuses.{written_end, wrote_all}
use Rattle.heap_program.proofs.Written.{wrote_some}
use Rattle.heap_program.proofs.Unfaulted.{keeps_counts, format_counts}
use Rattle.heap_program.specs.declared.status.Status.{Status}
use Rattle.heap_program.specs.declared.status.Status.TheVariants as status
use Rattle.heap_program.proofs.printing.run_format.Goals as goal

pub returns-in-Ok-clause-formats : goal.returns-in-Ok-clause-formats
returns-in-Ok-clause-formats g c tells only =
    let k = g.K.Sink in
    let e = c.in-Ok.ensures in
    let made = e.made tells in
    let s = heap_of c.args.numbers.pages c.args.numbers.log_bytes c.args.numbers.first in
    let before = k.written c.args.sink.now in
    let after = k.written c.write_size.new.sink in
    rw c.status_after.ensures (inr (record {
      format = record { moments = e.moments tells only; empty = made.0; zeros = e.empty tells; kept = e.outside tells; outside = e.moments_outside tells only; only = made.1; passed = (e.passes tells (large_made _ _ e.small)).ok; restarts = e.disk.restarts tells; still = keeps_counts g.D.Disk c.args.disk c.in-Ok.disk tt e.disk };
      written = λ t. record {
        front = wrote_some c.write_size.result before (formatted_line s) after (c.write_size.ensures.wrote t);
        whole = λ done. wrote_all c.write_size.result before (formatted_line s) after done (c.write_size.ensures.wrote t);
      };
      end = written_end c.write_size.result;
    }))

pub returns-in-Ok-clause-ends : goal.returns-in-Ok-clause-ends
returns-in-Ok-clause-ends g c = rw c.status_after.ensures (written_format c.args.numbers _ (written_end c.write_size.result))

pub returns-in-Err-clause-ends : goal.returns-in-Err-clause-ends
returns-in-Err-clause-ends g c = rw c.from.ensures (format_ends c.args.numbers c.in-Err.e)

-- no fault of the disk was ignored
pub returns-in-Ok-clause-unfaulted : goal.returns-in-Ok-clause-unfaulted
returns-in-Ok-clause-unfaulted g c none = keeps_counts g.D.Disk c.args.disk c.in-Ok.disk tt c.in-Ok.ensures.disk

pub returns-in-Err-clause-unfaulted : goal.returns-in-Err-clause-unfaulted
returns-in-Err-clause-unfaulted g c none = format_counts g.D.Disk c.args.disk c.in-Err.disk c.in-Err.e c.in-Err.ensures.disk (subst (λ (s : Status). s ≢ status.DiskFault) c.from.ensures none)
