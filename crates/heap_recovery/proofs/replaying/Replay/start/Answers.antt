use Rattle.std.proofs.Common.{Some, refl, ap, sym, subst}
use Rattle.log_machine.specs.Replay.{Bounds}
use Rattle.log_machine.proofs.ReplayLaws.{bounds_start}
use Rattle.heap_recovery.proofs.replaying.Replay.start.Goals as goal

pub returns-clause-none : goal.returns-clause-none
returns-clause-none c = record {
  plan = c.requires.plan;
  unfailed = c.requires.unfailed;
  size = c.requires.words;
  lsns_size = c.requires.lsns;
  flushed = c.requires.clean;
  bounds = subst (Bounds c.args.of.pages 0) (sym c.start.ensures) (bounds_start c.args.of.pages c.args.of.first);
  all = λ _. record { reached = ap Some (sym c.start.ensures); pages = refl };
  stuck = λ lsn is. absurd (cc is);
}
