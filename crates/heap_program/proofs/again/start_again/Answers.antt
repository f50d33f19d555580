use Rattle.std.proofs.Common.{Some, None, refl, ap, ◌∙◌, subst, arith}
use Rattle.heap_core.specs.Refinement.{IsLeftByStep}
use Rattle.heap_program.proofs.Behind.{first_leaves}
use Rattle.heap_program.proofs.RefusalLaws.{at_end}
use Rattle.counts.specs.Count.{raised}
use Rattle.disk_model.specs.Fuse.{fuse_inner}
use Rattle.heap_program.specs.Headline.{Restarts}
use Rattle.heap_program.proofs.PrintRecovered.{recovers_again, recovers_no_memory, restart_keeps, keeps_then}
use Rattle.heap_program.proofs.Counts.{rose_once, rose_twice}
use Rattle.heap_program.proofs.RunLaws.{restarts_all}
use Rattle.heap_program.proofs.ImageLaws.{never_restarted}
use Rattle.heap_program.proofs.AgainImage.{answers_started, answers_cut, answers_memory}
use Rattle.heap_program.proofs.again.start_again.Goals as goal

-- a restart leaves one of the images that the crash could leave, and so does the opening after it
pub returns-in-None-clause-moments : goal.returns-in-None-clause-moments
returns-in-None-clause-moments g c tells core base leaves =
    let d = g.D.Disk in
    let old = fuse_inner c.args.fuse in
    let first = c.restart-disk.result in
    let final = c.print_recovered.result.1 in
    let started = subst (λ x. Restarts d x first) c.into_inner.ensures (c.restart-disk.ensures.restarts tells) in
    let back = leaves (d.bytes first) started.left in
    let P = IsLeftByStep core base in
    let at = back.commits in
    keeps_then d P old first final (restart_keeps d P old first started leaves) (first_leaves d core at.0 base first final back.outside (c.print_recovered.ensures.keeps tells core at.0 at.1 started.only))

pub returns-in-None-clause-recovers : goal.returns-in-None-clause-recovers
returns-in-None-clause-recovers g c tells core leaves same =
    let d = g.D.Disk in
    let k = g.K.Sink in
    let old = fuse_inner c.args.fuse in
    let first = c.restart-disk.result in
    let final = c.print_recovered.result.1 in
    let started = subst (λ x. Restarts d x first) c.into_inner.ensures (c.restart-disk.ensures.restarts tells) in
    let back = leaves (d.bytes first) started.left in
    rw c.in-None.is (
      back.0,
      recovers_again d None core back.0 old first first final c.print_recovered.result.0 k.tells (k.written c.args.sink.now) (k.written c.print_recovered.new.sink) started refl
          (c.print_recovered.ensures.recovers tells core back.0 back.1 started.only same),
    )

-- the opening that is cut off leaves the same, and so does the second restart
pub returns-in-Ok-clause-moments : goal.returns-in-Ok-clause-moments
returns-in-Ok-clause-moments g c tells core base leaves =
    let d = g.D.Disk in
    let old = fuse_inner c.args.fuse in
    let first = c.restart-disk.result in
    let mid = c.in-Ok.disk in
    let last = c.restart.result in
    let final = c.print_recovered-in-Ok.result.1 in
    let started = subst (λ x. Restarts d x first) c.into_inner.ensures (c.restart-disk.ensures.restarts tells) in
    let P = IsLeftByStep core base in
    let back = leaves (d.bytes first) started.left in
    let at = back.commits in
    let cut = c.in-Ok.ensures.cut tells core at.0 at.1 started.only in
    let second = c.restart.ensures.restarts tells in
    let opening = first_leaves d core at.0 base first mid back.outside cut.keeps in
    let behind = at_end d first mid P opening (λ t image le may. g.met.D.Disk.counts_now tells mid t image le may) in
    let here = cut.keeps.still (d.bytes last) second.left in
    keeps_then d P old first final (restart_keeps d P old first started leaves)
    (keeps_then d P first mid final opening
    (keeps_then d P mid last final (restart_keeps d P mid last second behind)
    (first_leaves d core at.0 base last final (behind (d.bytes last) second.left).outside (c.print_recovered-in-Ok.ensures.keeps tells core at.0 here second.only))))

pub returns-in-Ok-clause-recovers : goal.returns-in-Ok-clause-recovers
returns-in-Ok-clause-recovers g c tells core leaves same =
    let d = g.D.Disk in
    let k = g.K.Sink in
    let old = fuse_inner c.args.fuse in
    let first = c.restart-disk.result in
    let last = c.restart.result in
    let final = c.print_recovered-in-Ok.result.1 in
    let started = subst (λ x. Restarts d x first) c.into_inner.ensures (c.restart-disk.ensures.restarts tells) in
    let back = leaves (d.bytes first) started.left in
    let cut = c.in-Ok.ensures.cut tells core back.0 back.1 started.only in
    let second = c.restart.ensures.restarts tells in
    let here = cut.keeps.still (d.bytes last) second.left in
    rw c.in-Some.is (
      back.0,
      recovers_again d (Some c.in-Some.calls) core back.0 old first last final c.print_recovered-in-Ok.result.0 k.tells (k.written c.args.sink.now) (k.written c.print_recovered-in-Ok.new.sink) started (c.in-Ok.disk, cut, second)
          (c.print_recovered-in-Ok.ensures.recovers tells core back.0 here second.only same),
    )

-- memory ran out in the opening that was to be cut off
pub returns-in-Err-clause-moments : goal.returns-in-Err-clause-moments
returns-in-Err-clause-moments g c tells core base leaves =
    let d = g.D.Disk in
    let old = fuse_inner c.args.fuse in
    let first = c.restart-disk.result in
    let final = c.in-Err.disk in
    let started = subst (λ x. Restarts d x first) c.into_inner.ensures (c.restart-disk.ensures.restarts tells) in
    let P = IsLeftByStep core base in
    let back = leaves (d.bytes first) started.left in
    let at = back.commits in
    let fails = c.in-Err.ensures.cut tells core at.0 at.1 started.only in
    keeps_then d P old first final (restart_keeps d P old first started leaves) (first_leaves d core at.0 base first final back.outside fails.keeps)

pub returns-in-Err-clause-recovers : goal.returns-in-Err-clause-recovers
returns-in-Err-clause-recovers g c tells core leaves same =
    let d = g.D.Disk in
    let k = g.K.Sink in
    let old = fuse_inner c.args.fuse in
    let first = c.restart-disk.result in
    let started = subst (λ x. Restarts d x first) c.into_inner.ensures (c.restart-disk.ensures.restarts tells) in
    let back = leaves (d.bytes first) started.left in
    let fails = c.in-Err.ensures.cut tells core back.0 back.1 started.only in
    rw c.in-Some.is (back.0, recovers_no_memory d c.in-Some.calls core back.0 old first c.in-Err.disk k.tells (k.written c.args.sink.now) started fails)

pub returns-in-None-clause-started : goal.returns-in-None-clause-started
returns-in-None-clause-started g c tells =
    let d = g.D.Disk in
    let started = subst (λ x. Restarts d x c.restart-disk.result) c.into_inner.ensures (c.restart-disk.ensures.restarts tells) in
    rose_once _ _ (never_restarted _ _ _ (c.print_recovered.ensures.image.restarts tells) ∙ started.restarts)

pub returns-in-Ok-clause-started : goal.returns-in-Ok-clause-started
returns-in-Ok-clause-started g c tells =
    let d = g.D.Disk in
    let started = subst (λ x. Restarts d x c.restart-disk.result) c.into_inner.ensures (c.restart-disk.ensures.restarts tells) in
    rose_twice _ _ (never_restarted _ _ _ (c.print_recovered-in-Ok.ensures.image.restarts tells) ∙ (c.restart.ensures.restarts tells).restarts ∙ ap raised (c.in-Ok.ensures.restarts tells ∙ started.restarts))

pub returns-in-Err-clause-started : goal.returns-in-Err-clause-started
returns-in-Err-clause-started g c tells =
    let d = g.D.Disk in
    let started = subst (λ x. Restarts d x c.restart-disk.result) c.into_inner.ensures (c.restart-disk.ensures.restarts tells) in
    rose_once _ _ (c.in-Err.ensures.restarts tells ∙ started.restarts)

-- What a crash leaves has the fault of the image, so it is reported again; at each moment, in a restart and in each opening after one, the fault stays.
pub returns-in-None-clause-image : goal.returns-in-None-clause-image
returns-in-None-clause-image g c tells =
    let d = g.D.Disk in
    let old = fuse_inner c.args.fuse in
    let first = c.restart-disk.result in
    let started = subst (λ x. Restarts d x first) c.into_inner.ensures (c.restart-disk.ensures.restarts tells) in
    rw c.in-None.is (answers_started d old first _ _ _ started (restarts_all 1 _ _ _ (never_restarted _ _ _ (c.print_recovered.ensures.image.restarts tells) ∙ started.restarts)) tells c.print_recovered.ensures.image)

-- also in the opening that is cut off, and in the second restart
pub returns-in-Ok-clause-image : goal.returns-in-Ok-clause-image
returns-in-Ok-clause-image g c tells =
    let d = g.D.Disk in
    let old = fuse_inner c.args.fuse in
    let first = c.restart-disk.result in
    let cut = c.in-Ok.disk in
    let last = c.restart.result in
    let started = subst (λ x. Restarts d x first) c.into_inner.ensures (c.restart-disk.ensures.restarts tells) in
    let again = c.restart.ensures.restarts tells in
    let image = c.print_recovered-in-Ok.ensures.image in
    let restarts = never_restarted _ _ _ (image.restarts tells) ∙ again.restarts ∙ ap raised (c.in-Ok.ensures.restarts tells ∙ started.restarts) in
    let second = answers_started d cut last _ _ _ again (restarts_all 1 _ _ _ (never_restarted _ _ _ (image.restarts tells) ∙ again.restarts)) tells image in
    rw c.in-Some.is (answers_cut d old first cut _ _ _ started (restarts_all 2 _ _ _ restarts) (c.in-Ok.ensures.keeps tells started.only) (λ t left le may. g.met.D.Disk.counts_now tells cut t left le may) second)

-- memory ran out in the opening that was to be cut off
pub returns-in-Err-clause-image : goal.returns-in-Err-clause-image
returns-in-Err-clause-image g c tells =
    let d = g.D.Disk in
    let old = fuse_inner c.args.fuse in
    let first = c.restart-disk.result in
    let started = subst (λ x. Restarts d x first) c.into_inner.ensures (c.restart-disk.ensures.restarts tells) in
    rw c.in-Some.is (answers_memory d old first c.in-Err.disk _ refl started (record { times = 1; most = omega arith; all = λ is. cc; told = c.in-Err.ensures.restarts tells ∙ started.restarts }) (c.in-Err.ensures.keeps tells started.only))
