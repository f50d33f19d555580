use Rattle.std.proofs.Common.{◌≡◌, Ok, Err, refl, ap, ◌∙◌, rules}
use Rattle.disk_model.proofs.KeepsLaws.{reads_on}
use Rattle.image_plan.specs.declared.plan.Plan.{Plan}
use Rattle.page_cache.specs.CacheState.{cached}
use Rattle.page_cache.specs.Stored.{stored_pages}
use Rattle.heap_recovery.specs.Causes.{error_device}
use Rattle.heap_recovery.specs.Replayed.{heap_with}
use Rattle.heap_recovery.proofs.LogReplay.{holds_read, some_read, some_readable}
use Rattle.heap_recovery.proofs.read_image.read_log.Goals as goal

pub returns-clause-read : goal.returns-clause-read
returns-clause-read g c =
    let at = cached c.in_ok-cache.cache in
    let found = c.in_ok-log.ensures.found at c.start-replay.ensures.none in
    let stored = heap_with c.args.of at found.0 in
    some_read stored c.finish.result (c.finish.ensures.read stored refl found.1)

pub returns-clause-sound : goal.returns-clause-sound
returns-clause-sound g c tells has =
    let image = g.D.Disk.bytes c.args.disk.now in
    let at = cached c.in_ok-cache.cache in
    let found = c.in_ok-log.ensures.found at c.start-replay.ensures.none in
    let stored = heap_with c.args.of at found.0 in
    let pages = c.in_ok-cache.ensures.stored tells ∙ ap (λ (p : Plan). stored_pages p.pages p.log_bytes image) c.plan.ensures in
    let holds = holds_read c.args.of at found.0 image (g.D.Disk.bytes c.open.new.disk) c.in_ok-log.log c.replay_log.new.replay has pages (c.in_ok-cache.ensures.disk.contents tells).bytes (found.2 tells) found.1 in
    some_readable stored image c.finish.result (c.finish.ensures.read stored refl found.1) (c.finish.ensures.readable stored image holds found.1)

pub returns-clause-refused : goal.returns-clause-refused
returns-clause-refused g c tells has =
    let image = g.D.Disk.bytes c.args.disk.now in
    let at = cached c.in_ok-cache.cache in
    let found = c.in_ok-log.ensures.found at c.start-replay.ensures.none in
    let stored = heap_with c.args.of at found.0 in
    let pages = c.in_ok-cache.ensures.stored tells ∙ ap (λ (p : Plan). stored_pages p.pages p.log_bytes image) c.plan.ensures in
    let holds = holds_read c.args.of at found.0 image (g.D.Disk.bytes c.open.new.disk) c.in_ok-log.log c.replay_log.new.replay has pages (c.in_ok-cache.ensures.disk.contents tells).bytes (found.2 tells) found.1 in
    c.finish.ensures.refused stored image holds found.1

pub returns-in_err-log-clause-disk : goal.returns-in_err-log-clause-disk
returns-in_err-log-clause-disk g c =
    let e = c.in_err-log.field-0.0 in
    let err : c.from_residual-in_err-log.result ≡ Err e = search rules in
    rw err (reads_on g.D.Disk c.args.disk.now c.open.new.disk c.replay_log.new.disk (Ok tt) tt (error_device e) refl c.in_ok-cache.ensures.disk c.in_err-log.ensures.disk)

pub returns-clause-disk : goal.returns-clause-disk
returns-clause-disk g c =
    rw c.finish.ensures.no_disk (reads_on g.D.Disk c.args.disk.now c.open.new.disk c.replay_log.new.disk (Ok tt) tt (Ok tt) refl c.in_ok-cache.ensures.disk c.in_ok-log.ensures.disk)
