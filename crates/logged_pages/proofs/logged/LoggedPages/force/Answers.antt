use Rattle.std.proofs.Common.{refl}
use Rattle.disk_model.proofs.MomentLaws.{weaker}
use Rattle.gated_log.specs.Log.{with_batch}
use Rattle.logged_pages.specs.OnDisk.{IsLeft}
use Rattle.logged_pages.proofs.CarriedLaws.{on_both}
use Rattle.logged_pages.proofs.DiskLaws.{knows_still, left_by_force, stands_more, stands_still}
use Rattle.logged_pages.proofs.logged.LoggedPages.force.Goals as goal

pub returns-clause-on_disk : goal.returns-clause-on_disk
returns-clause-on_disk g c told o batches pending is disk =
    let old = c.args.self.now in
    let before = g.D.Disk.bytes c.args.disk.now in
    let image = g.D.Disk.bytes c.force-forced.new.disk in
    on_both c.force-forced.result
    (λ held outside. record {
      stands = stands_still o (with_batch batches pending) old _ image c.force-forced.ensures.at c.force-forced.ensures.same_room refl
          (stands_more old before image outside o batches pending disk.stands held.1);
      frames = knows_still old before image outside disk.frames;
    })
    (c.force-forced.ensures.held told batches pending is.log disk.stands.log) (c.force-forced.ensures.outside told)

pub returns-clause-moments : goal.returns-clause-moments
returns-clause-moments g c told only o batches pending is disk =
    let d = g.D.Disk in
    let old = c.args.self.now in
    let before = d.bytes c.args.disk.now in
    weaker d.moment d.left_since c.args.disk.now c.force-forced.new.disk _ (IsLeft o batches pending old before)
    (c.force-forced.ensures.moments told only batches pending is.log disk.stands.log)
    (λ image left. left_by_force old before image left.0 o batches pending disk.stands left.1)
