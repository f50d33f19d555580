use Rattle.disk_model.proofs.MomentLaws.{begins}
use Rattle.logged_pages.specs.OnDisk.{IsLeft}
use Rattle.logged_pages.proofs.DiskLaws.{left_alone}
use Rattle.logged_pages.proofs.logged.LoggedPages.force_up_to.Goals as goal

pub returns-clause-moments : goal.returns-clause-moments
returns-clause-moments g c told only o batches pending is disk =
    let d = g.D.Disk in
    let at = c.args.disk.now in
    begins d.moment d.left_since at (IsLeft o batches pending c.args.self.now (d.bytes at))
    (λ image left. left_alone c.args.self.now (d.bytes at) image o batches pending disk.stands (only image (g.met.D.Disk.only_now told at image left)))
