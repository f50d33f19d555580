use Rattle.std.proofs.Common.{◌≡◌, ℕ, ◌*◌, List, refl, ap, ◌∙◌, arith}
use Rattle.disk_model.specs.Disk.{part}
use Rattle.disk_model.proofs.KeepsLaws.{reads_none, reads_on}
use Rattle.image_plan.specs.Plan.{frame_offset}
use Rattle.page_store.proofs.Opening.{read_none}
use Rattle.page_store.proofs.store.read_pages.Goals as goal

pub loop-p-init : goal.loop-p-init
loop-p-init g c = record {
  few = omega arith;
  pages = c.in_ok-table.ensures.len;
  size = c.in_ok-words.ensures.len;
  read = λ told. read_none c.args.plan.now.log_bytes c.in_ok-table.table.items c.in_ok-words.words.items _ c.in_ok-table.ensures.items c.in_ok-words.ensures.items;
  disk = reads_none g.D.Disk c.args.disk.now tt (λ told. g.met.D.Disk.only_now told c.args.disk.now);
}

pub loop-p-preserved : goal.loop-p-preserved
loop-p-preserved g c =
    let so_far = c.loop-p.invariant in
    let some = c.min-some.result in
    record {
      few = omega (arith, c.min-some.ensures, so_far.few);
      pages = omega (arith, c.in_ok-take_pages.ensures.pages, so_far.pages);
      size = omega (arith, c.in_ok-take_pages.ensures.size, so_far.size);
      read = λ told.
          let image = g.D.Disk.bytes c.args.disk.now in
          let place = frame_offset c.args.plan.now.log_bytes c.loop-p.p 0 in
          let long : some * 1056 ≡ 1056 * some = omega arith in
          let frames : c.deref.result.now ≡ part image place (1056 * some) =
          c.deref.ensures.value ∙ c.in_ok-frames.ensures.bytes told ∙ ap (λ (l : List ℕ). part l c.frame_at.result (some * 1056)) (so_far.disk.contents told).bytes
          ∙ ap (λ (at : ℕ). part image at (some * 1056)) c.frame_at.ensures.place ∙ ap (λ (n : ℕ). part image place n) long in
          c.in_ok-take_pages.ensures.read c.args.plan.now.log_bytes image frames (so_far.read told);
      disk = reads_on g.D.Disk c.args.disk.now c.loop-p.disk c.read_bytes.new.disk _ tt _ refl so_far.disk c.in_ok-frames.ensures.disk;
    }
