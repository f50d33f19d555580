use Rattle.std.proofs.Common.{replicate, length, sym, ap, ◌∙◌, arith}
use Rattle.std.proofs.lemmas.List.{length-replicate}
use Rattle.disk_model.specs.Disk.{overwrite, part}
use Rattle.disk_model.proofs.Blended.{blended-nil}
use Rattle.disk_model.proofs.Ranges.{fits_at, blended_more, part-replicate}
use Rattle.disk_model.proofs.memory.fill_ranges.Goals as goal

pub loop-call-init : goal.loop-call-init
loop-call-init c = sym (blended-nil _ c.args.image.now)

pub fill_range-requires : goal.fill_range-requires
fill_range-requires c =
    let fits = fits_at c.args.calls.now c.loop-call.call-index _ c.loop-call-test.true _ _ c.range-at.ensures c.requires in
    omega (arith, fits)

pub loop-call-preserved : goal.loop-call-preserved
loop-call-preserved c =
    let fits = fits_at c.args.calls.now c.loop-call.call-index _ c.loop-call-test.true _ _ c.range-at.ensures c.requires in
    c.fill_range.ensures
    ∙ ap (λ bytes. overwrite c.loop-call.image c.range-at.result.0 bytes) (sym (part-replicate (length c.args.image.now) _ _ _ fits))
    ∙ ap (λ image. overwrite image c.range-at.result.0 (part (replicate (length c.args.image.now) c.args.byte) c.range-at.result.0 c.range-at.result.1)) c.loop-call.invariant
    ∙ blended_more c.args.calls.now c.loop-call.call-index _ c.loop-call-test.true _ _ _ c.range-at.ensures (length-replicate _ _) fits
