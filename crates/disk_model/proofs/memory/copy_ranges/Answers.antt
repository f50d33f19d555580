use Rattle.std.proofs.Common.{sym, ap, ◌∙◌, arith}
use Rattle.disk_model.specs.Disk.{overwrite, part}
use Rattle.disk_model.proofs.Blended.{blended-nil}
use Rattle.disk_model.proofs.Ranges.{fits_at, blended_more}
use Rattle.disk_model.proofs.memory.copy_ranges.Goals as goal

pub loop-call-init : goal.loop-call-init
loop-call-init c = sym (blended-nil c.args.from.now c.args.to.now)

pub copy_range-requires-clause-in_to : goal.copy_range-requires-clause-in_to
copy_range-requires-clause-in_to c =
    let fits = fits_at c.args.calls.now c.loop-call.call-index _ c.loop-call-test.true _ _ c.range-at.ensures c.requires.fit in
    omega (arith, fits)

pub copy_range-requires-clause-in_from : goal.copy_range-requires-clause-in_from
copy_range-requires-clause-in_from c =
    let fits = fits_at c.args.calls.now c.loop-call.call-index _ c.loop-call-test.true _ _ c.range-at.ensures c.requires.fit in
    omega (arith, fits)

pub loop-call-preserved : goal.loop-call-preserved
loop-call-preserved c =
    let fits = fits_at c.args.calls.now c.loop-call.call-index _ c.loop-call-test.true _ _ c.range-at.ensures c.requires.fit in
    c.copy_range.ensures
    ∙ ap (λ to. overwrite to c.range-at.result.0 (part c.args.from.now c.range-at.result.0 c.range-at.result.1)) c.loop-call.invariant
    ∙ blended_more c.args.calls.now c.loop-call.call-index _ c.loop-call-test.true _ _ _ c.range-at.ensures c.requires.size fits
