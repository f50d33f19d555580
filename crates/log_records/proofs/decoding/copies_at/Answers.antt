use Rattle.std.proofs.Common.{◌∙◌, sym, arith}
use Rattle.log_records.specs.Copies.{copy_bytes}
use Rattle.log_records.specs.Record.{IsObjectCopy}
use Rattle.log_records.proofs.Lists.{next_item, one_list_of}
use Rattle.log_records.proofs.RecordLaws.{one_copy}
use Rattle.log_records.proofs.decoding.copies_at.Goals as goal

pub returns-in_default-clause-only : goal.returns-in_default-clause-only
returns-in_default-clause-only c copies rest size good is =
    let so_far = c.loop.invariant in
    let next = next_item copy_bytes IsObjectCopy one_copy c.loop.copies.items copies c.loop.rest.now rest (omega (arith, so_far.count, size, c.loop-test.true)) so_far.good good (sym so_far.read ∙ is) in
    c.in_default.not-Some next.0 (c.in_ok-copy.ensures.only next.0 next.1 next.2 next.3)

pub returns-clause-only : goal.returns-clause-only
returns-clause-only c copies rest size good is =
    let so_far = c.loop.invariant in
    (one_list_of copy_bytes IsObjectCopy one_copy c.loop.copies.items copies c.loop.rest.now rest (omega (arith, so_far.count, size, c.loop-test.false, c.loop.auto.counter-end)) so_far.good good (sym so_far.read ∙ is)).0
