use Rattle.std.proofs.Common.{◌∷◌, ◌++◌, ◌∙◌, ℕ, List, [], length, ap, sym, arith, length-append}
use Rattle.std.proofs.lemmas.List.{take_rest}
use Rattle.log_records.specs.Copies.{write_bytes}
use Rattle.log_records.specs.Record.{IsWrite}
use Rattle.log_records.proofs.Lists.{all_push, read_on, next_item, one_list_of}
use Rattle.log_records.proofs.RecordLaws.{one_write}
use Rattle.log_records.proofs.decoding.writes_at.Goals as goal

pub returns-in_default-clause-only : goal.returns-in_default-clause-only
returns-in_default-clause-only c writes rest size good is =
    let so_far = c.loop.invariant in
    let next = next_item write_bytes IsWrite one_write c.loop.writes.items writes c.loop.rest.now rest (omega (arith, so_far.count, size, c.loop-test.true)) so_far.good good (sym so_far.read ∙ is) in
    c.in_default.not-Some next.0 (c.write_at.ensures.only next.0 next.1 next.2 next.3)

pub loop-preserved : goal.loop-preserved
loop-preserved c =
    let so_far = c.loop.invariant in
    let now = c.in_ok-push.ensures.items in
    let found = c.in-Some.ensures.found in
    let next = found.1 ∙ ap (λ (l : List ℕ). write_bytes c.in-Some.write ++ l) (sym (take_rest c.loop.rest.now 12)) in
    record {
      count = omega (arith, ap (λ (l : List (ℕ × ℕ)). length l) now, length-append c.loop.writes.items (c.in-Some.write ∷ []), so_far.count);
      good = rw now (all_push IsWrite c.loop.writes.items c.in-Some.write so_far.good found.0);
      read = rw now (read_on write_bytes c.loop.writes.items c.in-Some.write c.args.bytes.now c.loop.rest.now _ so_far.read next);
    }

pub returns-clause-only : goal.returns-clause-only
returns-clause-only c writes rest size good is =
    let so_far = c.loop.invariant in
    (one_list_of write_bytes IsWrite one_write c.loop.writes.items writes c.loop.rest.now rest (omega (arith, so_far.count, size, c.loop-test.false, c.loop.auto.counter-end)) so_far.good good (sym so_far.read ∙ is)).0
