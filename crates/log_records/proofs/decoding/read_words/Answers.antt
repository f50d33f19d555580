use Rattle.std.proofs.Common.{◌∷◌, [], length, ap, arith, length-append}
use Rattle.log_records.proofs.Words.{words_on, fit_push}
use Rattle.log_records.proofs.decoding.read_words.Goals as goal

pub loop-i-preserved : goal.loop-i-preserved
loop-i-preserved c =
    let now = c.in_ok-push.ensures.items in
    let on = words_on c.args.bytes.now c.loop-i.words.items c.loop-i.i c.read_u64.result (λ i. omega (arith, c.type_inv.bytes i)) (omega (arith, c.requires, c.loop-i-test.true)) c.loop-i.invariant.read c.read_u64.ensures in
    record {
      count = omega (arith, ap length now, length-append c.loop-i.words.items (c.read_u64.result ∷ []), c.loop-i.invariant.count);
      len = omega (arith, c.in_ok-push.ensures.len, c.loop-i.invariant.len);
      fit = rw now (fit_push c.loop-i.words.items c.read_u64.result c.loop-i.invariant.fit c.read_u64.type_inv);
      read = rw now on;
    }
