use Rattle.std.proofs.Common.{◌∙◌, Some, arith}
use Rattle.log_records.proofs.Spelled.{is_word}
use Rattle.log_records.proofs.Listed.{write_read, has_write}
use Rattle.log_records.proofs.decoding.write_at.Goals as goal

pub returns-in_err-decode-clause-only : goal.returns-in_err-decode-clause-only
returns-in_err-decode-clause-only c write rest good is =
    let has = has_write write c.args.bytes.now rest good is in
    let w = is_word _ _ (c.read_u64-word.ensures ∙ has.1) good.1 in
    absurd (cc (c.in_err-decode.was, c.decode.ensures.only w.0 w.1 w.2))

pub returns-clause-found : goal.returns-clause-found
returns-clause-found c = (
  (c.read_u32.type_inv, (c.in_ok-decode.field-0, c.in_ok-decode.ensures.found.0, c.in_ok-decode.ensures.found.1)),
  write_read c.args.bytes.now c.read_u32.result c.read_u64-word.result (λ i. omega (arith, c.type_inv.bytes i)) (omega (arith, c.if-bytes-lt-WRITE_BYTES.false)) c.read_u32.ensures c.read_u64-word.ensures,
)

pub returns-clause-only : goal.returns-clause-only
returns-clause-only c write rest good is =
    let has = has_write write c.args.bytes.now rest good is in
    let address = c.read_u32.ensures ∙ has.0 in
    let word = c.read_u64-word.ensures ∙ has.1 in
    λ i. Some (address i, word i)
