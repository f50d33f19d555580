use Rattle.std.proofs.Common.{◌∙◌, arith}
use Rattle.log_records.proofs.Spelled.{is_word, found_fix, has_fix}
use Rattle.log_records.proofs.decoding.fix_at.Goals as goal

pub returns-in_err-decode-clause-only : goal.returns-in_err-decode-clause-only
returns-in_err-decode-clause-only c rec good begins =
    let u = has_fix rec c.args.bytes.now good begins in
    let w = is_word _ _ (c.read_u64-word.ensures ∙ u.put.word_read) u.put.good.put_word in
    absurd (cc (c.in_err-decode.was, c.decode.ensures.only w.0 w.1 w.2))

pub returns-clause-found : goal.returns-clause-found
returns-clause-found c = (
  record {
    t_fits = c.read_u32.type_inv;
    object_fits = c.read_u32-2.type_inv;
    field_fits = c.read_u16.type_inv;
    put_word = (c.in_ok-decode.field-0, c.in_ok-decode.ensures.found.0, c.in_ok-decode.ensures.found.1);
  },
  found_fix c.args.bytes.now c.read_u32.result c.read_u32-2.result c.read_u16.result
      (record { fits = λ i. omega (arith, c.type_inv.bytes i); t_read = c.read_u32.ensures; object_read = c.read_u32-2.ensures; field_read = c.read_u16.ensures })
      c.read_u64-word.result (omega (arith, c.if-bytes.false)) c.read_u64-word.ensures,
)

pub returns-clause-only : goal.returns-clause-only
returns-clause-only c rec good begins =
    let u = has_fix rec c.args.bytes.now good begins in
    cc (c.read_u32.ensures ∙ u.put.t_read, c.read_u32-2.ensures ∙ u.put.object_read, c.read_u16.ensures ∙ u.put.field_read, c.read_u64-word.ensures ∙ u.put.word_read, u.is)
