use Rattle.std.proofs.Common.{◌≡◌, ◌∙◌, arith}
use Rattle.log_records.proofs.Words.{header_read, header_stands}
use Rattle.log_records.proofs.decoding.word_count.Goals as goal

pub returns-then-count-bytes-clause-found : goal.returns-then-count-bytes-clause-found
returns-then-count-bytes-clause-found c =
    let read = header_read c.read_u64.result c.in-Some-Length.fields c.header_of.result c.in-Some-Length.field-0 c.header_of.ensures c.in-Some-Length.is c.in-Some-Length.field-0-is in
    (c.in-Some-Length.fields, read.0, cc, cc (c.read_u64.ensures, read.1))

pub returns-then-count-bytes-clause-only : goal.returns-then-count-bytes-clause-only
returns-then-count-bytes-clause-only c n few large is =
    let stands = header_stands c.read_u64.result n c.header_of.result few c.header_of.ensures (c.read_u64.ensures ∙ is) in
    cc (stands, c.in-Some-Length.is, c.in-Some-Length.field-0-is)

pub returns-else-count-bytes-clause-only : goal.returns-else-count-bytes-clause-only
returns-else-count-bytes-clause-only c n few large is =
    let stands = header_stands c.read_u64.result n c.header_of.result few c.header_of.ensures (c.read_u64.ensures ∙ is) in
    let same : c.in-Some-Length.fields ≡ n = cc (stands, c.in-Some-Length.is, c.in-Some-Length.field-0-is) in
    absurd (omega (arith, same, large, c.if-count-bytes.false))

pub returns-in-Some-Forward-clause-only : goal.returns-in-Some-Forward-clause-only
returns-in-Some-Forward-clause-only c n few large is =
    let stands = header_stands c.read_u64.result n c.header_of.result few c.header_of.ensures (c.read_u64.ensures ∙ is) in
    absurd (cc (stands, c.in-Some-Forward.is, c.in-Some-Forward.field-0-is))

pub returns-in-None-clause-only : goal.returns-in-None-clause-only
returns-in-None-clause-only c n few large is =
    let stands = header_stands c.read_u64.result n c.header_of.result few c.header_of.ensures (c.read_u64.ensures ∙ is) in
    absurd (cc (stands, c.in-None.is))
