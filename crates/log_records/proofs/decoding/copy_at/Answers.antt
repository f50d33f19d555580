use Rattle.std.proofs.Common.{◌≡◌, ◌∙◌, ◌+◌, Some, length, ap, sym, arith}
use Rattle.log_records.specs.declared.copies.ObjectCopy.{ObjectCopy}
use Rattle.log_records.specs.declared.Record.{Record}
use Rattle.log_records.specs.declared.Record.TheVariants.{Copy}
use Rattle.log_records.specs.Copies.{copy_bytes}
use Rattle.log_records.specs.Record.{spelling}
use Rattle.log_records.proofs.Lists.{in_front}
use Rattle.log_records.proofs.Listed.{copy_record}
use Rattle.log_records.proofs.decoding.copy_at.Goals as goal

pub returns-in_default-clause-only : goal.returns-in_default-clause-only
returns-in_default-clause-only c rec rest good is =
    let r = copy_record rec c.args.bytes.now rest good is in
    absurd (c.in_default.not-Some r.copy (c.in_ok-copy.ensures.only r.copy rest r.good r.here))

pub returns-clause-found : goal.returns-clause-found
returns-clause-found c =
    let found = rw c.in-Some.is at c.in_ok-copy.ensures.found in
    let front = in_front 7 (1 + c.copy_size-size.result) c.args.bytes.now (copy_bytes c.in-Some.copy) found.1.0 (ap (λ n. 1 + n) c.copy_size-size.ensures.size) found.1.1 in
    (found.0, front.0, front.1)

pub returns-clause-only : goal.returns-clause-only
returns-clause-only c rec rest good is =
    let r = copy_record rec c.args.bytes.now rest good is in
    let same : c.in-Some.copy ≡ r.copy = cc (c.in-Some.is, c.in_ok-copy.ensures.only r.copy rest r.good r.here) in
    let told : Copy c.in-Some.copy.from c.in-Some.copy.to c.in-Some.copy.words ≡ rec = ap (λ (k : ObjectCopy). Copy k.from k.to k.words) same ∙ sym r.is in
    let long : 1 + c.copy_size-size.result ≡ length (spelling (Copy c.in-Some.copy.from c.in-Some.copy.to c.in-Some.copy.words)) = omega (arith, c.copy_size-size.ensures.size) in
    let size = long ∙ ap (λ (x : Record). length (spelling x)) told in
    λ i. Some (told i, size i)
