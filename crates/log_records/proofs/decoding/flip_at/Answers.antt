use Rattle.std.proofs.Common.{◌≡◌, ◌∙◌, ◌+◌, ◌++◌, List, Some, length, drop, ap, sym, subst, arith}
use Rattle.std.specs.Int.{w32, to_le_bytes}
use Rattle.std.specs.List.{AllByRecursion, flat_map}
use Rattle.std.proofs.lemmas.List.{take_rest}
use Rattle.log_records.specs.declared.copies.ObjectCopy.{ObjectCopy}
use Rattle.log_records.specs.declared.Record.{Record}
use Rattle.log_records.specs.declared.Record.TheVariants.{Flip}
use Rattle.log_records.specs.Copies.{copy_bytes}
use Rattle.log_records.specs.Record.{IsObjectCopy, spelling}
use Rattle.log_records.proofs.Lists.{in_front}
use Rattle.log_records.proofs.Listed.{flip_record, flip_read}
use Rattle.log_records.proofs.decoding.flip_at.Goals as goal

pub returns-clause-found : goal.returns-clause-found
returns-clause-found c =
    let found = rw c.in-Some.is at c.in_ok-copies.ensures.found in
    let bytes = c.args.bytes.now in
    let ks = c.new-copies.result in
    let here = sym c.new-copies.ensures in
    let count : c.read_u32-count.result ≡ length ks = sym found.0 ∙ ap (λ (l : List ObjectCopy). length l) here in
    let behind : drop 4 bytes ≡ flat_map copy_bytes ks ++ found.2.0 = sym (take_rest bytes 4) ∙ found.2.1 ∙ ap (λ (l : List ObjectCopy). flat_map copy_bytes l ++ found.2.0) here in
    let is = flip_read bytes found.2.0 c.read_u32-count.result ks (λ i. omega (arith, c.type_inv.bytes i)) (omega (arith, c.if-bytes.false)) c.read_u32-count.ensures count behind in
    let front = in_front 9 (5 + c.bytes-size.result) bytes (to_le_bytes w32 (length ks) ++ flat_map copy_bytes ks) found.2.0 (omega (arith, c.bytes-size.ensures.bytes)) is in
    (record { few = omega (arith, count, c.read_u32-count.type_inv); each = subst (λ (l : List ObjectCopy). AllByRecursion IsObjectCopy l) here found.1 }, front.0, front.1)

pub returns-clause-only : goal.returns-clause-only
returns-clause-only c rec rest good is =
    let r = flip_record rec c.args.bytes.now rest good is in
    let ks = c.new-copies.result in
    let only = rw c.in-Some.is at (c.in_ok-copies.ensures.only r.copies rest (sym r.count_read ∙ sym c.read_u32-count.ensures) r.good.each (take_rest c.args.bytes.now 4 ∙ r.behind)) in
    let told : Flip ks ≡ rec = ap (λ (l : List ObjectCopy). Flip l) (c.new-copies.ensures ∙ only) ∙ sym r.is in
    let long : 5 + c.bytes-size.result ≡ length (spelling (Flip ks)) = omega (arith, c.bytes-size.ensures.bytes) in
    let size = long ∙ ap (λ (x : Record). length (spelling x)) told in
    λ i. Some (told i, size i)
