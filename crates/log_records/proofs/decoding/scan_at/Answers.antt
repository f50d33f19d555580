use Rattle.std.proofs.Common.{◌≡◌, ◌∙◌, ◌+◌, ◌*◌, ◌++◌, ℕ, List, Some, length, drop, ap, sym, subst, arith}
use Rattle.std.specs.Int.{w16, w32, to_le_bytes}
use Rattle.std.specs.List.{AllByRecursion, flat_map}
use Rattle.std.proofs.lemmas.List.{take_rest}
use Rattle.log_records.specs.declared.Record.{Record}
use Rattle.log_records.specs.declared.Record.TheVariants.{Scan}
use Rattle.log_records.specs.Copies.{write_bytes}
use Rattle.log_records.specs.Record.{IsWrite, spelling}
use Rattle.log_records.proofs.Lists.{in_front}
use Rattle.log_records.proofs.RecordLaws.{length-writes}
use Rattle.log_records.proofs.Listed.{scan_record, scan_read}
use Rattle.log_records.proofs.decoding.scan_at.Goals as goal

pub returns-clause-found : goal.returns-clause-found
returns-clause-found c =
    let found = rw c.in-Some.is at c.in_ok-writes.ensures.found in
    let bytes = c.args.bytes.now in
    let page = c.read_u32-page.result in
    let ws = c.new-writes.result in
    let here = sym c.new-writes.ensures in
    let count : c.read_u16-count.result ≡ length ws = sym found.0 ∙ ap (λ (l : List (ℕ × ℕ)). length l) here in
    let behind : drop 6 bytes ≡ flat_map write_bytes ws ++ found.2.0 = sym (take_rest bytes 6) ∙ found.2.1 ∙ ap (λ (l : List (ℕ × ℕ)). flat_map write_bytes l ++ found.2.0) here in
    let is = scan_read bytes found.2.0 page c.read_u16-count.result ws (λ i. omega (arith, c.type_inv.bytes i)) (omega (arith, c.if-bytes.false)) c.read_u32-page.ensures c.read_u16-count.ensures count behind in
    let size : c.len.result ≡ length ws = c.len.ensures ∙ c.in-Some.writes.ok.0 ∙ ap (λ (l : List (ℕ × ℕ)). length l) here in
    let front = in_front 8 (7 + 12 * c.len.result) bytes (to_le_bytes w32 page ++ to_le_bytes w16 (length ws) ++ flat_map write_bytes ws) found.2.0 (omega (arith, size, length-writes ws)) is in
    (record { page_fits = c.read_u32-page.type_inv; few = omega (arith, count, c.read_u16-count.type_inv); each = subst (λ (l : List (ℕ × ℕ)). AllByRecursion IsWrite l) here found.1 }, front.0, front.1)

pub returns-clause-only : goal.returns-clause-only
returns-clause-only c rec rest good is =
    let r = scan_record rec c.args.bytes.now rest good is in
    let ws = c.new-writes.result in
    let only = rw c.in-Some.is at (c.in_ok-writes.ensures.only r.writes rest (sym r.count_read ∙ sym c.read_u16-count.ensures) r.good.each (take_rest c.args.bytes.now 6 ∙ r.behind)) in
    let writes : ws ≡ r.writes = c.new-writes.ensures ∙ only in
    let page = c.read_u32-page.ensures ∙ r.page_read in
    let told : Scan c.read_u32-page.result ws ≡ rec = (λ i. Scan (page i) (writes i)) ∙ sym r.is in
    let size : c.len.result ≡ length ws = c.len.ensures ∙ c.in-Some.writes.ok.0 ∙ ap (λ (l : List (ℕ × ℕ)). length l) (sym c.new-writes.ensures) in
    let long : 7 + 12 * c.len.result ≡ length (spelling (Scan c.read_u32-page.result ws)) = omega (arith, size, length-writes ws) in
    let told_size = long ∙ ap (λ (x : Record). length (spelling x)) told in
    λ i. Some (told i, told_size i)
