use Rattle.std.proofs.Common.{◌≡◌, ◌∙◌, ◌+◌, ◌*◌, ◌++◌, List, ℕ, drop, length, ap, sym, subst, arith}
use Rattle.std.proofs.lemmas.List.{take_rest}
use Rattle.log_records.specs.Copies.{word_bytes}
use Rattle.log_records.specs.Record.{spelling, IsObjectWords}
use Rattle.log_records.proofs.RecordLaws.{length-Base}
use Rattle.log_records.specs.declared.Record.TheVariants.{Base}
use Rattle.log_records.proofs.Words.{has_base, base_read, base_front}
use Rattle.log_records.proofs.decoding.base_at.Goals as goal

pub returns-clause-found : goal.returns-clause-found
returns-clause-found c =
    let found = rw c.in-Some.is at c.in_ok-words.ensures.found in
    let words = c.in-Some.words.items in
    let here = sym c.new-words.ensures in
    let size : c.len.result ≡ length c.new-words.result = c.len.ensures ∙ c.in-Some.words.ok.0 ∙ ap (λ (l : List ℕ). length l) here in
    let behind : drop 8 c.args.bytes.now ≡ word_bytes c.new-words.result ++ found.1.0 = sym (take_rest c.args.bytes.now 8) ∙ found.1.1 ∙ ap (λ (l : List ℕ). word_bytes l ++ found.1.0) here in
    let is = base_read c.args.bytes.now c.new-words.result found.1.0 c.read_u32-t.result c.read_u32-address.result (λ i. omega (arith, c.type_inv.bytes i)) (omega (arith, c.if-bytes.false)) c.read_u32-t.ensures c.read_u32-address.ensures behind in
    let front = base_front c.args.bytes.now c.new-words.result found.1.0 c.read_u32-t.result c.read_u32-address.result c.len.result size is in
    (record { t_fits = c.read_u32-t.type_inv; address_fits = c.read_u32-address.type_inv; object = subst IsObjectWords here found.0 }, front.0, front.1)

pub returns-clause-only : goal.returns-clause-only
returns-clause-only c rec rest good is =
    let base = has_base rec c.args.bytes.now rest good is in
    let only = rw c.in-Some.is at (c.in_ok-words.ensures.only base.words base.rest base.good.object (take_rest c.args.bytes.now 8 ∙ base.behind)) in
    let words : c.new-words.result ≡ base.words = c.new-words.ensures ∙ only in
    let size : c.len.result ≡ length base.words = c.len.ensures ∙ c.in-Some.words.ok.0 ∙ ap (λ (l : List ℕ). length l) only in
    let long : 9 + 8 * c.len.result ≡ length (spelling (Base base.t base.address base.words)) = omega (arith, size, length-Base base.t base.address base.words) in
    cc (c.read_u32-t.ensures ∙ base.t_read, c.read_u32-address.ensures ∙ base.address_read, words, long, base.is)
