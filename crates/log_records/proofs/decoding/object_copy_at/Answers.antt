use Rattle.std.proofs.Common.{◌≡◌, ◌∙◌, ◌++◌, List, ℕ, Some, drop, ap, sym, subst, arith}
use Rattle.std.proofs.lemmas.List.{take_rest}
use Rattle.log_records.specs.Copies.{word_bytes}
use Rattle.log_records.specs.Record.{IsObjectWords}
use Rattle.log_records.proofs.Words.{pair_read}
use Rattle.log_records.proofs.Listed.{has_copy}
use Rattle.log_records.proofs.decoding.object_copy_at.Goals as goal

pub returns-clause-found : goal.returns-clause-found
returns-clause-found c =
    let found = rw c.in-Some.is at c.in_ok-words.ensures.found in
    let here = sym c.new-words.ensures in
    let behind : drop 8 c.args.bytes.now ≡ word_bytes c.new-words.result ++ found.1.0 = sym (take_rest c.args.bytes.now 8) ∙ found.1.1 ∙ ap (λ (l : List ℕ). word_bytes l ++ found.1.0) here in
    let is = pair_read c.args.bytes.now c.new-words.result found.1.0 c.read_u32-from.result c.read_u32-to.result (λ i. omega (arith, c.type_inv.bytes i)) (omega (arith, c.if-bytes-lt-COPY_HEAD_BYTES.false)) c.read_u32-from.ensures c.read_u32-to.ensures behind in
    (record { from_fits = c.read_u32-from.type_inv; to_fits = c.read_u32-to.type_inv; object = subst IsObjectWords here found.0 }, (found.1.0, is))

pub returns-clause-only : goal.returns-clause-only
returns-clause-only c copy rest good is =
    let has = has_copy copy c.args.bytes.now rest good is in
    let only = rw c.in-Some.is at (c.in_ok-words.ensures.only copy.words rest good.object (take_rest c.args.bytes.now 8 ∙ has.behind)) in
    let from = c.read_u32-from.ensures ∙ has.from_read in
    let to = c.read_u32-to.ensures ∙ has.to_read in
    let words : c.new-words.result ≡ copy.words = c.new-words.ensures ∙ only in
    λ i. Some (record { from = from i; to = to i; words = words i })
