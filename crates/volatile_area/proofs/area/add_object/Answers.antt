-- The words grow by zeros, of which the first two are replaced.
use Rattle.std.proofs.Common.{◌≡◌, ◌+◌, ◌-◌, ◌*◌, ◌++◌, length, ◌∙◌, ap, arith}
use Rattle.std.specs.Prelude.{replicate, slice_set, vec_len}
use Rattle.std.proofs.lemmas.List.{take_all}
use Rattle.volatile_area.proofs.Kept.{object_put}
use Rattle.volatile_area.proofs.area.add_object.Goals as goal

pub returns-clause-ok : goal.returns-clause-ok
returns-clause-ok c =
    let words = c.args.words.now in
    let all : vec_len words ≡ length words.items = words.ok.0 in
    let more : c.len-at.result + (2 + c.args.fields) - vec_len words ≡ 2 + c.args.fields = omega (arith, c.len-at.ensures) in
    let grown : c.resize.new.self.items ≡ words.items ++ replicate (2 + c.args.fields) 0 =
    c.in_ok-resize.ensures.items
    ∙ ap (λ ws. ws ++ replicate (c.len-at.result + (2 + c.args.fields) - vec_len words) 0) (take_all (c.len-at.result + (2 + c.args.fields)) words.items (omega (arith, c.len-at.ensures)))
    ∙ ap (λ k. words.items ++ replicate k 0) more in
    ap (λ n. slice_set (slice_set c.resize.new.self.items c.len-at.result (4 * n + 1)) (c.len-at.result + 1) c.args.birth) c.from.ensures
    ∙ object_put words.items c.resize.new.self.items c.len-at.result (4 * c.args.fields + 1) c.args.birth c.args.fields (c.len-at.ensures ∙ all) grown
