-- Each word is one of the run.
use Rattle.std.proofs.Common.{◌≡◌, ◌∙◌, ◌≤◌, ◌<◌, ◌++◌, ap, subst, arith, get_or, length}
use Rattle.object_layout.specs.Walk.{AreInside}
use Rattle.object_layout.proofs.ReadLaws.{read_on}
use Rattle.object_layout.proofs.Runs.{run_more}
use Rattle.object_layout.proofs.Starts.{inside_push, run_get}
use Rattle.object_layout.proofs.collection_walk.are_inside_either.Goals as goal

pub returns-then-not-is_inside_either-clause-inside : goal.returns-then-not-is_inside_either-clause-inside
returns-then-not-is_inside_either-clause-inside g c told ascend ascend_more all =
    let words = g.W.Words.content c.args.words.now in
    let size : length words ≡ g.W.Words.extent c.args.words.now = g.met.W.Words.same_size told c.args.words.now in
    let begins : c.args.from ≤ c.loop-at.at = omega arith in
    let ends : c.loop-at.at < c.args.end = omega arith in
    let within : c.args.end ≤ length words = omega arith in
    let is = c.in_ok-word.ensures.word told ∙ ap (λ ws. get_or ws c.loop-at.at 0) (c.loop-at.invariant.read.same_words told) in
    c.if-not-is_inside_either.ensures ascend ascend_more (all _ _ (run_get words c.args.from c.args.end c.loop-at.at c.in_ok-word.word begins ends within is))

pub loop-at-preserved : goal.loop-at-preserved
loop-at-preserved g c = record {
  read = read_on _ _ _ _ _ _ _ _ _ _ g.met.W.Words.keeps_on c.loop-at.invariant.read c.in_ok-word.ensures.read;
  inside = λ told ascend ascend_more.
      let words = g.W.Words.content c.args.words.now in
      let size : length words ≡ g.W.Words.extent c.args.words.now = g.met.W.Words.same_size told c.args.words.now in
      let begins : c.args.from ≤ c.loop-at.at = omega arith in
      let within : c.loop-at.at < length words = omega arith in
      let is = c.in_ok-word.ensures.word told ∙ ap (λ ws. get_or ws c.loop-at.at 0) (c.loop-at.invariant.read.same_words told) in
      subst (AreInside (c.args.starts.now ++ c.args.more.now)) (run_more words c.args.from c.loop-at.at c.in_ok-word.word begins within is)
      (inside_push (c.args.starts.now ++ c.args.more.now) _ c.in_ok-word.word (c.loop-at.invariant.inside told ascend ascend_more) (c.if-not-is_inside_either.ensures ascend ascend_more));
}
