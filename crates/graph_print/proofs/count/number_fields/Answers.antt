-- One field after another.
use Rattle.std.proofs.Common.{◌<◌, ℕ, List, take, length, get_or, sym, subst, arith}
use Rattle.std.proofs.lemmas.List.{take_more}
use Rattle.graph_print.specs.Numbered.{IsFieldNumbered, AreFieldsNumbered}
use Rattle.object_layout.proofs.ReadLaws.{read_on}
use Rattle.graph_print.proofs.Rows.{numbered_more}
use Rattle.graph_print.proofs.count.number_fields.Goals as goal

pub loop-word-preserved : goal.loop-word-preserved
loop-word-preserved g c = record {
  read = read_on _ _ _ _ _ _ _ _ _ _ g.met.W.Words.keeps_on c.loop-word.invariant.read c.in_ok-number_field.ensures.read;
  numbered = λ told.
      let words = g.W.Words.content c.args.words.now in
      let i = c.loop-word.word-index in
      let ws = c.args.fields.now in
      let within : i < length ws = omega arith in
      let one = rw c.if-not-branch.false at (c.in_ok-number_field.ensures.numbered told) in
      let Words : List ℕ → Type 0 = λ xs. IsFieldNumbered xs c.loop-word.order c.number_field.new.order (get_or ws i 0) in
      let Fields : List ℕ → Type 0 = λ xs. AreFieldsNumbered words c.args.order.now c.number_field.new.order xs in
      subst Fields (sym (take_more ws i 0 within))
      (numbered_more words c.args.order.now c.loop-word.order c.number_field.new.order (take i ws) (get_or ws i 0)
      (c.loop-word.invariant.numbered told) (subst Words (c.loop-word.invariant.read.same_words told) one));
}
