-- One field after another.
use Rattle.std.proofs.Common.{◌<◌, ℕ, List, take, length, get_or, sym, subst, arith}
use Rattle.std.specs.Prelude.{string_bytes}
use Rattle.std.proofs.lemmas.List.{take_more}
use Rattle.graph_print.specs.Printed.{IsFieldPrinted, AreFieldsPrinted}
use Rattle.object_layout.proofs.ReadLaws.{read_on}
use Rattle.graph_print.proofs.Rows.{fields_more}
use Rattle.graph_print.proofs.print.push_fields.Goals as goal

pub loop-word-preserved : goal.loop-word-preserved
loop-word-preserved g c = record {
  read = read_on _ _ _ _ _ _ _ _ _ _ g.met.W.Words.keeps_on c.loop-word.invariant.read c.in_ok-push_field.ensures.read;
  printed = λ told.
      let words = g.W.Words.content c.args.words.now in
      let i = c.loop-word.word-index in
      let ws = c.args.fields.now in
      let within : i < length ws = omega arith in
      let one = rw c.if-not-branch.false at (c.in_ok-push_field.ensures.printed told) in
      let Words : List ℕ → Type 0 = λ xs. IsFieldPrinted xs c.loop-word.order c.push_field.new.order (string_bytes c.loop-word.text) (string_bytes c.push_field.new.text) (get_or ws i 0) in
      let Fields : List ℕ → Type 0 = λ xs. AreFieldsPrinted words c.args.order.now c.push_field.new.order (string_bytes c.args.text.now) (string_bytes c.push_field.new.text) xs in
      subst Fields (sym (take_more ws i 0 within))
      (fields_more words c.args.order.now c.loop-word.order c.push_field.new.order (string_bytes c.args.text.now) (string_bytes c.loop-word.text) (string_bytes c.push_field.new.text)
      (take i ws) (get_or ws i 0) (c.loop-word.invariant.printed told) (subst Words (c.loop-word.invariant.read.same_words told) one));
}
