-- One more object follows those so far.
use Rattle.std.proofs.Common.{◌≡◌, ℕ, List, ◌+◌, ◌∙◌, Some, ap, sym, subst, take, arith}
use Rattle.object_layout.specs.Layout.{object_at}
use Rattle.object_layout.specs.Walk.{AreEndToEnd}
use Rattle.object_layout.proofs.ReadLaws.{read_on}
use Rattle.object_layout.proofs.Starts.{end_to_end_push}
use Rattle.object_layout.proofs.space.end_to_end.Goals as goal

pub loop-at-preserved : goal.loop-at-preserved
loop-at-preserved g c = record {
  read = read_on _ _ _ _ _ _ _ _ _ _ g.met.W.Words.keeps_on c.loop-at.invariant.read c.in_ok-object_before.ensures.read;
  before = λ order. let within = rw c.in-Some.is at c.in_ok-object_before.ensures.within in omega arith;
  objects = λ told.
      let words = take c.args.end (g.W.Words.content c.args.words.now) in
      let object : object_at words c.loop-at.at ≡ Some c.in-Some.n =
      ap (λ ws. object_at (take c.args.end ws) c.loop-at.at) (sym (c.loop-at.invariant.read.same_words told)) ∙ sym (c.in_ok-object_before.ensures.object told) ∙ c.in-Some.is in
      let Ends : ℕ → Type 0 = λ x. AreEndToEnd words c.args.from c.push.new.self.items x in
      let Starts : List ℕ → Type 0 = λ xs. AreEndToEnd words c.args.from xs (c.loop-at.at + 2 + c.in-Some.n) in
      subst Ends (omega arith) (subst Starts (sym c.in_ok-push-in-Some.ensures.items)
      (end_to_end_push words c.args.from c.loop-at.starts.items c.loop-at.at c.in-Some.n (c.loop-at.invariant.objects told) object));
}
