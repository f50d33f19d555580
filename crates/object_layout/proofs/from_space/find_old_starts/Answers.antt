-- One more object follows those so far, or the first address where none does is reported.
use Rattle.std.proofs.Common.{◌≡◌, ℕ, List, ◌+◌, ◌<◌, ◌∙◌, Bool, Some, None, ap, sym, subst, arith}
use Rattle.std.specs.Prelude.{if◌then◌else◌}
use Rattle.object_layout.specs.CollectionWalk.{given, from_end, old_object, old_object_at, is_moved, words_moved, AreOldObjects, IsOldFault, old_breaks, old_sum}
use Rattle.object_layout.proofs.ReadLaws.{read_on}
use Rattle.object_layout.proofs.OldStarts.{chained_push, moved_words_push}
use Rattle.object_layout.proofs.from_space.find_old_starts.Goals as goal

pub returns-in-None-clause-fault : goal.returns-in-None-clause-fault
returns-in-None-clause-fault g c told ascend at is =
    let words = g.W.Words.content c.args.words.now in
    let starts = c.args.starts.now in
    let place = c.loop-at.at in
    let end = c.old_end-end.result in
    let moved = c.has_moved-moved.result in
    let before : place < end = omega arith in
    let none : old_object_at words starts (given c.args.from) place ≡ None =
    ap (old_object words starts (from_end (given c.args.from)) place) (sym c.has_moved-moved.ensures)
    ∙ ap (λ e. old_object words starts e place moved) (sym c.old_end-end.ensures)
    ∙ ap (λ ws. old_object ws starts end place moved) (sym (c.loop-at.invariant.read.same_words told))
    ∙ sym (c.in_ok-old_object_at.ensures.object told ascend)
    ∙ c.in-None.is in
    let named : place ≡ at = cc in
    subst (IsOldFault words starts (given c.args.from)) named (old_breaks (record {
      olds = c.loop-at.olds.items;
      objects = c.loop-at.invariant.objects told ascend;
      before = subst (λ (e : ℕ). place < e) c.old_end-end.ensures before;
      none = none;
    }))

pub loop-at-preserved : goal.loop-at-preserved
loop-at-preserved g c = record {
  read = read_on _ _ _ _ _ _ _ _ _ _ g.met.W.Words.keeps_on c.loop-at.invariant.read c.in_ok-old_object_at.ensures.read;
  before = let within = rw c.in-Some.is at c.in_ok-old_object_at.ensures.within in omega arith;
  few = let few = c.loop-at.invariant.few in let most = c.words_copied-counted.ensures.most in omega arith;
  objects = λ told ascend.
      let words = g.W.Words.content c.args.words.now in
      let starts = c.args.starts.now in
      let place = c.loop-at.at in
      let end = c.old_end-end.result in
      let moved = c.has_moved-moved.result in
      let object : old_object_at words starts (given c.args.from) place ≡ Some c.in-Some.n =
      ap (old_object words starts (from_end (given c.args.from)) place) (sym c.has_moved-moved.ensures)
      ∙ ap (λ e. old_object words starts e place moved) (sym c.old_end-end.ensures)
      ∙ ap (λ ws. old_object ws starts end place moved) (sym (c.loop-at.invariant.read.same_words told))
      ∙ sym (c.in_ok-old_object_at.ensures.object told ascend)
      ∙ c.in-Some.is in
      let Ends : ℕ → Type 0 = λ x. AreOldObjects words starts (given c.args.from) c.push.new.self.items x in
      let Olds : List ℕ → Type 0 = λ xs. AreOldObjects words starts (given c.args.from) xs (place + 2 + c.in-Some.n) in
      subst Ends (omega arith) (subst Olds (sym c.in_ok-push-in-Some.ensures.items)
      (chained_push (old_object_at words starts (given c.args.from)) c.args.from.base c.loop-at.olds.items place c.in-Some.n (c.loop-at.invariant.objects told ascend) object));
  sum = λ told ascend.
      let words = g.W.Words.content c.args.words.now in
      let starts = c.args.starts.now in
      let place = c.loop-at.at in
      let end = c.old_end-end.result in
      let moved = c.has_moved-moved.result in
      let object : old_object_at words starts (given c.args.from) place ≡ Some c.in-Some.n =
      ap (old_object words starts (from_end (given c.args.from)) place) (sym c.has_moved-moved.ensures)
      ∙ ap (λ e. old_object words starts e place moved) (sym c.old_end-end.ensures)
      ∙ ap (λ ws. old_object ws starts end place moved) (sym (c.loop-at.invariant.read.same_words told))
      ∙ sym (c.in_ok-old_object_at.ensures.object told ascend)
      ∙ c.in-Some.is in
      ap (words_moved words starts (given c.args.from)) c.in_ok-push-in-Some.ensures.items
      ∙ moved_words_push words starts (given c.args.from) c.loop-at.olds.items place c.in-Some.n object
      ∙ ap (λ k. k + (if is_moved (given c.args.from) place then 2 + c.in-Some.n else 0)) (c.loop-at.invariant.sum told ascend)
      ∙ ap (λ (t : Bool). c.loop-at.copied + (if t then 2 + c.in-Some.n else 0)) (sym c.has_moved-moved.ensures)
      ∙ ap (λ k. c.loop-at.copied + k) (sym c.words_copied-counted.ensures.words);
}

pub returns-then-copied-clause-fault : goal.returns-then-copied-clause-fault
returns-then-copied-clause-fault g c told ascend at is =
    let words = g.W.Words.content c.args.words.now in
    let starts = c.args.starts.now in
    let olds = c.loop-at.olds.items in
    let ends : c.loop-at.at ≡ c.old_end-end.result = omega arith in
    let Ends : ℕ → Type 0 = λ x. AreOldObjects words starts (given c.args.from) olds x in
    let named : c.args.from.base ≡ at = cc in
    subst (IsOldFault words starts (given c.args.from)) named (old_sum olds (subst Ends (ends ∙ c.old_end-end.ensures) (c.loop-at.invariant.objects told ascend))
    (λ same. let equal : c.loop-at.copied ≡ c.copied.result = sym (c.loop-at.invariant.sum told ascend) ∙ same ∙ sym c.copied.ensures.copied in omega arith))
