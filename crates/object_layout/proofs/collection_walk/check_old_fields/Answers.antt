-- The fields of one object after another lead inside, or the first object whose fields do not is reported; one that was copied has none.
use Rattle.std.proofs.Common.{◌≡◌, ℕ, List, ◌+◌, ◌-◌, ◌∙◌, ◌<◌, Some, None, ap, sym, subst, take, drop, length, get_or, arith}
use Rattle.object_layout.specs.Layout.{object_at}
use Rattle.object_layout.specs.Walk.{AreInside}
use Rattle.object_layout.specs.CollectionWalk.{given, from_end, is_moved, old_object_at, IsFirstOut}
use Rattle.object_layout.proofs.ReadLaws.{read_on}
use Rattle.object_layout.proofs.Starts.{fields_run, run_fields}
use Rattle.object_layout.proofs.OldStarts.{chained_ascend, chained_place, copied_inside, left_object, so_far_more, so_far_all, so_far_out}
use Rattle.object_layout.proofs.collection_walk.check_old_fields.Goals as goal

pub loop-at-preserved-then-has_moved : goal.loop-at-preserved-then-has_moved
loop-at-preserved-then-has_moved g c = record {
  read = c.loop-at.invariant.read;
  inside = λ told starts objects.
      let words = g.W.Words.content c.args.words.now in
      let olds = c.args.olds.now in
      let place = get_or olds c.loop-at.at-index 0 in
      let within : c.loop-at.at-index < length olds = omega arith in
      let there = chained_place (old_object_at words starts (given c.args.from)) c.args.from.base olds (from_end (given c.args.from)) c.loop-at.at-index objects within in
      so_far_more words (λ a. olds) olds c.loop-at.at-index (c.loop-at.invariant.inside told starts objects)
      (copied_inside words starts olds (from_end (given c.args.from)) place there.0 (is_moved (given c.args.from) place) (sym c.has_moved.ensures ∙ c.if-has_moved.true) there.1);
}

pub returns-in_default-clause-fault : goal.returns-in_default-clause-fault
returns-in_default-clause-fault g c told at starts objects is =
    let words = g.W.Words.content c.args.words.now in
    let olds = c.args.olds.now in
    let end = c.old_end-end.result in
    let place = get_or olds c.loop-at.at-index 0 in
    let same = c.loop-at.invariant.read.same_words told in
    let now = c.in_ok-n.ensures.read.same_words told ∙ same in
    let object : object_at (take end words) place ≡ Some c.in-Some.n =
    ap (λ ws. object_at (take end ws) place) (sym same) ∙ sym (c.in_ok-n.ensures.object told) ∙ c.in-Some.is in
    let ascend = chained_ascend (old_object_at words starts (given c.args.from)) c.args.from.base olds (from_end (given c.args.from)) objects in
    let outside = rw c.if-branch.false at (c.in_ok-are_inside.ensures.inside told ascend) in
    let Run : List ℕ → Type 0 = λ ws. AreInside olds (take (place + 2 + c.in-Some.n - (place + 2)) (drop (place + 2) ws)) in
    let within : c.loop-at.at-index < length olds = omega arith in
    let fault = so_far_out words (λ a. olds) olds c.loop-at.at-index ascend within (c.loop-at.invariant.inside told starts objects)
    (λ keeps. outside (subst Run (sym now) (run_fields words olds end place c.in-Some.n object keeps))) in
    let named : place ≡ at = cc in
    subst (IsFirstOut words (λ a. olds) olds) named fault

pub returns-in_default-2-clause-fault : goal.returns-in_default-2-clause-fault
returns-in_default-2-clause-fault g c told at starts objects is =
    let words = g.W.Words.content c.args.words.now in
    let olds = c.args.olds.now in
    let end = c.old_end-end.result in
    let place = get_or olds c.loop-at.at-index 0 in
    let within : c.loop-at.at-index < length olds = omega arith in
    let there = chained_place (old_object_at words starts (given c.args.from)) c.args.from.base olds (from_end (given c.args.from)) c.loop-at.at-index objects within in
    let left = left_object words starts (from_end (given c.args.from)) place there.0 (is_moved (given c.args.from) place) (sym c.has_moved.ensures ∙ c.if-has_moved.false) there.1 in
    let none : object_at (take end words) place ≡ None =
    ap (λ ws. object_at (take end ws) place) (sym (c.loop-at.invariant.read.same_words told)) ∙ sym (c.in_ok-n.ensures.object told) ∙ c.in_default.is in
    let clash = sym none ∙ ap (λ e. object_at (take e words) place) c.old_end-end.ensures ∙ left in
    cc

pub loop-at-preserved : goal.loop-at-preserved
loop-at-preserved g c = record {
  read = read_on _ _ _ _ _ _ _ _ _ _ g.met.W.Words.keeps_on (read_on _ _ _ _ _ _ _ _ _ _ g.met.W.Words.keeps_on c.loop-at.invariant.read c.in_ok-n.ensures.read) c.in_ok-are_inside.ensures.read;
  inside = λ told starts objects.
      let words = g.W.Words.content c.args.words.now in
      let olds = c.args.olds.now in
      let end = c.old_end-end.result in
      let place = get_or olds c.loop-at.at-index 0 in
      let same = c.loop-at.invariant.read.same_words told in
      let now = c.in_ok-n.ensures.read.same_words told ∙ same in
      let object : object_at (take end words) place ≡ Some c.in-Some.n =
      ap (λ ws. object_at (take end ws) place) (sym same) ∙ sym (c.in_ok-n.ensures.object told) ∙ c.in-Some.is in
      let ascend = chained_ascend (old_object_at words starts (given c.args.from)) c.args.from.base olds (from_end (given c.args.from)) objects in
      let inside = rw c.if-branch.true at (c.in_ok-are_inside.ensures.inside told ascend) in
      let Run : List ℕ → Type 0 = λ ws. AreInside olds (take (place + 2 + c.in-Some.n - (place + 2)) (drop (place + 2) ws)) in
      so_far_more words (λ a. olds) olds c.loop-at.at-index (c.loop-at.invariant.inside told starts objects)
      (fields_run words olds end place c.in-Some.n object (subst Run now inside));
}

pub returns-clause-passes : goal.returns-clause-passes
returns-clause-passes g c told starts objects =
    so_far_all (g.W.Words.content c.args.words.now) (λ a. c.args.olds.now) c.args.olds.now c.loop-at.at-index (omega arith) (c.loop-at.invariant.inside told starts objects)
