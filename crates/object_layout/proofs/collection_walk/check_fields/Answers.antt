-- The fields of one object after another lead where they may, or the first object whose fields do not is reported.
use Rattle.std.proofs.Common.{◌≡◌, ℕ, List, ◌+◌, ◌-◌, ◌∙◌, ◌<◌, ◌++◌, Some, None, ap, sym, subst, take, drop, length, get_or, arith}
use Rattle.std.specs.FinSet.{contains}
use Rattle.object_layout.specs.Layout.{object_at}
use Rattle.object_layout.specs.Walk.{used_words, AreInside, AreAscending}
use Rattle.object_layout.specs.CollectionWalk.{open_to, targets, IsFirstOut}
use Rattle.object_layout.proofs.ReadLaws.{read_on}
use Rattle.object_layout.proofs.Starts.{end_to_end_ascend, fields_run, run_fields, start_object}
use Rattle.object_layout.proofs.OldStarts.{open_ascend, so_far_more, so_far_all, so_far_out}
use Rattle.object_layout.proofs.collection_walk.check_fields.Goals as goal

pub returns-in_default-clause-fault : goal.returns-in_default-clause-fault
returns-in_default-clause-fault g c told ascend_olds at base used whole filled is =
    let words = g.W.Words.content c.args.words.now in
    let starts = c.args.starts.now in
    let olds = c.args.olds.now in
    let may = targets c.args.collection.now starts olds in
    let place = get_or starts c.loop-at.at-index 0 in
    let same = c.loop-at.invariant.read.same_words told in
    let now = c.in_ok-n.ensures.read.same_words told ∙ same in
    let object : object_at (take c.args.end words) place ≡ Some c.in-Some.n =
    ap (λ ws. object_at (take c.args.end ws) place) (sym same) ∙ sym (c.in_ok-n.ensures.object told) ∙ c.in-Some.is in
    let ascend = end_to_end_ascend (used_words words base used) base starts (base + used) filled.objects in
    let more : c.opened-more.result.now ≡ open_to (contains c.args.collection.now.gray place) olds = c.opened-more.ensures ∙ ap (λ b. open_to b olds) c.is_gray.ensures in
    let ascend_more : AreAscending c.opened-more.result.now = subst AreAscending (sym more) (open_ascend (contains c.args.collection.now.gray place) olds ascend_olds) in
    let outside = rw c.if-branch.false at (c.in_ok-are_inside_either.ensures.inside told ascend ascend_more) in
    let Run : List ℕ → Type 0 = λ ws. AreInside (starts ++ c.opened-more.result.now) (take (place + 2 + c.in-Some.n - (place + 2)) (drop (place + 2) ws)) in
    let Targets : List ℕ → Type 0 = λ xs. AreInside (starts ++ xs) (take (place + 2 + c.in-Some.n - (place + 2)) (drop (place + 2) words)) in
    let within : c.loop-at.at-index < length starts = omega arith in
    let fault = so_far_out words may starts c.loop-at.at-index ascend within (c.loop-at.invariant.inside told ascend_olds base used whole filled)
    (λ keeps. outside (subst Run (sym now) (subst Targets (sym more) (run_fields words (may place) c.args.end place c.in-Some.n object keeps)))) in
    let named : place ≡ at = cc in
    subst (IsFirstOut words may starts) named fault

pub returns-in_default-2-clause-fault : goal.returns-in_default-2-clause-fault
returns-in_default-2-clause-fault g c told ascend_olds at base used whole filled is =
    let words = g.W.Words.content c.args.words.now in
    let starts = c.args.starts.now in
    let place = get_or starts c.loop-at.at-index 0 in
    let same = c.loop-at.invariant.read.same_words told in
    let within : c.loop-at.at-index < length starts = omega arith in
    let object = start_object words base used starts c.loop-at.at-index filled within in
    let none : object_at (take c.args.end words) place ≡ None =
    ap (λ ws. object_at (take c.args.end ws) place) (sym same) ∙ sym (c.in_ok-n.ensures.object told) ∙ c.in_default.is in
    let clash = sym none ∙ ap (λ e. object_at (take e words) place) whole ∙ object.1 in
    cc

pub loop-at-preserved : goal.loop-at-preserved
loop-at-preserved g c = record {
  read = read_on _ _ _ _ _ _ _ _ _ _ g.met.W.Words.keeps_on (read_on _ _ _ _ _ _ _ _ _ _ g.met.W.Words.keeps_on c.loop-at.invariant.read c.in_ok-n.ensures.read) c.in_ok-are_inside_either.ensures.read;
  inside = λ told ascend_olds base used whole filled.
      let words = g.W.Words.content c.args.words.now in
      let starts = c.args.starts.now in
      let olds = c.args.olds.now in
      let may = targets c.args.collection.now starts olds in
      let place = get_or starts c.loop-at.at-index 0 in
      let same = c.loop-at.invariant.read.same_words told in
      let now = c.in_ok-n.ensures.read.same_words told ∙ same in
      let object : object_at (take c.args.end words) place ≡ Some c.in-Some.n =
      ap (λ ws. object_at (take c.args.end ws) place) (sym same) ∙ sym (c.in_ok-n.ensures.object told) ∙ c.in-Some.is in
      let ascend = end_to_end_ascend (used_words words base used) base starts (base + used) filled.objects in
      let more : c.opened-more.result.now ≡ open_to (contains c.args.collection.now.gray place) olds = c.opened-more.ensures ∙ ap (λ b. open_to b olds) c.is_gray.ensures in
      let ascend_more : AreAscending c.opened-more.result.now = subst AreAscending (sym more) (open_ascend (contains c.args.collection.now.gray place) olds ascend_olds) in
      let inside = rw c.if-branch.true at (c.in_ok-are_inside_either.ensures.inside told ascend ascend_more) in
      let Run : List ℕ → Type 0 = λ ws. AreInside (starts ++ c.opened-more.result.now) (take (place + 2 + c.in-Some.n - (place + 2)) (drop (place + 2) ws)) in
      let Targets : List ℕ → Type 0 = λ xs. AreInside (starts ++ xs) (take (place + 2 + c.in-Some.n - (place + 2)) (drop (place + 2) words)) in
      so_far_more words may starts c.loop-at.at-index (c.loop-at.invariant.inside told ascend_olds base used whole filled)
      (fields_run words (may place) c.args.end place c.in-Some.n object (subst Targets more (subst Run now inside)));
}

pub returns-clause-passes : goal.returns-clause-passes
returns-clause-passes g c told ascend_olds base used whole filled =
    so_far_all (g.W.Words.content c.args.words.now) (targets c.args.collection.now c.args.starts.now c.args.olds.now) c.args.starts.now c.loop-at.at-index (omega arith)
    (c.loop-at.invariant.inside told ascend_olds base used whole filled)
