use Rattle.std.proofs.Common.{◌<◌, List, Result, Ok, Err, OnErr, length, subst, ap, ◌∙◌, arith, length-set}
use Rattle.std.specs.List.{AllByRecursion}
use Rattle.std.proofs.lemmas.Grind.{common_steps}
use Rattle.log_machine.specs.declared.UndoEntry.{UndoEntry}
use Rattle.log_machine.specs.Machine.{field_at}
use Rattle.log_machine.proofs.ListLaws.{AllByRecursion-front}
use Rattle.committed_words.specs.Committed.{words_of}
use Rattle.committed_words.proofs.TakenBack.{IsTakenBack, next_taken_back, only_newest}
use Rattle.committed_words.proofs.committed_words.CommittedWords.take_back.Goals as goal

on_err : {A E : Type 0} (r : Result A E) (P : Type 0) → P → OnErr r P
on_err (Ok v) P p = tt
on_err (Err e) P p = p

pub loop-entry-preserved : goal.loop-entry-preserved
loop-entry-preserved c = record {
  size = ap length c.in_ok-put.ensures.ok ∙ length-set (words_of c.loop-entry.self) _ _ ∙ c.loop-entry.invariant.size;
  inside = AllByRecursion-front _ _ _ (subst (λ (l : List UndoEntry). AllByRecursion (λ (u : UndoEntry). field_at u.object u.field < length (words_of c.args.self.now)) l) c.in-Some.ensures.steps c.loop-entry.invariant.inside);
  newest = next_taken_back c.args.undo.now _ _ _ _ _ c.in_ok-put.ensures.ok (subst (λ (l : List UndoEntry). IsTakenBack c.args.undo.now l (words_of c.args.self.now) (words_of c.loop-entry.self)) c.in-Some.ensures.steps c.loop-entry.invariant.newest);
  so_far = grind (arith, common_steps);
}

pub returns-in_err-put-clause-err : goal.returns-in_err-put-clause-err
returns-in_err-put-clause-err c =
    let so_far = subst (λ (l : List UndoEntry). IsTakenBack c.args.undo.now l (words_of c.args.self.now) (words_of c.loop-entry.self)) c.in-Some.ensures.steps c.loop-entry.invariant.newest in
    let only = only_newest c.args.undo.now _ _ _ _ so_far in
    on_err c.from_residual.result _ (only.0, only.1, c.in_err-put.ensures.err ∙ only.2)
