use Rattle.std.proofs.Common.{ℕ, List, length, ap, sym, subst, ◌∙◌}
use Rattle.std.specs.List.{enumerate_from}
use Rattle.log_machine.specs.Machine.{put_all}
use Rattle.log_machine.specs.RunsLeft.{runs_left}
use Rattle.log_machine.proofs.RunLaws.{run_writes, run_below, run_taken, runs_done, writes_more}
use Rattle.page_cache.specs.ByPage.{on_page}
use Rattle.page_cache.specs.Writing.{AreBelow}
use Rattle.page_cache.proofs.ByPageLaws.{on_page_append}
use Rattle.page_cache.proofs.effect.put_runs_on.Goals as goal

pub put_words_on-requires : goal.put_words_on-requires
put_words_on-requires c =
    let run = c.in-Some.run' in
    let end = length c.args.words.now in
    let below = run_below end c.args.rec.now c.loop-run.yielded (runs_left c.loop-run.run-iterator) (runs_left c.next.new.self) run c.requires c.loop-run.invariant.left c.in-Some.ensures.steps in
    let words = subst (λ (l : List ℕ). AreBelow end (enumerate_from run.0 l)) (sym c.words.ensures) below in
    let here = subst (λ (a : ℕ). AreBelow end (enumerate_from a c.words.result.now)) (sym c.address.ensures) words in
    subst (λ (n : ℕ). AreBelow n (enumerate_from c.address.result c.words.result.now)) (sym c.loop-run.auto.words) here

pub loop-run-preserved : goal.loop-run-preserved
loop-run-preserved c =
    let run = c.in-Some.run' in
    let p = c.args.p in
    let so_far = c.loop-run.yielded in
    record {
      can_next = tt;
      is_finite = tt;
      left = run_taken c.args.rec.now so_far (runs_left c.loop-run.run-iterator) (runs_left c.next.new.self) run c.loop-run.invariant.left c.in-Some.ensures.steps;
      put =
          c.put_words_on.ensures
          ∙ (λ i. put_all c.loop-run.words (on_page p (enumerate_from (c.address.ensures i) (c.words.ensures i))))
          ∙ ap (λ (now : List ℕ). put_all now (on_page p (enumerate_from run.0 run.1))) c.loop-run.invariant.put
          ∙ sym (on_page_append p c.args.words.now (run_writes so_far) (enumerate_from run.0 run.1))
          ∙ ap (λ (ws : List (ℕ × ℕ)). put_all c.args.words.now (on_page p ws)) (sym (writes_more so_far run));
    }

pub returns : goal.returns
returns c =
    c.loop-run.invariant.put
    ∙ ap (λ (ws : List (ℕ × ℕ)). put_all c.args.words.now (on_page c.args.p ws)) (runs_done c.args.words.now c.args.rec.now c.loop-run.yielded (runs_left c.loop-run.run-iterator) c.loop-run.invariant.left c.in-None.ensures.steps.0)
