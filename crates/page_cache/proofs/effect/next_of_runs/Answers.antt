use Rattle.std.proofs.Common.{◌≡◌, ◌^◌, ◌++◌, ℕ, List, [], ◌∷◌, sym, ap, subst, ◌∙◌}
use Rattle.std.specs.List.{enumerate_from}
use Rattle.log_machine.specs.RunsLeft.{runs_left}
use Rattle.log_machine.proofs.RunLaws.{run_writes, run_below, run_taken, runs_done, writes_more}
use Rattle.page_cache.specs.ByPage.{IsNextOf}
use Rattle.page_cache.specs.Writing.{AreBelow, pages_of}
use Rattle.page_cache.proofs.ByPageLaws.{next_touched, pages_append}
use Rattle.page_cache.proofs.effect.next_of_runs.Goals as goal

pub next_of_words-requires : goal.next_of_words-requires
next_of_words-requires c =
    let run = c.in-Some.run' in
    let below = run_below (2 ^ 38) c.args.rec.now c.loop-run.yielded (runs_left c.loop-run.run-iterator) (runs_left c.next.new.self) run c.requires c.loop-run.invariant.left c.in-Some.ensures.steps in
    let words = subst (λ (l : List ℕ). AreBelow (2 ^ 38) (enumerate_from run.0 l)) (sym c.words.ensures) below in
    subst (λ (a : ℕ). AreBelow (2 ^ 38) (enumerate_from a c.words.result.now)) (sym c.address.ensures) words

pub loop-run-preserved : goal.loop-run-preserved
loop-run-preserved c =
    let run = c.in-Some.run' in
    let so_far = c.loop-run.yielded in
    let pages : List ℕ = pages_of (enumerate_from c.address.result c.words.result.now) in
    let joined = c.earlier-next.ensures (pages_of (run_writes so_far)) pages c.args.from c.loop-run.invariant.found c.next_of_words.ensures in
    let here : pages_of (run_writes so_far) ++ pages ≡ pages_of (run_writes (so_far ++ run ∷ [])) =
    (λ i. pages_of (run_writes so_far) ++ pages_of (enumerate_from (c.address.ensures i) (c.words.ensures i)))
    ∙ sym (pages_append (run_writes so_far) (enumerate_from run.0 run.1))
    ∙ ap pages_of (sym (writes_more so_far run)) in
    record {
      can_next = tt;
      is_finite = tt;
      left = run_taken c.args.rec.now so_far (runs_left c.loop-run.run-iterator) (runs_left c.next.new.self) run c.loop-run.invariant.left c.in-Some.ensures.steps;
      found = subst (λ (l : List ℕ). IsNextOf l c.args.from c.earlier-next.result) here joined;
    }

pub returns : goal.returns
returns c =
    let done = runs_done [] c.args.rec.now c.loop-run.yielded (runs_left c.loop-run.run-iterator) c.loop-run.invariant.left c.in-None.ensures.steps.0 in
    next_touched [] c.args.rec.now c.args.from c.loop-run.next (subst (λ (l : List (ℕ × ℕ)). IsNextOf (pages_of l) c.args.from c.loop-run.next) done c.loop-run.invariant.found)
