-- What a run that restarts a stopped disk says of the images that a crash may leave of it, and does to them.
use Rattle.std.proofs.Common.{ℕ, ◌≤◌, List}
use Rattle.std.specs.Prelude.{IsTrue}
use Rattle.disk_model.specs.declared.disk.Disk.{Ghosts}
use Rattle.disk_model.specs.Moments.{LeavesOnly}
use Rattle.disk_model.proofs.MomentLaws.{weaker}
use Rattle.heap_recovery.specs.Faults.{IsLeftOf}
use Rattle.heap_program.specs.Headline.{Restarts, RestartsDisk}
use Rattle.heap_program.specs.Refusals.{IsFault, IsWordFault, KeepsFault, AnswersImage, AnswersLeft}
use Rattle.heap_program.specs.declared.status.Status.{Status}
use Rattle.heap_program.specs.declared.status.Status.TheVariants.{NoMemory}
use Rattle.heap_program.proofs.PlayOpen.{opening_then}
use Rattle.heap_program.proofs.RefusalLaws.{left_on, left_word_fault, at_end}

module _ {D : Type 0} (g : Ghosts D) (old first : D) where
  -- What an opening that follows the restart keeps, all of it keeps.
  started_fault : (new : D) → Restarts g old first → KeepsFault g first new → (expected : Status) → ((image : List ℕ) → g.may_leave old image → IsFault expected image) → LeavesOnly g.moment g.left_since old new (IsFault expected)
  started_fault new started keeps expected leaves =
      let P = IsFault expected in
      opening_then g.moment g.left_since old first new P P (weaker g.moment g.left_since old first (g.may_leave old) P started.moments leaves) (keeps.keeps_fault expected (leaves (g.bytes first) started.left)) (λ image same. same)

  started_log : (new : D) → Restarts g old first → KeepsFault g first new → (image : List ℕ) → IsWordFault image → ((left : List ℕ) → g.may_leave old left → IsLeftOf image left) → LeavesOnly g.moment g.left_since old new (IsLeftOf image)
  started_log new started keeps image fault leaves =
      let P = IsLeftOf image in
      let here = leaves (g.bytes first) started.left in
      opening_then g.moment g.left_since old first new P P (weaker g.moment g.left_since old first (g.may_leave old) P started.moments leaves)
      (left_on g image (g.bytes first) first new here (keeps.keeps_log (left_word_fault image (g.bytes first) fault here))) (λ left same. same)

  -- The disk was restarted, and the heap opened again.
  pub answers_started : (new : D) (by : Status) (silent : Type 0) → Restarts g old first → RestartsDisk 1 by (g.restarts old) (g.restarts new) → IsTrue g.tells → AnswersImage g (Unit {0}) 0 first new by silent → AnswersLeft g 1 old new by silent
  answers_started new by silent started restarts tells image =
      let keeps = image.keeps tells started.only tt in
      record {
        refuses = λ expected leaves. image.refuses tells (λ some. started.only) tt expected (leaves (g.bytes first) started.left);
        refused_at_end = image.refused_at_end tells started.only;
        keeps_fault = started_fault new started keeps;
        keeps_log = started_log new started keeps;
        restarts = restarts;
      }

  -- It was restarted, an opening cut off, and restarted again.
  pub answers_cut : (cut new : D) (by : Status) (silent : Type 0) → Restarts g old first → RestartsDisk 2 by (g.restarts old) (g.restarts new) → KeepsFault g first cut
      → ((t : ℕ) (image : List ℕ) → t ≤ g.moment cut → g.may_leave cut image → g.left_since cut t image) → AnswersLeft g 1 cut new by silent → AnswersLeft g 2 old new by silent
  answers_cut cut new by silent started restarts keeps counts second =
      let fault = λ (expected : Status) (leaves : (image : List ℕ) → g.may_leave old image → IsFault expected image). started_fault cut started keeps expected leaves in
      let log = λ (image : List ℕ) (is : IsWordFault image) (leaves : (left : List ℕ) → g.may_leave old left → IsLeftOf image left). started_log cut started keeps image is leaves in
      record {
        refuses = λ expected leaves. second.refuses expected (at_end g old cut (IsFault expected) (fault expected leaves) counts);
        refused_at_end = second.refused_at_end;
        keeps_fault = λ expected leaves.
            let P = IsFault expected in
            let moments = fault expected leaves in
            opening_then g.moment g.left_since old cut new P P moments (second.keeps_fault expected (at_end g old cut P moments counts)) (λ image same. same);
        keeps_log = λ image is leaves.
            let P = IsLeftOf image in
            let moments = log image is leaves in
            opening_then g.moment g.left_since old cut new P P moments (second.keeps_log image is (at_end g old cut P moments counts)) (λ left same. same);
        restarts = restarts;
      }

  -- It was restarted, and memory ran out in the opening that was to be cut off.
  pub answers_memory : (cut : D) (silent : Type 0) → silent → Restarts g old first → RestartsDisk 2 NoMemory (g.restarts old) (g.restarts cut) → KeepsFault g first cut → AnswersLeft g 2 old cut NoMemory silent
  answers_memory cut silent nothing started restarts keeps = record {
    refuses = λ expected leaves. (tt, nothing);
    refused_at_end = λ image may. tt;
    keeps_fault = started_fault cut started keeps;
    keeps_log = started_log cut started keeps;
    restarts = restarts;
  }
