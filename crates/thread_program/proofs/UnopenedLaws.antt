-- A run of workers whose heap was not opened.
use Rattle.std.proofs.Common.{◌≡◌, ◌≢◌, ◌⊎◌, inl, inr, ℕ, ◌+◌, ◌<◌, ◌≤◌, List, [], Bool, None, Err, refl, sym, ◌∙◌, subst, arith}
use Rattle.std.specs.declared.alloc.AllocError.{AllocError}
use Rattle.std.proofs.lemmas.List.{append-nil}
use Rattle.counts.specs.Count.{counted}
use Rattle.disk_model.specs.declared.disk.Disk.{Ghosts}
use Rattle.disk_model.specs.Disk.{Only}
use Rattle.disk_model.specs.Moments.{LeavesOnly}
use Rattle.disk_model.proofs.MomentLaws.{begins}
use Rattle.graph_model.specs.History.{sealed}
use Rattle.graph_model.specs.Transaction.{serial}
use Rattle.heap_core.specs.Causes.{recovery_error}
use Rattle.heap_core.specs.Refinement.{SameBehind}
use Rattle.heap_core.specs.declared.errors.OpenError.{OpenError}
use Rattle.heap_core.specs.declared.errors.OpenError.TheVariants as opening
use Rattle.heap_model.specs.Core.{Core, commits_on_disk}
use Rattle.heap_model.specs.CoreCrash.{IsCommitPrefix}
use Rattle.heap_model.proofs.Opening.Rolled.{rolled_commits}
use Rattle.script_text.specs.declared.line.Line.{Line}
use Rattle.thread_play.proofs.Working.{nothing_worked}
use Rattle.heap_program.specs.declared.status.Status.{Status}
use Rattle.heap_program.specs.declared.status.Status.TheVariants as status
use Rattle.heap_program.specs.Causes.{Unharmed}
use Rattle.heap_program.specs.Headline.{graph_text, StopsOnlyOpening, IsEndOfPlay}
use Rattle.heap_program.specs.StatusOf.{open_status}
use Rattle.heap_program.specs.Stored.{IsStored, stored_core, stored_calls}
use Rattle.heap_program.proofs.Limits.{limits_law}
use Rattle.heap_program.proofs.PlayOpen.{stored_running, unopened_calls}
use Rattle.heap_program.proofs.Reopened.{outside_memory}
use Rattle.heap_program.proofs.Statuses.{open_end, open_not_done, open_not_refused}
use Rattle.heap_program.proofs.Written.{none_written}
use Rattle.thread_program.specs.Together.{MakesTogether, IsPlayedTogether}
use Rattle.heap_recovery.specs.Recovered.{IsFromOutside}

-- An opening that the outside hinders gives one of two statuses.
open_refused : (e : OpenError) → IsFromOutside (recovery_error e) → (open_status e ≡ status.NoMemory) ⊎ (open_status e ≡ status.DiskFault)
open_refused opening.NoMemory outside = inl refl
open_refused opening.NotHeap outside = absurd outside
open_refused (opening.Damaged at) outside = absurd outside
open_refused opening.DiskFault outside = inr refl
open_refused opening.Stopped outside = inr refl

module _ {D : Type 0} (g : Ghosts D) {bytes : List ℕ} (stored : IsStored bytes) where
  abbrev c : Core
  c = stored_core stored

  abbrev n : ℕ
  n = stored_calls stored

  abbrev none_made : (tries : ℕ) (lines : List Line) (e : OpenError) (by : Status) → 0 < tries → by ≡ open_status e → IsFromOutside (recovery_error e) → MakesTogether tries lines c [] c by
  none_made tries lines e by some is outside =
      let failed : AllocError = record {} in
      record {
        sent = [];
        last = [];
        parts = refl;
        between = c;
        run = refl;
        rest = refl;
        workers_end = Err failed;
        worked = nothing_worked tries lines c.history failed some;
        refused = λ err. elim (open_refused e outside) [ inl memory ↦ inl (is ∙ memory) | inr fault ↦ inr (is ∙ fault, refl) ];
        last_are = inl refl;
        done = λ done. absurd (open_not_done e (sym is ∙ done));
        behind = λ refused whole. absurd (open_not_refused e (sym is ∙ refused));
        outcome = inl refl;
      }

  -- No event was made, and nothing was written.
  pub unopened_together : (tries : ℕ) (lines : List Line) (e : OpenError) (by : Status) (start final : D) (told : Bool) (before : List ℕ) → 0 < tries → by ≡ open_status e → IsFromOutside (recovery_error e)
      → LeavesOnly g.moment g.left_since start final (IsCommitPrefix c) → LeavesOnly g.moment g.left_since start final (SameBehind c (g.bytes start)) → ((image : List ℕ) → g.may_leave final image → IsCommitPrefix c image)
      → ((image : List ℕ) → g.left_since final (g.moment final) image → g.may_leave final image) → g.restarts final ≡ g.restarts start
      → (e ≡ opening.NoMemory → g.passed final ≡ g.passed start) → (e ≢ opening.NoMemory → Unharmed g start final → ⊥)
      → g.passed final ≤ counted n (g.passed start) → g.passed final ≤ counted (n + 0) (g.passed start) → (open_status e ≡ status.NoMemory → Only (g.bytes final) (g.may_leave final)) → StopsOnlyOpening g n start final
      → IsPlayedTogether g tries lines n c start final by told before before
  unopened_together tries lines e by start final told before some is outside moments behind left now restarts same harm few most only first =
      let early = λ (done : by ≡ status.Done). open_not_done e (sym is ∙ done) in
      let calls = unopened_calls None n (g.passed start) (g.passed final) (Unharmed g start final) e by is outside same harm in
      record {
        runs = record {
          made = [];
          sessions = tt;
          core = c;
          together = none_made tries lines e by some is outside;
          limits = limits_law c (stored_running g stored).reached refl [] tt c;
          failed = λ fault. inr refl;
          again = λ done. absurd (early done);
          written = λ t. record {
            front = none_written before (graph_text (serial c.g0 (sealed c.history)));
            failed = λ failed. absurd (failed refl);
            fault = λ fault. sym (append-nil before);
            whole = λ done. absurd (early done);
          };
          nothing = λ err t. refl;
          late = λ t whole. inl refl;
          end = subst IsEndOfPlay (sym is) (open_end e outside);
        };
        disk = record {
          opened = final;
          opening = moments;
          here = left;
          passed = λ u made. absurd (made refl);
          few = few;
          restarts = restarts;
          still = λ some. absurd (some refl);
          stopped = final;
          steps = (refl, refl);
          rest = begins g.moment g.left_since final (IsCommitPrefix c) (λ image since. left image (now image since));
          kept = left;
          outside = behind;
        };
        still = refl;
        steps = (refl, refl);
        no_first_stop = λ empty. first;
        exact = λ u. refl;
        counts = calls.0;
        opens = calls.1;
        calls = calls.2;
        most = most;
        replies = refl;
        least = let on_disk : commits_on_disk c ≡ c.before = rolled_commits stored.heap stored.legal.log.shaped in omega (arith, on_disk);
        durable = λ done. absurd (early done);
        settled = λ other good. only (outside_memory e outside (λ fault. other (is ∙ fault)));
      }
