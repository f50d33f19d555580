-- What a run of workers says of its history and its output.
use Rattle.std.proofs.Common.{◌≡◌, ◌≢◌, ◌⊎◌, inl, inr, ℕ, Bool, List, [], None}
use Rattle.std.specs.Prelude.{IsTrue, IsErr}
use Rattle.std.specs.List.{AllByRecursion}
use Rattle.graph_model.specs.declared.event.Event.{Event}
use Rattle.graph_model.specs.History.{account, IsOfSession}
use Rattle.heap_model.specs.Core.{Core}
use Rattle.heap_model.specs.Ending.{ending}
use Rattle.heap_program.specs.declared.status.Status.{Status}
use Rattle.heap_program.specs.declared.status.Status.TheVariants as status
use Rattle.heap_program.specs.Headline.{IsEndOfPlay}
use Rattle.heap_program.specs.Play.{IsRunning, MadeAll}
use Rattle.heap_program.proofs.Limits.{limits_law}
use Rattle.script_text.specs.declared.line.Line.{Line}
use Rattle.thread_program.specs.Together.{MakesTogether, RunsByWorkers, EndsUnwritten, PrintsTogether, PrintsSomeTogether}
use Rattle.thread_program.specs.Written.{WritesAll}
use Rattle.thread_program.proofs.MadeLaws.{made_again}
use Rattle.heap_model.specs.Image.{StoredHeap}

module _ (c : Core) (running : IsRunning c) (new : c.history ≡ []) (tries : ℕ) (lines : List Line) (made : List Event) (core : Core) (of : AllByRecursion IsOfSession made) (result : Status) (told : Bool) (before after : List ℕ) where
  abbrev pub runs_by : (together : MakesTogether tries lines c made core result) → IsEndOfPlay result → (result ≡ status.DiskFault → (account core.history).failed ≢ None) → (IsTrue told → WritesAll core result before after)
      → (IsErr together.workers_end → IsTrue told → after ≡ before) → (IsTrue told → MadeAll c made core → (after ≡ before) ⊎ (together.last ≡ ending together.between)) → RunsByWorkers tries lines c result told before after
  runs_by together is_end failed written nothing late = record {
    made = made;
    sessions = of;
    core = core;
    together = together;
    limits = limits_law c running.reached new made of core;
    failed = λ is. inl (failed is);
    again = λ is. made_again tries lines c made core result running.reached running.unfailed of together is;
    written = written;
    nothing = nothing;
    late = late;
    end = is_end;
  }

-- It says so of the script that was read, and of less of the image and of the disk.
pub prints_script : {from less : StoredHeap → (ℕ → ℕ) → Type 0} {rose rose' : Type 0} (read : List Line → Type 0) (tries : ℕ) (script : List Line) (by : Status) (told : Bool) (before after : List ℕ) → read script
    → ((stored : StoredHeap) (gates : ℕ → ℕ) → from stored gates → less stored gates) → (rose → rose') → PrintsSomeTogether from rose tries script by told before after
    → EndsUnwritten by told before after ⊎ ((lines : List Line) × read lines × PrintsTogether less rose' tries lines by told before after)
prints_script read tries script by told before after is implies more (inl nothing) = inl nothing
prints_script read tries script by told before after is implies more (inr run) = inr (
  script,
  is,
  record {
    first = run.first;
    opened = run.opened;
    image = implies run.opened.heap run.opened.gates run.image;
    runs = run.runs;
    caused = λ failed. elim (run.caused failed) [ inl up ↦ inl (more up) | inr memory ↦ inr memory ];
  },
)
