-- What a run in threads leaves, restarted and printed.
use Rattle.std.proofs.Common.{◌≡◌, ◌⊎◌, inl, inr, ℕ, Bool, List, [], ◌∷◌, ◌++◌, length, take, Some, Ok, Result, refl, sym, ap, ◌∙◌, subst, append-nil, append_assoc}
use Rattle.std.specs.Prelude.{IsTrue}
use Rattle.std.specs.List.{AllByRecursion}
use Rattle.std.specs.declared.alloc.AllocError.{AllocError}
use Rattle.disk_model.specs.declared.disk.Disk.{Ghosts}
use Rattle.disk_model.specs.Disk.{Only}
use Rattle.graph_model.specs.declared.event.Event.{Event}
use Rattle.graph_model.specs.declared.reply.Entry.{Entry}
use Rattle.graph_model.specs.Canon.{canon}
use Rattle.graph_model.specs.Graph.{Graph, new_graph}
use Rattle.graph_model.specs.History.{sealed, commits}
use Rattle.graph_model.specs.Transaction.{serial, serial_replies}
use Rattle.commit_order.specs.SerialOrder.{HasPlainReplies}
use Rattle.core_laws.proofs.Run.Events.{run_reached}
use Rattle.core_laws.proofs.Step.Sound.{sound_valid}
use Rattle.heap_model.specs.Core.{Core, IsRun}
use Rattle.heap_model.proofs.Run.Calls.{same_run, step_history}
use Rattle.heap_model.proofs.Step.Calls.{run_append}
use Rattle.log_machine.proofs.ListLaws.{AllByRecursion-front}
use Rattle.script_text.specs.declared.line.Line.{Line}
use Rattle.script_text.specs.Script.{script}
use Rattle.thread_program.specs.Together.{IsWorked}
use Rattle.heap_program.specs.declared.status.Status.{Status}
use Rattle.heap_program.specs.Headline.{IsNotMade, made_super, made_core}
use Rattle.heap_program.specs.Play.{IsRunning, lines_text, WroteFront}
use Rattle.heap_program.specs.Playable.{IsReadFrom}
use Rattle.heap_program.proofs.CoreSteps.{made_reached}
use Rattle.heap_program.proofs.PrintedImage.{whole_count}
use Rattle.thread_program.specs.Together.{AreLast, PlaysTogether, RunsTogether}
use Rattle.thread_program.proofs.SafeLaws.{done_settled}
use Rattle.black_box.specs.Stores.{Stores}
use Rattle.black_box.specs.Told.{EndsScript, HaveReplies, MakesNone, events_of, text_of}
use Rattle.black_box.specs.Workers.{TellsWorkers}
use Rattle.black_box.proofs.FitLaws.{run_fits, replies_so_far}
use Rattle.black_box.proofs.History.{ending_ends}
use Rattle.black_box.proofs.Left.{legal_stores, prefix_stores}
use Rattle.black_box.proofs.Runs.{made_none}

-- a run adds an entry for each of its events
entries_more : (c d : Core) (made : List Event) → IsRun c made d → (more : List Entry) × (d.history ≡ c.history ++ more) × (events_of more ≡ made)
entries_more c d [] run = ([], ap (λ (x : Core). x.history) run ∙ sym (append-nil c.history), refl)
entries_more c d (event ∷ made) run =
    let entry : Entry = record { event = event; reply = run.0 } in
    let rest = entries_more run.1 d made run.3 in (
      entry ∷ rest.0,
      rest.1 ∙ ap (λ (h : List Entry). h ++ rest.0) (step_history c run.1 event run.0 run.2) ∙ append_assoc c.history (entry ∷ []) rest.0,
      ap (λ (l : List Event). event ∷ l) rest.2,
    )

-- what is sent after the workers ends what they left open
last_ends : (c : Core) (sent : List Event) (between : Core) (last : List Event) (end : Result (Unit {0}) AllocError) → AreLast c sent between last end → AllByRecursion EndsScript last
last_ends c sent between last end (inl none) = subst (AllByRecursion EndsScript) (sym none) tt
last_ends c sent between last end (inr some) =
    AllByRecursion-front EndsScript last some.2.0 (subst (AllByRecursion EndsScript) some.2.1 (ending_ends between))

module _ {D : Type 0} (g : Ghosts D) where
  -- A run in threads, and any image that a crash leaves of it.
  workers_script : (begins : Graph) (tries calls : ℕ) (c : Core) (told : Bool) (left : List ℕ) (old new again : D) (result : Status) (hears : Bool) (before after : List ℕ) → IsTrue told → IsTrue hears → c.g0 ≡ begins → c.history ≡ [] → IsRunning c
      → PlaysTogether g tries (IsReadFrom told left) calls c old new result hears before after → g.may_leave new (g.bytes again) → Only (g.bytes again) (g.may_leave again)
      → (read : List Line) × (script left ≡ Ok read) × (kept : Graph) × Stores g kept again × TellsWorkers begins tries read result before after kept
  workers_script begins tries calls c told left old new again result hears before after tells sink g0 fresh running plays leaves only =
      let played = plays.played in
      let runs = played.runs in
      let together = runs.together in
      let made = runs.made in
      let d = runs.core in
      let run : IsRun c made d = subst (λ (l : List Event). IsRun c l d) (sym together.parts) (run_append c together.between d together.sent together.last together.run together.rest) in
      let same : d.g0 ≡ begins = (same_run c d made run).g0 ∙ g0 in
      let at_end = run_reached c d made running.reached runs.sessions run in
      let more = entries_more together.between d together.last together.rest in
      let kept = played.disk.kept (g.bytes again) leaves in
      let first = kept.1 in
      let stands = first.stands in
      let there = legal_stores g again stands.stored stands.says.legal stands.says.seen stands.says.shows stands.held only in
      let written = runs.written sink in
      let none = ap (λ (h : List Entry). length h) fresh in (
        plays.lines,
        ap script (sym (plays.script.own tells)) ∙ plays.script.script,
        there.0,
        there.1,
        record {
          history = d.history;
          sent = together.between.history;
          last = more.0;
          parts = more.1;
          ends = subst (AllByRecursion EndsScript) (sym more.2) (last_ends c together.sent together.between together.last together.workers_end together.last_are);
          end = together.workers_end;
          worked = subst (λ (n : ℕ). IsWorked tries plays.lines n together.between.history together.workers_end) none together.worked;
          front = subst (λ (x : Graph). WroteFront before (lines_text d.history ++ text_of (serial x (sealed d.history))) after) same written.front;
          fits = run_fits c d made fresh run;
          plain = subst (λ (x : Graph). HasPlainReplies x d.history) same at_end.locked.plain;
          replies = played.replies ∙ ap (λ (x : Graph). serial_replies x (commits d.history)) same;
          so_far = λ first rest is. subst (λ (x : Graph). HaveReplies x first) same (replies_so_far d.g0 d.history first rest at_end.locked.plain at_end.locked.two_phase is);
          count = kept.0;
          least = first.kept;
          most = first.some;
          graph = there.2 ∙ stands.says.graph ∙ ap (λ (x : Graph). canon (serial x (take kept.0 (commits d.history)))) same;
          fails = at_end.locked.fails;
          done = λ done.
              let settled = done_settled tries plays.lines c made d result running.reached running.unfailed runs.sessions together done in (
                (together.done done).0,
                (sound_valid d at_end.sound settled.1).certain,
                whole_count d (g.bytes again) at_end settled.1 settled.0 kept,
                written.whole done ∙ ap (λ (x : Graph). before ++ (lines_text d.history ++ text_of (serial x (sealed d.history)))) same,
              );
        },
      )

  -- A run in threads on a new heap.
  pub workers_new : (pages tries : ℕ) (told : Bool) (left : List ℕ) (old new again : D) (result : Status) (hears : Bool) (before after : List ℕ) → IsTrue told → IsTrue hears → RunsTogether g (Some pages) tries (IsReadFrom told left) old new result hears before after
      → g.may_leave new (g.bytes again) → Only (g.bytes again) (g.may_leave again)
      → (MakesNone result × (after ≡ before)) ⊎ ((read : List Line) × (script left ≡ Ok read) × (kept : Graph) × Stores g kept again × TellsWorkers new_graph tries read result before after kept)
  workers_new pages tries told left old new again result hears before after tells sink (inl unmade) leaves only = inl (made_none g (made_super pages) old new result unmade.reason, unmade.nothing sink)
  workers_new pages tries told left old new again result hears before after tells sink (inr plays) leaves only =
      let image = g.bytes plays.made in
      inr (workers_script new_graph tries 0 (made_core pages image) told left plays.made new again result hears before after tells sink refl refl
      (record { reached = made_reached pages image plays.format.empty.log.shaped.limits; unfailed = refl }) plays.plays leaves only)

  -- after it a graph is stored, or no heap was made
  pub workers_store : (pages tries : ℕ) (is_script : List Line → Type 0) (old new again : D) (result : Status) (hears : Bool) (before after : List ℕ) → RunsTogether g (Some pages) tries is_script old new result hears before after → g.may_leave new (g.bytes again)
      → Only (g.bytes again) (g.may_leave again) → IsNotMade g (made_super pages) old new result hears before after ⊎ ((kept : Graph) × Stores g kept again)
  workers_store pages tries is_script old new again result hears before after (inl unmade) leaves only = inl unmade
  workers_store pages tries is_script old new again result hears before after (inr plays) leaves only =
      let played = plays.plays.played in
      inr (prefix_stores g again played.runs.core (played.disk.kept (g.bytes again) leaves) only)
