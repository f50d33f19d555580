-- What a play leaves, restarted and printed.
use Rattle.std.proofs.Common.{◌≡◌, ◌⊎◌, inl, inr, ℕ, Bool, List, [], ◌++◌, length, take, None, Some, Ok, refl, sym, ap, ◌∙◌, subst}
use Rattle.std.specs.Prelude.{IsTrue}
use Rattle.std.specs.List.{AllByRecursion}
use Rattle.std.specs.Option.{option_to_list}
use Rattle.std.proofs.Math.Seq.{take-append_seam}
use Rattle.disk_model.specs.declared.disk.Disk.{Ghosts}
use Rattle.disk_model.specs.Disk.{Only}
use Rattle.graph_model.specs.declared.event.Event.{Event}
use Rattle.graph_model.specs.declared.reply.Reply.{Reply}
use Rattle.graph_model.specs.Canon.{canon}
use Rattle.graph_model.specs.Graph.{Graph, new_graph}
use Rattle.graph_model.specs.History.{sealed, commits, account, IsOfSession}
use Rattle.graph_model.specs.Transaction.{Transaction, serial, serial_replies}
use Rattle.image_plan.specs.declared.superblock.Super.{Super}
use Rattle.commit_order.specs.SerialOrder.{HasPlainReplies}
use Rattle.core_laws.proofs.Run.Calls.{of_session_front}
use Rattle.core_laws.proofs.Run.Events.{run_reached}
use Rattle.core_laws.proofs.Step.Sound.{sound_valid}
use Rattle.heap_model.specs.Core.{Core, IsRun}
use Rattle.heap_model.specs.CoreRuns.{after_events}
use Rattle.heap_model.specs.Ending.{ending}
use Rattle.heap_model.proofs.Run.Calls.{same_run}
use Rattle.heap_model.proofs.Step.Calls.{whole_run, run_step}
use Rattle.script_text.specs.declared.line.Line.{Line}
use Rattle.script_text.specs.Line.{events}
use Rattle.script_text.specs.Script.{script}
use Rattle.heap_program.specs.declared.status.Status.{Status}
use Rattle.heap_program.specs.declared.status.Status.TheVariants as status
use Rattle.heap_program.specs.Causes.{IsInputError}
use Rattle.heap_program.specs.Headline.{Runs, IsUnmade, IsNotMade, HasMade, StopsOpening, PlaysScript, made_super, made_core}
use Rattle.heap_program.specs.Play.{MadeAll, IsCutBy, IsRunning, lines_text, WroteFront}
use Rattle.heap_program.specs.Playable.{IsReadFrom}
use Rattle.heap_program.specs.Stored.{IsStored, stored_core, stored_calls}
use Rattle.heap_program.proofs.CoreSteps.{made_reached, script_is, all_playable}
use Rattle.heap_program.proofs.PlayOpen.{stored_running}
use Rattle.heap_program.proofs.PrintedImage.{ended_core, whole_count}
use Rattle.black_box.specs.Stores.{Stores}
use Rattle.black_box.specs.Told.{HaveReplies, TellsRun, MakesNone, text_of}
use Rattle.black_box.proofs.FitLaws.{run_fits, replies_so_far}
use Rattle.black_box.proofs.History.{run_events, ending_ends}
use Rattle.black_box.proofs.Left.{legal_stores, prefix_stores}

-- the events that were made are a run
made_run : (c d : Core) (made : List Event) → (MadeAll c made d ⊎ ((reply : Reply) × IsCutBy reply c made d)) → IsRun c made d
made_run c d made (inl all) = subst (λ x. IsRun c made x) (sym all) (whole_run c made)
made_run c d made (inr cut) =
    let it = cut.1 in
    subst (λ (l : List Event). IsRun c l d) (sym it.parts)
    (run_step c (after_events c it.before) d it.before it.event cut.0 (whole_run c it.before) (inr (it.cut, it.reached)))

-- a run that made no heap ended with this status
pub made_none : {D : Type 0} (g : Ghosts D) (s : Super) (old new : D) (result : Status) → IsUnmade g s old new result → MakesNone result
made_none g s old new status.Done unmade = unmade
made_none g s old new status.NoMemory unmade = tt
made_none g s old new status.Usage unmade = unmade
made_none g s old new (status.Script line) unmade = tt
made_none g s old new status.ReadFault unmade = tt
made_none g s old new status.WriteFault unmade = unmade
made_none g s old new status.DiskFault unmade = tt
made_none g s old new status.NotHeap unmade = unmade
made_none g s old new (status.Damaged at) unmade = unmade
made_none g s old new (status.TooSmall size need) unmade = tt

-- in a play without a stop that is done, all events were made
all_made : (calls : ℕ) (c : Core) (made behind : List Event) (d : Core) → (HasMade None c made behind d ⊎ StopsOpening None calls made) → (behind ≡ []) × MadeAll c made d
all_made calls c made behind d (inl all) = all
all_made calls c made behind d (inr stopped) = absurd stopped

-- the sealed ones are the first of the commits
sealed_first : (c : Core) → take (length (sealed c.history)) (commits c.history) ≡ sealed c.history
sealed_first c = take-append_seam (sealed c.history) (option_to_list (account c.history).in_doubt)

module _ {D : Type 0} (g : Ghosts D) where
  -- A play, and any image that a crash leaves of it.
  tells_script : (begins : Graph) (calls : ℕ) (c : Core) (told : Bool) (left : List ℕ) (old new again : D) (result : Status) (hears : Bool) (before after : List ℕ) → IsTrue told → IsTrue hears → c.g0 ≡ begins → c.history ≡ [] → IsRunning c
      → PlaysScript g None (IsReadFrom told left) calls c old new result hears before after → g.may_leave new (g.bytes again) → Only (g.bytes again) (g.may_leave again)
      → (read : List Line) × (script left ≡ Ok read) × (kept : Graph) × Stores g kept again × TellsRun begins read result before after kept
  tells_script begins calls c told left old new again result hears before after tells sink g0 fresh running plays leaves only =
      let played = plays.played in
      let made = played.run.made in
      let behind = played.run.behind in
      let d = played.run.core in
      let run = made_run c d made played.run.last in
      let same : d.g0 ≡ begins = (same_run c d made run).g0 ∙ g0 in
      let kept = played.disk.kept (g.bytes again) leaves in
      let first = kept.1 in
      let stands = first.stands in
      let there = legal_stores g again stands.stored stands.says.legal stands.says.seen stands.says.shows stands.held only in
      let written = played.prints.written sink in
      let Front : Graph → List Transaction → Type 0 = λ x ts. WroteFront before (lines_text d.history ++ text_of (serial x ts)) after in
      let last = ap (λ n. take n (commits d.history)) (played.prints.all refl) ∙ sealed_first d in
      let is = script_is plays.script.bytes plays.lines plays.script.script in
      let sessions = (all_playable None c plays.lines is).sessions in
      let one = of_session_front made behind (subst (AllByRecursion IsOfSession) played.run.parts sessions) in
      let at_end = run_reached c d made running.reached one run in (
        plays.lines,
        ap script (sym (plays.script.own tells)) ∙ plays.script.script,
        there.0,
        there.1,
        record {
          history = d.history;
          made = record {
            ending = ending (after_events c (events plays.lines));
            rest = behind;
            all = played.run.parts ∙ ap (λ (l : List Event). l ++ behind) (sym (run_events c d made fresh run));
            ends = ending_ends (after_events c (events plays.lines));
          };
          lines = written.lines;
          front = subst (λ x. Front x (sealed d.history)) same (subst (Front d.g0) last written.front);
          fits = run_fits c d made fresh run;
          plain = subst (λ (x : Graph). HasPlainReplies x d.history) same at_end.locked.plain;
          replies = played.replies ∙ ap (λ (x : Graph). serial_replies x (commits d.history)) same;
          so_far = λ first rest is. subst (λ (x : Graph). HaveReplies x first) same (replies_so_far d.g0 d.history first rest at_end.locked.plain at_end.locked.two_phase is);
          count = kept.0;
          least = first.kept;
          most = first.some;
          graph = there.2 ∙ stands.says.graph ∙ ap (λ (x : Graph). canon (serial x (take kept.0 (commits d.history)))) same;
          fails = at_end.locked.fails;
          done = λ done.
              let ended = all_made calls c made behind d (played.run.done done) in
              let settled = ended_core c d made behind (events plays.lines) running.reached running.unfailed is.sessions played.run.parts ended.0 ended.1 in (
                ended.0,
                (sound_valid d at_end.sound settled.1).certain,
                whole_count d (g.bytes again) at_end settled.1 settled.0 kept,
                written.whole done ∙ ap (λ (ts : List Transaction). before ++ (lines_text d.history ++ text_of (serial d.g0 ts))) last ∙ ap (λ (x : Graph). before ++ (lines_text d.history ++ text_of (serial x (sealed d.history)))) same,
              );
        },
      )

  -- A play on a new heap.
  pub tells_new : (pages : ℕ) (told : Bool) (left : List ℕ) (old new again : D) (result : Status) (hears : Bool) (before after : List ℕ) → IsTrue told → IsTrue hears → Runs g (Some pages) None (IsReadFrom told left) old new result hears before after
      → g.may_leave new (g.bytes again) → Only (g.bytes again) (g.may_leave again)
      → (MakesNone result × (after ≡ before)) ⊎ ((read : List Line) × (script left ≡ Ok read) × (kept : Graph) × Stores g kept again × TellsRun new_graph read result before after kept)
  tells_new pages told left old new again result hears before after tells sink (inl unmade) leaves only = inl (made_none g (made_super pages) old new result unmade.reason, unmade.nothing sink)
  tells_new pages told left old new again result hears before after tells sink (inr plays) leaves only =
      let image = g.bytes plays.made in
      inr (tells_script new_graph 0 (made_core pages image) told left plays.made new again result hears before after tells sink refl refl (record { reached = made_reached pages image plays.format.empty.log.shaped.limits; unfailed = refl }) plays.plays leaves only)

  -- after it a graph is stored, or no heap was made
  pub new_stores : (pages : ℕ) (is_script : List Line → Type 0) (old new again : D) (result : Status) (hears : Bool) (before after : List ℕ) → Runs g (Some pages) None is_script old new result hears before after → g.may_leave new (g.bytes again)
      → Only (g.bytes again) (g.may_leave again) → IsNotMade g (made_super pages) old new result hears before after ⊎ ((kept : Graph) × Stores g kept again)
  new_stores pages is_script old new again result hears before after (inl unmade) leaves only = inl unmade
  new_stores pages is_script old new again result hears before after (inr plays) leaves only =
      let played = plays.plays.played in
      inr (prefix_stores g again played.run.core (played.disk.kept (g.bytes again) leaves) only)

  -- A play on the heap on the disk.
  pub tells_stored : (begins : Graph) (told : Bool) (left : List ℕ) (old new again : D) (result : Status) (hears : Bool) (before after : List ℕ) → IsTrue told → IsTrue hears → Stores g begins old → Runs g None None (IsReadFrom told left) old new result hears before after
      → g.may_leave new (g.bytes again) → Only (g.bytes again) (g.may_leave again)
      → (kept : Graph) × Stores g kept again × ((IsInputError result × (after ≡ before) × (kept ≡ begins)) ⊎ ((read : List Line) × (script left ≡ Ok read) × TellsRun begins read result before after kept))
  tells_stored begins told left old new again result hears before after tells sink stores (inl none) leaves only =
      let same : g.bytes again ≡ g.bytes old = stores.only (g.bytes again) (subst (λ (x : D). g.may_leave x (g.bytes again)) none.same leaves) in
      let moved : (image : List ℕ) (e : image ≡ g.bytes old) → (stored : IsStored image) × (stored.graph ≡ begins) = λ image e. subst (λ (i : List ℕ). (stored : IsStored i) × (stored.graph ≡ begins)) (sym e) (stores.stored, stores.is) in
      let there = moved (g.bytes again) same in
      (begins, record { stored = there.0; is = there.1; only = only }, inl (none.reason, none.nothing sink, refl))
  tells_stored begins told left old new again result hears before after tells sink stores (inr plays) leaves only =
      let tale = tells_script begins (stored_calls stores.stored) (stored_core stores.stored) told left old new again result hears before after tells sink stores.is refl (stored_running g stores.stored) (plays stores.stored) leaves only in
      (tale.2, tale.3, inr (tale.0, tale.1, tale.4))
