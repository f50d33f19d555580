-- What workers leave: the disk fails in one event at most, and the events that end a run are its last.
use Rattle.std.proofs.Common.{◌≡◌, ◌≢◌, ◌⊎◌, inl, inr, List, [], ◌∷◌, ◌++◌, None, refl, sym, ap, ◌∙◌, subst, append-nil}
use Rattle.std.specs.List.{AllByRecursion, flat_map}
use Rattle.graph_model.specs.declared.event.Event.{Event}
use Rattle.graph_model.specs.History.{IsOfSession, account, sessions}
use Rattle.heap_model.specs.Core.{Core, after, with_entry, IsRun}
use Rattle.heap_model.specs.CoreRuns.{after_events}
use Rattle.heap_model.specs.Ending.{abort_of, force_of, aborting, forcing, ending, all_events}
use Rattle.heap_model.proofs.Run.Calls.{calls-unfailed}
use Rattle.heap_model.proofs.Step.Calls.{after_events-append, whole_run}
use Rattle.core_laws.specs.Ended.{HasEnded, IsUnfailed}
use Rattle.core_laws.specs.Valid.{HasFailed, IsReached}
use Rattle.core_laws.proofs.Run.Calls.{reached_after, unfailed_after, reached_events, unfailed_events, of_session_front}
use Rattle.core_laws.proofs.Run.Ending.{ending_ends}
use Rattle.core_laws.proofs.Run.Events.{cut_fails, failed_stays}
use Rattle.core_laws.proofs.Step.Sound.{sound_valid}
use Rattle.heap_program.specs.Play.{MadeAll}
use Rattle.thread_program.specs.Together.{IsCutAmong}

-- After a failure no event calls the disk, so each is answered as the core says, and the failure stays.
pub failed_run : (c d : Core) (events : List Event) → HasFailed (account c.history) c → IsRun c events d → (d ≡ after_events c events) × HasFailed (account d.history) d
failed_run c d [] failed run = (run, subst (λ (x : Core). HasFailed (account x.history) x) (sym run) failed)
failed_run c d (event ∷ events) failed (reply, mid, inl whole, rest) = failed_run (after c event) d events (failed_stays c event failed) (subst (λ (m : Core). IsRun m events d) whole.1 rest)
failed_run c d (event ∷ events) failed (reply, mid, inr cut, rest) = absurd (let never = calls-unfailed c event cut.0.some in let is = failed.failed in cc)

-- one event later
abbrev pub cut_later : (c d : Core) (event : Event) (made : List Event) → IsCutAmong (after c event) made d → IsCutAmong c (event ∷ made) d
cut_later c d event made cut = record { before = event ∷ cut.before; event = cut.event; behind = cut.behind; parts = ap (λ l. event ∷ l) cut.parts; reply = cut.reply; cut = cut.cut; reached = cut.reached }

-- In a run the disk does all that it is asked, or it fails in one of the events.
pub run_cut : (c d : Core) (made : List Event) → IsReached c → IsUnfailed c → AllByRecursion IsOfSession made → IsRun c made d → (MadeAll c made d × IsUnfailed d) ⊎ (IsCutAmong c made d × HasFailed (account d.history) d)
run_cut c d [] reached unfailed of run = inl (run, subst IsUnfailed (sym run) unfailed)
run_cut c d (event ∷ made) reached unfailed of (reply, mid, inl whole, rest) =
    elim (run_cut (after c event) d made (reached_after c event reached of.0) (unfailed_after c event reached unfailed of.0) of.1 (subst (λ (m : Core). IsRun m made d) whole.1 rest)) [
      | inl all ↦ inl all
      | inr cut ↦ inr (cut_later c d event made cut.0, cut.1)
    ]
run_cut c d (event ∷ made) reached unfailed of (reply, mid, inr cut, rest) =
    let failed : HasFailed (account (with_entry c event reply).history) (with_entry c event reply) = cut_fails c event reply (sound_valid c reached.sound unfailed) cut.0 in
    let behind = failed_run (with_entry c event reply) d made failed (subst (λ (m : Core). IsRun m made d) cut.1 rest) in
    inr (record { before = []; event = event; behind = made; parts = refl; reply = reply; cut = cut.0; reached = behind.0 }, behind.1)

-- Where the disk failed or stopped in one of the events, it has failed since.
pub cut_failed : (c d : Core) (made : List Event) → IsReached c → IsUnfailed c → AllByRecursion IsOfSession made → IsCutAmong c made d → HasFailed (account d.history) d
cut_failed c d made reached unfailed of cut =
    let all = subst (AllByRecursion IsOfSession) cut.parts of in
    let before = of_session_front cut.before (cut.event ∷ cut.behind) all in
    let mid = after_events c cut.before in
    let valid = sound_valid mid (reached_events c cut.before reached before).sound (unfailed_events c cut.before reached unfailed before) in
    let failed = cut_fails mid cut.event cut.reply valid cut.cut in
    let behind = failed_run (with_entry mid cut.event cut.reply) d cut.behind failed (subst (IsRun (with_entry mid cut.event cut.reply) cut.behind) (sym cut.reached) (whole_run (with_entry mid cut.event cut.reply) cut.behind)) in
    behind.1

-- A disk that has failed is reported so.
pub failed_some : (c : Core) → HasFailed (account c.history) c → (account c.history).failed ≢ None
failed_some c failed none = let is = failed.failed in cc

flat_map_none : {X Y : Type 0} (f : X → List Y) → ((x : X) → f x ≡ []) → (xs : List X) → flat_map f xs ≡ []
flat_map_none f none [] = refl
flat_map_none f none (x ∷ xs) = ap (λ l. l ++ flat_map f xs) (none x) ∙ flat_map_none f none xs

-- a run that has ended has no more events that end it
ended_none : (d : Core) → HasEnded d → ending d ≡ []
ended_none d ended =
    let none : aborting d ≡ [] = flat_map_none (λ s. abort_of s ((account d.history).active s)) (λ s. ap (abort_of s) (ended.idle s)) sessions in
    ap (λ l. l ++ forcing (after_events d l)) none ∙ ap force_of ended.settled

-- All events of a run are all that a play of just these makes.
pub all_again : (c : Core) (sent : List Event) → IsReached c → IsUnfailed c → AllByRecursion IsOfSession sent → all_events None c (sent ++ ending (after_events c sent)) ≡ sent ++ ending (after_events c sent)
all_again c sent reached unfailed of =
    let d = after_events c sent in
    let made = sent ++ ending d in
    let ended : HasEnded (after_events c made) = subst HasEnded (sym (after_events-append c sent (ending d))) (ending_ends d (reached_events c sent reached of) (unfailed_events c sent reached unfailed of)) in
    ap (λ l. made ++ l) (ended_none (after_events c made) ended) ∙ append-nil made
