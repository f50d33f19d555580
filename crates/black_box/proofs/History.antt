-- The events of a run's history, and those that end a run.
use Rattle.std.proofs.Common.{◌≡◌, ℕ, List, [], ◌∷◌, ◌++◌, Option, None, Some, sym, ap, ◌∙◌}
use Rattle.std.specs.List.{AllByRecursion, flat_map}
use Rattle.std.proofs.lemmas.List.{append-nil, append_assoc}
use Rattle.std.proofs.lemmas.List.{map-append}
use Rattle.log_machine.proofs.ListLaws.{AllByRecursion-append}
use Rattle.graph_model.specs.declared.event.Event.{Event}
use Rattle.graph_model.specs.declared.reply.Entry.{Entry}
use Rattle.graph_model.specs.History.{IsOfSession, account, sessions}
use Rattle.graph_model.specs.Transaction.{Transaction}
use Rattle.log_records.specs.declared.Record.{Record}
use Rattle.core_laws.proofs.Run.Calls.{of_session_front}
use Rattle.core_laws.proofs.Run.Ending.{aborting_of_session}
use Rattle.heap_model.specs.Core.{Core, IsRun}
use Rattle.heap_model.specs.CoreRuns.{after_events}
use Rattle.heap_model.specs.Ending.{abort_of, force_of, ending, aborting, forcing}
use Rattle.heap_model.proofs.Run.Calls.{step_history}
use Rattle.black_box.specs.Told.{EndsScript, events_of}

-- the history of a run has its events after those that it had
events_more : (c d : Core) (made : List Event) → IsRun c made d → events_of d.history ≡ events_of c.history ++ made
events_more c d [] run = ap (λ (x : Core). events_of x.history) run ∙ sym (append-nil (events_of c.history))
events_more c d (event ∷ made) run =
    let reply = run.0 in
    let mid = run.1 in
    events_more mid d made run.3
    ∙ ap (λ (l : List Event). l ++ made) (ap events_of (step_history c mid event reply run.2) ∙ map-append (λ (entry : Entry). entry.event) c.history (record { event = event; reply = reply } ∷ []))
    ∙ append_assoc (events_of c.history) (event ∷ []) made

-- and only them if it had none
pub run_events : (c d : Core) (made : List Event) → c.history ≡ [] → IsRun c made d → events_of d.history ≡ made
run_events c d made none run = events_more c d made run ∙ ap (λ (h : List Entry). events_of h ++ made) none

of_session_rest : (front rest : List Event) → AllByRecursion IsOfSession (front ++ rest) → AllByRecursion IsOfSession rest
of_session_rest [] rest all = all
of_session_rest (event ∷ front) rest all = of_session_rest front rest all.1

abort_ends : (s : ℕ) (t : Option Transaction) → AllByRecursion IsOfSession (abort_of s t) → AllByRecursion EndsScript (abort_of s t)
abort_ends s None own = tt
abort_ends s (Some t) own = own

aborts_end : (active : ℕ → Option Transaction) (ss : List ℕ) → AllByRecursion IsOfSession (flat_map (λ s. abort_of s (active s)) ss) → AllByRecursion EndsScript (flat_map (λ s. abort_of s (active s)) ss)
aborts_end active [] own = tt
aborts_end active (s ∷ ss) own =
    let first = abort_of s (active s) in
    let rest = flat_map (λ s. abort_of s (active s)) ss in
    AllByRecursion-append EndsScript first rest (abort_ends s (active s) (of_session_front first rest own)) (aborts_end active ss (of_session_rest first rest own))

force_ends : (pending : List Record) → AllByRecursion EndsScript (force_of pending)
force_ends [] = tt
force_ends (r ∷ rs) = (tt, tt)

-- the events that end a run end a script
pub ending_ends : (c : Core) → AllByRecursion EndsScript (ending c)
ending_ends c = AllByRecursion-append EndsScript (aborting c) (forcing (after_events c (aborting c))) (aborts_end ((account c.history).active) sessions (aborting_of_session c)) (force_ends (after_events c (aborting c)).pending)
