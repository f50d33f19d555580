-- The entries of a run.
use Rattle.std.proofs.Common.{◌≡◌, List, [], ◌∷◌, ◌++◌, length, drop, sym, ap, ◌∙◌, append_assoc}
use Rattle.std.proofs.lemmas.List.{append-nil}
use Rattle.std.proofs.Math.Seq.{drop-append_seam}
use Rattle.graph_model.specs.declared.event.Event.{Event}
use Rattle.graph_model.specs.declared.reply.Entry.{Entry}
use Rattle.heap_model.specs.Core.{Core, IsRun}
use Rattle.heap_model.proofs.Run.Calls.{step_history}
use Rattle.core_laws.specs.Unseen.{since}

-- the entries that a run adds
abbrev pub run_entries : (c d : Core) (events : List Event) → IsRun c events d → List Entry
run_entries c d [] run = []
run_entries c d (event ∷ events) run = record { event = event; reply = run.0 } ∷ run_entries run.1 d events run.3

-- what a run adds to the history
pub run_history : (c d : Core) (events : List Event) (run : IsRun c events d) → d.history ≡ c.history ++ run_entries c d events run
run_history c d [] run = ap (λ (x : Core). x.history) run ∙ sym (append-nil c.history)
run_history c d (event ∷ events) run =
    run_history run.1 d events run.3
    ∙ ap (λ (h : List Entry). h ++ run_entries run.1 d events run.3) (step_history c run.1 event run.0 run.2)
    ∙ append_assoc c.history (record { event = event; reply = run.0 } ∷ []) (run_entries run.1 d events run.3)

-- they are those since its beginning
pub since_run : (c d : Core) (events : List Event) (run : IsRun c events d) → since c d ≡ run_entries c d events run
since_run c d events run = ap (drop (length c.history)) (run_history c d events run) ∙ drop-append_seam c.history (run_entries c d events run)
