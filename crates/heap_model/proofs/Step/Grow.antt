-- What was sealed stays sealed: an image that stands for a commit prefix does so after every step.
use Rattle.std.proofs.Common.{◌≡◌, ℕ, ◌≤◌, List, [], ◌∷◌, ◌++◌, refl, sym, ap, ◌∙◌, subst, arith, append_assoc}
use Rattle.std.specs.Option.{option_to_list}
use Rattle.std.proofs.lemmas.List.{append-nil}
use Rattle.graph_model.specs.declared.event.Event.{Event}
use Rattle.graph_model.specs.declared.event.Event.TheVariants.{Seal}
use Rattle.graph_model.specs.declared.reply.Entry.{Entry}
use Rattle.graph_model.specs.declared.reply.Refusal.TheVariants.{DiskFault, Stopped}
use Rattle.graph_model.specs.declared.reply.Reply.{Reply}
use Rattle.graph_model.specs.declared.reply.Reply.TheVariants.{Begun, Sealed, Aborted, Durable, Refused}
use Rattle.graph_model.specs.Transaction.{Transaction}
use Rattle.graph_model.specs.History.{Account, account, account_after, session_of, done, cut_short, answered, sealed, acknowledged}
use Rattle.graph_model.proofs.Runs.History.{account-append}
use Rattle.heap_model.specs.Core.{Core, IsStep, IsRun}
use Rattle.heap_model.specs.CoreCrash.{IsCommitPrefix, HasAtLeast}
use Rattle.heap_model.proofs.Run.Calls.{step_history}

-- Between two accounts nothing that was sealed is lost.
abbrev Adds : Account → Account → Type 0
Adds a b = (more : List Transaction) × (b.sealed ≡ a.sealed ++ more)

done_adds : (a : Account) (event : Event) (reply : Reply) → Adds a (done a event reply)
done_adds a event (Begun n) = ([], sym (append-nil a.sealed))
done_adds a event (Sealed n) = let ended : List Transaction = option_to_list (a.active (session_of event)) in (ended, refl)
done_adds a event Aborted = ([], sym (append-nil a.sealed))
done_adds a event (Durable n) = ([], sym (append-nil a.sealed))
done_adds a event (Refused why) = ([], sym (append-nil a.sealed))
done_adds a event reply = ([], sym (append-nil a.sealed))

cut_adds : (a : Account) (event : Event) → Adds a (cut_short a event)
cut_adds a (Seal s) = ([], sym (append-nil a.sealed))
cut_adds a event = ([], sym (append-nil a.sealed))

answered_adds : (a : Account) (event : Event) (reply : Reply) → Adds a (answered a event reply)
answered_adds a event (Refused DiskFault) = cut_adds a event
answered_adds a event (Refused Stopped) = cut_adds a event
answered_adds a event reply = done_adds a event reply

step_adds : (c d : Core) (event : Event) (reply : Reply) → IsStep c event reply d → Adds (account c.history) (account d.history)
step_adds c d event reply step =
    let entry : Entry = record { event = event; reply = reply } in
    let a = account c.history in
    let one : Adds a (account_after a entry) = answered_adds a event reply in
    let said = subst (Adds a) (sym (account-append c.history entry)) one in
    subst (λ (l : List Entry). Adds a (account l)) (sym (step_history c d event reply step)) said

-- What was sealed stays so over a run, before what is sealed in it.
pub grows : (c d : Core) (made : List Event) → IsRun c made d → (more : List Transaction) × (sealed d.history ≡ sealed c.history ++ more)
grows c d [] run = ([], ap (λ (x : Core). sealed x.history) run ∙ sym (append-nil (sealed c.history)))
grows c d (event ∷ made) run =
    let one = step_adds c run.1 event run.0 run.2 in
    let rest = grows run.1 d made run.3 in (
      one.0 ++ rest.0,
      rest.1 ∙ ap (λ (l : List Transaction). l ++ rest.0) one.1 ∙ append_assoc (sealed c.history) one.0 rest.0,
    )

-- an image that keeps what was acknowledged has as many commits at least
pub keeps_at_least : (c : Core) (image : List ℕ) → IsCommitPrefix c image → HasAtLeast c (acknowledged c.history) image
keeps_at_least c image keeps = record { count = keeps.0; stands = keeps.1.stands; enough = keeps.1.kept; some = keeps.1.some }

-- an image that has at least that many commits also has at least fewer
pub has_fewer : (c : Core) (least fewer : ℕ) (image : List ℕ) → fewer ≤ least → HasAtLeast c least image → HasAtLeast c fewer image
has_fewer c least fewer image le has = record { count = has.count; stands = has.stands; enough = omega (arith, le, has.enough); some = has.some }
