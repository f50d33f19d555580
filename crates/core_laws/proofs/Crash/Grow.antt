-- What was sealed stays sealed: an image that stands for a commit prefix does so after every run between sound cores.
use Rattle.std.proofs.Common.{◌≡◌, inl, inr, None, Some, ℕ, ◌+◌, List, [], ◌∷◌, ◌++◌, length, take, sym, ap, ◌∙◌, subst, arith, length-append, append_assoc}
use Rattle.std.specs.Option.{option_to_list}
use Rattle.std.proofs.lemmas.List.{append-nil, take-append-le}
use Rattle.graph_model.specs.declared.event.Event.{Event}
use Rattle.graph_model.specs.Graph.{Graph}
use Rattle.graph_model.specs.Transaction.{Transaction, serial}
use Rattle.graph_model.specs.declared.reply.Refusal.TheVariants.{Failed}
use Rattle.graph_model.specs.declared.reply.Entry.{Entry}
use Rattle.graph_model.specs.declared.reply.Reply.TheVariants.{Refused}
use Rattle.graph_model.specs.History.{Account, account, sealed, commits}
use Rattle.graph_model.proofs.Runs.History.{account-append}
use Rattle.graph_model.proofs.Refusals.Plain.{account_after-refused}
use Rattle.heap_model.specs.Core.{Core, after, IsStep, IsRun}
use Rattle.heap_model.specs.CoreCrash.{HasAtLeast}
use Rattle.heap_model.proofs.Step.Grow.{grows}
use Rattle.heap_model.proofs.Run.Calls.{calls-unfailed, failed_after, same_run}
use Rattle.heap_model.specs.Image.{StandsFor}
use Rattle.core_laws.proofs.Crash.Image.{commits-sealed}
use Rattle.core_laws.proofs.Run.Events.{failed_stays}
use Rattle.core_laws.specs.Valid.{HasFailed, IsSound}

-- an event that is refused since the disk has failed commits nothing
refused_commits : (history : List Entry) (event : Event) (n : ℕ) → commits (history ++ record { event = event; reply = Refused (Failed n) } ∷ []) ≡ commits history
refused_commits history event n =
    let a = account history in
    let said : account (history ++ record { event = event; reply = Refused (Failed n) } ∷ []) ≡ record a { entries = a.entries + 1 } =
    account-append history (record { event = event; reply = Refused (Failed n) }) ∙ account_after-refused a event (Failed n) tt in
    ap (λ (x : Account). x.sealed ++ option_to_list x.in_doubt) said

whole_commits : (c d : Core) (event : Event) (n : ℕ) → (account c.history).failed ≡ Some n → d ≡ after c event → commits d.history ≡ commits c.history
whole_commits c d event n failed is = ap (λ (x : Core). commits x.history) (is ∙ failed_after c event n failed) ∙ refused_commits c.history event n

-- So a core that has failed commits nothing more.
failed_run : (c d : Core) (made : List Event) → HasFailed (account c.history) c → IsRun c made d → commits d.history ≡ commits c.history
failed_run c d [] failed run = ap (λ (x : Core). commits x.history) run
failed_run c d (event ∷ made) failed run = by run.2 (λ next. failed_run run.1 d made next run.3)
  where
    by : IsStep c event run.0 run.1 → (HasFailed (account run.1.history) run.1 → commits d.history ≡ commits run.1.history) → commits d.history ≡ commits c.history
    by (inl whole) rest =
        rest (subst (λ (x : Core). HasFailed (account x.history) x) (sym whole.1) (failed_stays c event failed))
        ∙ whole_commits c run.1 event failed.entry failed.failed whole.1
    by (inr cut) rest = let never : None ≡ Some failed.entry = sym (calls-unfailed c event cut.0.some) ∙ failed.failed in absurd (cc never)

-- Over a run commits are only added, behind those that there are.
pub commits_grow : (c d : Core) (made : List Event) → IsSound c → IsRun c made d → (more : List Transaction) × (commits d.history ≡ commits c.history ++ more)
commits_grow c d made (inl valid) run =
    let more = grows c d made run in
    let doubt = option_to_list (account d.history).in_doubt in (
      more.0 ++ doubt,
      ap (λ (l : List Transaction). l ++ doubt) more.1 ∙ append_assoc (sealed c.history) more.0 doubt ∙ ap (λ (l : List Transaction). l ++ (more.0 ++ doubt)) (sym (commits-sealed c valid)),
    )
commits_grow c d made (inr failed) run = ([], failed_run c d made failed run ∙ sym (append-nil (commits c.history)))

-- An image that stands for first commits does so of a core with more behind them.
pub has_at_least_by : (c d : Core) (more : List Transaction) (least : ℕ) (image : List ℕ) → d.g0 ≡ c.g0 → d.before ≡ c.before → commits d.history ≡ commits c.history ++ more → HasAtLeast c least image → HasAtLeast d least image
has_at_least_by c d more least image same_graph same_before all has =
    let first : take has.count (commits d.history) ≡ take has.count (commits c.history) = ap (take has.count) all ∙ take-append-le has.count (commits c.history) more has.some in
    let graph : serial d.g0 (take has.count (commits d.history)) ≡ serial c.g0 (take has.count (commits c.history)) =
    ap (λ (g : Graph). serial g (take has.count (commits d.history))) same_graph ∙ ap (serial c.g0) first in
    record {
      count = has.count;
      stands = subst (λ (n : ℕ). StandsFor (serial d.g0 (take has.count (commits d.history))) (n + has.count) image) (sym same_before)
          (subst (λ (g : Graph). StandsFor g (c.before + has.count) image) (sym graph) has.stands);
      enough = has.enough;
      some = omega (arith, has.some, ap length all, length-append (commits c.history) more);
    }

-- So it does after a run, and for as many commits.
pub has_at_least_on : (c d : Core) (made : List Event) (least : ℕ) (image : List ℕ) → IsSound c → IsRun c made d → HasAtLeast c least image → HasAtLeast d least image
has_at_least_on c d made least image from run has =
    let more = commits_grow c d made from run in
    let same = same_run c d made run in
    has_at_least_by c d more.0 least image same.g0 same.before more.1 has
