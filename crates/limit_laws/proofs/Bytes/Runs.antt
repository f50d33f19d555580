-- What a run takes in the log for collections.
use Rattle.std.proofs.Common.{◌≡◌, List, [], ◌∷◌, ◌++◌, length, drop, Some, refl, sym, ap, ◌∙◌, subst, arith, append_assoc}
use Rattle.std.specs.Prelude.{sum_by}
use Rattle.std.specs.List.{AllByRecursion}
use Rattle.std.proofs.lemmas.List.{append-nil}
use Rattle.std.proofs.lemmas.List.Sums.{sum_by-append}
use Rattle.std.proofs.Math.Seq.{drop-append_seam}
use Rattle.graph_model.specs.declared.event.Event.{Event}
use Rattle.graph_model.specs.declared.reply.Reply.{Reply}
use Rattle.graph_model.specs.History.{IsOfSession}
use Rattle.log_records.specs.declared.Record.{Record}
use Rattle.log_machine.specs.Machine.{State}
use Rattle.heap_model.specs.Core.{Core, IsRun, every_record, event_records}
use Rattle.core_laws.proofs.Run.Events.{step_reached}
use Rattle.core_laws.proofs.Step.Sound.{reached_agrees}
use Rattle.core_laws.specs.Valid.{IsReached}
use Rattle.limit_laws.specs.Bytes.{BytesTheorem, appended, begun_by, bytes_of, led_by, left_in, moved_by_record}
use Rattle.limit_laws.proofs.Bytes.Events.{event_fair}
use Rattle.limit_laws.proofs.Bytes.Rows.{CostAll, cost_all}
use Rattle.limit_laws.proofs.Events.Appended.{every_done}
use Rattle.limit_laws.proofs.Events.Steps.{IsDone, granted, refused, step_done}

-- What stands after the records of a core costs no more than its share.
record IsAdded (c d : Core) (s n : State) : Type 0 where
  more : List Record
  all : every_record d ≡ every_record c ++ more
  cost : CostAll s more n

added_done : (c d : Core) (event : Event) (reply : Reply) (reached : IsReached c) (n : State) → IsDone c d event reply (reached_agrees c reached).behind n → IsAdded c d (reached_agrees c reached).behind n
added_done c d event reply reached n (refused why says is same) = record {
  more = [];
  all = ap every_record is ∙ sym (append-nil (every_record c));
  cost = cost_all (reached_agrees c reached).behind n [] tt (ap Some (sym same));
}
added_done c d event reply reached n (granted may says is follows) = record {
  more = event_records c event;
  all = ap every_record is ∙ every_done c event;
  cost = event_fair c (reached_agrees c reached).behind n (reached_agrees c reached).told.reached event follows;
}

added_both : (c m d : Core) (s x n : State) → IsAdded c m s x → IsAdded m d x n → IsAdded c d s n
added_both c m d s x n first second =
    let one = first.cost in
    let two = second.cost in
    record {
      more = first.more ++ second.more;
      all = second.all ∙ ap (λ (rs : List Record). rs ++ second.more) first.all ∙ append_assoc (every_record c) first.more second.more;
      cost = omega (arith, one, two, sum_by-append bytes_of first.more second.more, sum_by-append moved_by_record first.more second.more, sum_by-append led_by first.more second.more, sum_by-append begun_by first.more second.more);
    }

added_run : (c d : Core) (events : List Event) → IsRun c events d → (reached : IsReached c) → AllByRecursion IsOfSession events → (there : IsReached d) × IsAdded c d (reached_agrees c reached).behind (reached_agrees d there).behind
added_run c d [] run reached sessions =
    let s = (reached_agrees c reached).behind in
    subst (λ (x : Core). (there : IsReached x) × IsAdded c x (reached_agrees c reached).behind (reached_agrees x there).behind) (sym run)
    (reached, record { more = []; all = sym (append-nil (every_record c)); cost = cost_all s s [] tt refl })
added_run c d (event ∷ events) run reached sessions =
    let mid = step_reached c run.1 event run.0 reached sessions.0 run.2 in
    let rest = added_run run.1 d events run.3 mid sessions.1 in
    let s = (reached_agrees c reached).behind in
    let x = (reached_agrees run.1 mid).behind in (
      rest.0,
      added_both c run.1 d s x (reached_agrees d rest.0).behind
          (added_done c run.1 event run.0 reached x (step_done c run.1 event run.0 s x run.2 (reached_agrees c reached).told.reached (reached_agrees run.1 mid).told.reached)) rest.1,
    )

pub bytes_law : BytesTheorem
bytes_law c d events reached sessions run =
    let all = added_run c d events run reached sessions in
    let h = reached_agrees c reached in
    let it = all.1 in
    let cost = it.cost in
    let since : appended c d ≡ it.more = ap (drop (length (every_record c))) it.all ∙ drop-append_seam (every_record c) it.more in
    let left = ap left_in h.told.reached in
    omega (arith, cost, left, ap (sum_by bytes_of) since, ap (sum_by moved_by_record) since, ap (sum_by led_by) since, ap (sum_by begun_by) since)
