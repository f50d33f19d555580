-- Each run of an opened heap keeps to its limits.
use Rattle.std.proofs.Common.{◌≡◌, ◌≢◌, ◌≤◌, ⊎_elim, ℕ, List, [], ◌∷◌, ◌++◌, length, drop, refl, sym, ap, subst, arith}
use Rattle.std.specs.List.{AllByRecursion}
use Rattle.graph_model.specs.declared.event.Event.{Event}
use Rattle.graph_model.specs.declared.event.Event.TheVariants.{Flip, Scan}
use Rattle.graph_model.specs.declared.reply.Entry.{Entry}
use Rattle.graph_model.specs.declared.reply.Reply.{Reply}
use Rattle.graph_model.specs.declared.reply.Reply.TheVariants as reply
use Rattle.graph_model.specs.History.{account, IsOfSession}
use Rattle.log_records.specs.declared.Record.{Record}
use Rattle.heap_model.specs.Collecting.{copied_in, words_copied}
use Rattle.heap_model.specs.Core.{Core, IsRun, every_record}
use Rattle.heap_model.proofs.ListLaws.{AllByRecursion-behind}
use Rattle.core_laws.proofs.Run.Calls.{of_session_front}
use Rattle.core_laws.proofs.Run.Events.{run_reached}
use Rattle.core_laws.specs.Valid.{IsReached}
use Rattle.limit_laws.proofs.Copies.Garbage.{no_garbage_law}
use Rattle.limit_laws.proofs.Progress.Pages.{pages_law}
use Rattle.limit_laws.proofs.Runs.{run_entries, run_history}
use Rattle.limit_laws.specs.Bytes.{appended}
use Rattle.limit_laws.specs.Copies.{IsIdle}
use Rattle.limit_laws.specs.Room.{IsEnd}
use Rattle.heap_core.specs.Collects.{BeganIdle, CollectsAsTold, CopiesNoGarbage, IsUnderWay}
use Rattle.heap_core.specs.Ending.{EndsAsTold}
use Rattle.heap_core.proofs.Collects.{collects_as_told, none_added}
use Rattle.heap_core.proofs.Ends.{ends_as_told}
use Rattle.heap_program.specs.Limits.{IsStepIn, IsUnderWayIn, KeepsLimits, TakesFewBytes}
use Rattle.heap_program.proofs.Collections.{few_bytes, last_scan, scan_goes_on}

-- Each event of a run is a step of it, and its entry stands there in the history.
pub each_is_a_step : (first last : Core) (before : List Event) (event : Event) (behind : List Event) → IsRun first (before ++ event ∷ behind) last
    → (c : Core) × (answered : Reply) × IsStepIn first (before ++ event ∷ behind) last c event answered × ((rest : List Entry) × (last.history ≡ c.history ++ record { event = event; reply = answered } ∷ rest))
each_is_a_step first last [] event behind run = (
  first,
  run.0,
  record { before = []; behind = behind; parts = refl; led = refl; next = run.1; step = run.2; leads = run.3 },
  (run_entries run.1 last behind run.3, run_history first last (event ∷ behind) run),
)
each_is_a_step first last (e ∷ before) event behind run =
    let more = each_is_a_step run.1 last before event behind run.3 in
    let there = more.2 in (
      more.0,
      more.1,
      record {
        before = e ∷ there.before;
        behind = there.behind;
        parts = ap (λ (l : List Event). e ∷ l) there.parts;
        led = (run.0, run.1, run.2, there.led);
        next = there.next;
        step = there.step;
        leads = there.leads;
      },
      more.3,
    )

-- what a step that was cut short appends
few_none : (c : Core) → length (copied_in (drop (length (every_record c)) (every_record c))) ≤ 576
few_none c = subst (λ (l : List Record). length (copied_in l) ≤ 576) (sym (none_added c)) (omega arith)

module _ (first : Core) (reached : IsReached first) (nothing : first.history ≡ []) (made : List Event) (sessions : AllByRecursion IsOfSession made) (last : Core) where
  idle : IsIdle first
  idle s = ap (λ (h : List Entry). (account h).active s) nothing

  module _ (c : Core) (event : Event) (answered : Reply) (one : IsStepIn first made last c event answered) where
    before : AllByRecursion IsOfSession one.before
    before = of_session_front one.before (event ∷ one.behind) (subst (AllByRecursion IsOfSession) one.parts sessions)

    here : IsReached c
    here = run_reached first c one.before reached before one.led

    ends : IsEnd c event → EndsAsTold c event answered
    ends is = ends_as_told c one.next event answered here is one.step

    collects : CollectsAsTold c event answered
    collects = collects_as_told c one.next event answered here one.step

    few : event ≢ Flip → length (copied_in (appended c one.next)) ≤ 576
    few other =
        let P : Core → Type 0 = λ x. length (copied_in (appended c x)) ≤ 576 in
        ⊎_elim
        (λ whole. subst P (sym whole.1) (collects.few other))
        (λ cut. subst P (sym cut.1) (few_none c))
        one.step

  told : (c : Core) (page objects words : ℕ) (one : IsStepIn first made last c Scan (reply.Scanned page objects words)) → (objects ≡ length (copied_in (appended c one.next))) × (words ≡ words_copied (appended c one.next))
  told c page objects words one =
      let P : Core → Type 0 = λ x. (objects ≡ length (copied_in (appended c x))) × (words ≡ words_copied (appended c x)) in
      ⊎_elim
      (λ whole. subst P (sym whole.1) (((collects c Scan (reply.Scanned page objects words) one).scan refl).told page objects words refl))
      (λ cut. ⊎_elim (λ is. absurd (cc is)) (λ is. absurd (cc is)) cut.0.told)
      one.step

  -- The collection that is under way, as a step describes it.
  module _ (c d : Core) (events : List Event) (own : AllByRecursion IsOfSession events) (way : IsUnderWayIn first events c d) where
    both : AllByRecursion IsOfSession (way.before ++ Flip ∷ way.since)
    both = subst (AllByRecursion IsOfSession) way.parts own

    front : AllByRecursion IsOfSession way.before
    front = of_session_front way.before (Flip ∷ way.since) both

    back : AllByRecursion IsOfSession way.since
    back = (AllByRecursion-behind IsOfSession way.before (Flip ∷ way.since) both).1

    began : BeganIdle c
    began = record { first = first; reached = reached; idle = idle; events = way.before; sessions = front; run = way.led }

    under_way : IsUnderWay c d
    under_way = record {
      objects = way.objects;
      words = way.words;
      flipped = way.flipped;
      events = way.since;
      sessions = back;
      run = way.leads;
      alone = way.alone;
    }

    within : CopiesNoGarbage c d
    within = no_garbage_law first c d way.before way.since way.objects way.words reached idle front way.led way.flipped back way.leads way.alone

    bytes : TakesFewBytes c d
    bytes = few_bytes c d way.since way.objects way.words (run_reached first c way.before reached front way.led) way.flipped back way.leads way.alone

  -- What is opened keeps to its limits, whichever events are made.
  pub limits_law : KeepsLimits first made last
  limits_law = record {
    ends = ends;
    few = few;
    told = told;
    within = λ c d events behind parts way. within c d events (of_session_front events behind (subst (AllByRecursion IsOfSession) parts sessions)) way;
    exact = λ c d used one way.
        let own = before d Scan (reply.Collected used) one in
        ((collects d Scan (reply.Collected used) one).scan refl).exact c used (began c d one.before own way) (under_way c d one.before own way) refl;
    pages = λ c d before between behind parts led leads none.
        let both = of_session_front (before ++ between) behind (subst (AllByRecursion IsOfSession) parts sessions) in
        pages_law c d between (run_reached first c before reached (of_session_front before between both) led) (AllByRecursion-behind IsOfSession before between both) leads none;
    goes_on = λ d answered one collecting. scan_goes_on d one.next answered collecting one.step;
    ended = λ c d earlier between answered one parts led leads none collecting all.
        let both = subst (AllByRecursion IsOfSession) parts (before d Scan answered one) in
        last_scan c d one.next between answered (run_reached first c earlier reached (of_session_front earlier between both) led) (AllByRecursion-behind IsOfSession earlier between both) leads none collecting all one.step;
    bytes = λ c d events behind parts way. bytes c d events (of_session_front events behind (subst (AllByRecursion IsOfSession) parts sessions)) way;
  }
