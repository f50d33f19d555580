-- A collection copies no garbage: what transactions have overwritten references to since no one was active is reached.
use Rattle.std.proofs.Common.{◌≡◌, ◌≢◌, ◌⊎◌, inl, inr, List, [], ◌∷◌, Option, None, Some, refl, sym, ap, ◌∙◌, subst}
use Rattle.std.specs.Prelude.{Contains}
use Rattle.std.specs.List.{AllByRecursion}
use Rattle.std.proofs.lemmas.Option.{same_Some}
use Rattle.graph_model.specs.declared.event.Event.{Event}
use Rattle.graph_model.specs.declared.event.Event.TheVariants.{Flip}
use Rattle.graph_model.specs.declared.id.Id.{Id}
use Rattle.graph_model.specs.declared.reply.Entry.{Entry}
use Rattle.graph_model.specs.declared.reply.Reply.{Reply}
use Rattle.graph_model.specs.Canon.{Reached, at_root, along}
use Rattle.graph_model.specs.History.{Account, account, account_after, IsOfSession}
use Rattle.graph_model.specs.Transaction.{Transaction}
use Rattle.graph_model.proofs.Runs.History.{account-append}
use Rattle.commit_order.specs.Heard.{heard_in}
use Rattle.commit_order.specs.SerialOrder.{numbers_begun}
use Rattle.commit_order.proofs.OrderLaws.{IsOrdered, two_phase_ordered}
use Rattle.heap_spaces.specs.Collection.{Collection}
use Rattle.log_machine.specs.declared.UndoEntry.{UndoEntry}
use Rattle.log_machine.specs.Machine.{State, after_all, undo_of}
use Rattle.heap_model.specs.Collecting.{flip_records, flip_records_in}
use Rattle.heap_model.specs.Core.{Core, IsRun, all_words, done, event_records, ground, roots, undo_with, with_entry}
use Rattle.heap_model.proofs.Run.Calls.{step_history}
use Rattle.core_laws.proofs.Collecting.Entries.{all_at}
use Rattle.core_laws.proofs.Run.Events.{step_reached}
use Rattle.core_laws.proofs.Step.Events.{may_go}
use Rattle.core_laws.proofs.Step.Goes.{writing_of}
use Rattle.core_laws.proofs.Step.Sound.{reached_agrees, sound_valid}
use Rattle.core_laws.specs.Valid.{IsReached, IsValid, RunsLocked}
use Rattle.limit_laws.specs.Copies.{IsIdle, NoGarbageTheorem, sealed_graph}
use Rattle.limit_laws.proofs.Copies.Along.{flip_past}
use Rattle.limit_laws.proofs.Copies.Begun.{flip_begins, unfailed}
use Rattle.limit_laws.proofs.Copies.Edges.{StandApart}
use Rattle.limit_laws.proofs.Copies.Entries.{known}
use Rattle.limit_laws.proofs.Copies.Granted.{said_of}
use Rattle.limit_laws.proofs.Copies.Kept.{IsKept, IsOverwritten, of_field, of_overwritten, of_root}
use Rattle.limit_laws.proofs.Copies.Overwritten.{IsEntryPast, IsNoUpdate, KeepsPast, event_past, none_past}
use Rattle.limit_laws.proofs.Copies.Own.{stand_apart}
use Rattle.limit_laws.proofs.Copies.Past.{past_within}
use Rattle.limit_laws.proofs.Copies.Quiet.{IsStill}
use Rattle.limit_laws.proofs.Copies.Reached.{copied_kept, followed, still_any}
use Rattle.limit_laws.proofs.Copies.Steps.{not_made}
use Rattle.limit_laws.proofs.Copies.Within.{OwnOr}
use Rattle.limit_laws.proofs.Events.Kinds.{IsNoFlip}
use Rattle.limit_laws.proofs.Events.Steps.{IsDone, granted, refused, step_done}

-- Steps.

past_still : (a b : Account) (e : Core) (s : State) → IsStill a b → KeepsPast a e s → KeepsPast b e s
past_still a b e s still was = subst (λ x. KeepsPast (record b { active = x }) e s) (sym still.active) (subst (λ x. KeepsPast (record b { active = a.active; sealed = x }) e s) (sym still.sealed) was)

past_entry : (b : Account) (x : Core) (s : State) (event : Event) (r : Reply) → KeepsPast b x s → KeepsPast b (with_entry x event r) s
past_entry b x s event r was = was

is_flip : (event : Event) → (event ≡ Flip) ⊎ (event ≢ Flip)
is_flip Flip = inl refl
is_flip event = inr (λ same. cc same)

-- a flip that is granted begins a collection, or leaves the one that runs
flip_event : (e : Core) (valid : IsValid e) (runs : RunsLocked e.g0 e.first e.history) (n : State) → after_all valid.behind (event_records e Flip) ≡ Some n → StandApart (done e Flip).places → KeepsPast (account e.history) e valid.behind
    → KeepsPast (said_of e Flip) (done e Flip) n
flip_event e valid runs n follows apart was = by valid.behind.collection refl
  where
    by : (o : Option Collection) → valid.behind.collection ≡ o → KeepsPast (said_of e Flip) (done e Flip) n
    by None none = flip_past e valid runs none n follows apart was
    by (Some k) run =
        let nothing : event_records e Flip ≡ [] =
        ap (λ (o : Option State). flip_records o (all_words e) (roots (ground e) e.g0 (account e.history))) valid.told.reached
        ∙ ap (flip_records_in valid.behind (all_words e) (roots (ground e) e.g0 (account e.history))) run in
        none_past e valid runs n Flip tt (subst (AllByRecursion IsNoFlip) (sym nothing) tt) (subst (AllByRecursion IsNoUpdate) (sym nothing) tt) follows apart was

step_past : (e f : Core) (event : Event) (r : Reply) (reached : IsReached e) (there : IsReached f) → account f.history ≡ account_after (account e.history) (record { event = event; reply = r })
    → IsDone e f event r (reached_agrees e reached).behind (reached_agrees f there).behind → KeepsPast (account e.history) e (reached_agrees e reached).behind → KeepsPast (account f.history) f (reached_agrees f there).behind
step_past e f event r reached there told (refused why says is same) was =
    let before = (reached_agrees e reached).behind in
    let still : IsStill (account e.history) (account f.history) =
    subst (IsStill (account e.history)) (sym told) (subst (λ (x : Reply). IsStill (account e.history) (account_after (account e.history) (record { event = event; reply = x }))) (sym says) (still_any (account e.history) event why)) in
    subst (KeepsPast (account f.history) f) (sym same) (subst (λ (x : Core). KeepsPast (account f.history) x before) (sym is) (past_entry (account f.history) e before event r (past_still (account e.history) (account f.history) e before still was)))
step_past e f event r reached there told (granted may says is follows) was =
    let before = (reached_agrees e reached).behind in
    let n = (reached_agrees f there).behind in
    let valid = sound_valid e reached.sound (unfailed (account e.history).failed _ may) in
    let same : before ≡ valid.behind = same_Some before valid.behind (sym (reached_agrees e reached).told.reached ∙ valid.told.reached) in
    let goes = subst (λ (x : State). after_all x (event_records e event) ≡ Some n) same follows in
    let old = subst (KeepsPast (account e.history) e) same was in
    let apart = subst (λ (x : Core). StandApart x.places) is (stand_apart _ f (reached_agrees f there)) in
    let now : KeepsPast (said_of e event) (done e event) n = elim (is_flip event) [
      | inl flip ↦
          subst (λ (x : Event). KeepsPast (said_of e x) (done e x) n) (sym flip)
          (flip_event e valid reached.locked n (subst (λ (x : Event). after_all valid.behind (event_records e x) ≡ Some n) flip goes) (subst (λ (x : Event). StandApart (done e x).places) flip apart) old)
      | inr other ↦ event_past e valid reached.locked n event other (may_go e event valid.unfailed may) goes apart old
    ] in
    subst (λ (x : Account). KeepsPast x f n) (ap (λ (x : Reply). account_after (account e.history) (record { event = event; reply = x })) (sym says) ∙ sym told)
    (subst (λ (x : Core). KeepsPast (said_of e event) x n) (sym is) (past_entry (said_of e event) (done e event) n event r now))

-- Runs.

-- What has been so since no transaction was active.
record HasPast (e : Core) : Type 0 where
  reached : IsReached e
  past : KeepsPast (account e.history) e (reached_agrees e reached).behind

always : (P : UndoEntry → Type 0) (us : List UndoEntry) → ((u : UndoEntry) → P u) → AllByRecursion P us
always P [] each = tt
always P (u ∷ us) each = (each u, always P us each)

past_first : (e : Core) → IsReached e → IsIdle e → HasPast e
past_first e reached idle = record {
  reached = reached;
  past = λ q us is. always (IsEntryPast (account e.history) (sealed_graph e) e.places q) us (λ u r t active number. absurd (cc (sym (idle r) ∙ active)));
}

past_run : (e d : Core) (events : List Event) → AllByRecursion IsOfSession events → IsRun e events d → HasPast e → HasPast d
past_run e d [] of run has = subst HasPast (sym run) has
past_run e d (event ∷ events) of run has =
    let there = step_reached e run.1 event run.0 has.reached of.0 run.2 in
    let entry : Entry = record { event = event; reply = run.0 } in
    let told : account run.1.history ≡ account_after (account e.history) entry = ap account (step_history e run.1 event run.0 run.2) ∙ account-append e.history entry in
    let step = step_done e run.1 event run.0 (reached_agrees e has.reached).behind (reached_agrees run.1 there).behind run.2 (reached_agrees e has.reached).told.reached (reached_agrees run.1 there).told.reached in
    past_run run.1 d events of.1 run.3 (record { reached = there; past = step_past e run.1 event run.0 has.reached there told step has.past })

-- What is kept is reached.

module _ (c : Core) (has : HasPast c) (valid : IsValid c) where
  ordered : IsOrdered c.g0 (numbers_begun c.history) (account c.history) (heard_in c.history)
  ordered = two_phase_ordered c.g0 c.history has.reached.locked.plain has.reached.locked.two_phase

  overwritten_reached : (id : Id) → IsOverwritten c id → Reached (sealed_graph c) id
  overwritten_reached id wrote =
      let a = account c.history in
      let g = sealed_graph c in
      let t = wrote.transaction in
      let s = (reached_agrees c has.reached).behind in
      let told = (reached_agrees c has.reached).told.reached in
      let there = subst (λ (o : Option State). Contains (undo_with o t.number) wrote.entry) told wrote.written in
      let past = all_at (IsEntryPast a g c.places t.number) (undo_of s t.number) wrote.entry (known (IsEntryPast a g c.places) s t.number has.past) there in
      let within = past_within (Reached g) g t at_root (λ z y i reached refers. along i y reached refers) (ordered.unused wrote.session t wrote.active) id (past wrote.session t wrote.active refl wrote.at wrote.refers id wrote.stands) in
      others t within (not_made t c.places id wrote.at (writing_of a c wrote.session t wrote.active valid).made.apart wrote.stands)
    where
      others : (t : Transaction) → OwnOr (Reached (sealed_graph c)) t.number id → id.t ≢ t.number → Reached (sealed_graph c) id
      others t (inl own) apart = absurd (apart own)
      others t (inr reached) apart = reached

  kept_reached : (id : Id) → IsKept c id → Reached (sealed_graph c) id
  kept_reached id of_root = at_root
  kept_reached id (of_overwritten wrote) = overwritten_reached id wrote
  kept_reached id (of_field {id = z} i y kept refers) = along i y (kept_reached z kept) refers

-- A collection copies nothing but what is reached at its flip.
pub no_garbage_law : NoGarbageTheorem
no_garbage_law b c d before events objects words reached idle sessions run flips of more none id there =
    let has = past_run b c before sessions run (past_first b reached idle) in
    let begun = flip_begins c objects words has.reached flips in
    kept_reached c has begun.valid id (copied_kept c d (followed c d events objects words has.reached flips of more none) id there)
