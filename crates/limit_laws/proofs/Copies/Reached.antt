-- What a collection has copied since its flip, whatever sessions do: nothing but what is kept.
use Rattle.std.proofs.Common.{◌≡◌, ℕ, List, [], ◌∷◌, ◌++◌, drop, length, None, Some, is_some, true, refl, sym, ap, ◌∙◌, subst, append_assoc}
use Rattle.std.proofs.Math.Seq.{drop-append_seam}
use Rattle.std.specs.Prelude.{Contains, slice_get}
use Rattle.std.specs.List.{AllByRecursion}
use Rattle.std.proofs.lemmas.List.{append-nil}
use Rattle.std.proofs.lemmas.List.Sums.{fold-append}
use Rattle.std.proofs.lemmas.Option.{same_Some}
use Rattle.graph_model.specs.declared.event.Event.{Event}
use Rattle.graph_model.specs.declared.event.Event.TheVariants.{Flip, Seal}
use Rattle.graph_model.specs.declared.id.Id.{Id}
use Rattle.graph_model.specs.declared.val.Val.TheVariants.{Ref}
use Rattle.graph_model.specs.declared.reply.Entry.{Entry}
use Rattle.graph_model.specs.declared.reply.Refusal.{Refusal}
use Rattle.graph_model.specs.declared.reply.Refusal.TheVariants.{DiskFault, Stopped}
use Rattle.graph_model.specs.declared.reply.Reply.{Reply}
use Rattle.graph_model.specs.declared.reply.Reply.TheVariants as reply
use Rattle.graph_model.specs.Graph.{Graph, fields}
use Rattle.graph_model.specs.History.{Account, account, account_after, IsOfSession}
use Rattle.graph_model.specs.Locking.{Exclusive, locks_of}
use Rattle.graph_model.specs.Transaction.{Transaction, run, serial}
use Rattle.graph_model.proofs.Runs.History.{account-append}
use Rattle.log_records.specs.declared.Record.{Record}
use Rattle.log_machine.specs.Machine.{State, after_all}
use Rattle.graph_words.specs.Places.{Places, address_of}
use Rattle.graph_words.proofs.Places.Addresses.{some_address}
use Rattle.collection_words.specs.Placed.{HaveOwnNames}
use Rattle.collection_words.specs.Placing.{Placing, moved_by, moved_by_all, placing_of}
use Rattle.heap_model.specs.Core.{Core, IsRun, after, every_record, answer, core_refusal, done, event_records, granted_by, own_records, placing, with_entry}
use Rattle.heap_model.proofs.Run.Calls.{step_history}
use Rattle.core_laws.proofs.Run.Events.{step_reached}
use Rattle.core_laws.proofs.Step.Events.{may_go}
use Rattle.core_laws.proofs.Step.Sound.{reached_agrees, sound_valid}
use Rattle.core_laws.specs.Valid.{IsReached, IsValid}
use Rattle.limit_laws.specs.Copies.{copied_since, sealed_graph}
use Rattle.limit_laws.specs.Progress.{BeganNone, BeginsNone}
use Rattle.limit_laws.proofs.Copies.Begun.{IsBegun, begun_graph, begun_kept, begun_led, begun_refers, flip_begins, unfailed}
use Rattle.limit_laws.proofs.Copies.Closed.{IsClosed, closed_first, closed_next}
use Rattle.limit_laws.proofs.Copies.Counted.{IsCounted, counted_first, counted_next}
use Rattle.limit_laws.proofs.Copies.Followed.{more_kept, same_left}
use Rattle.limit_laws.proofs.Copies.Granted.{IsMoved, Stays, granted_moved, granted_new, granted_stays, said_of}
use Rattle.limit_laws.proofs.Copies.Kept.{IsKept, of_field}
use Rattle.limit_laws.proofs.Copies.Led.{KeepsLed}
use Rattle.limit_laws.proofs.Copies.Own.{own_all}
use Rattle.limit_laws.proofs.Copies.Quiet.{IsStill}
use Rattle.limit_laws.proofs.Copies.Scans.{AreKept}
use Rattle.limit_laws.proofs.Copies.References.{GraysRefer, KeepsReferences, StaysReferring}
use Rattle.limit_laws.proofs.Events.Appended.{every_done}
use Rattle.limit_laws.proofs.Events.Steps.{IsDone, granted as is_granted, refused, step_done}
use Rattle.limit_laws.proofs.Runs.{run_entries, since_run}

-- Runs.

-- What a collection that began in c has copied, up to a core.
pub record IsFollowed (c e : Core) : Type 0 where
  pub reached : IsReached e
  pub led : KeepsLed (IsKept c) (sealed_graph c) (account e.history) e (reached_agrees e reached).behind
  pub more : List Record
  pub all : every_record e ≡ every_record c ++ more
  pub left : (moved_by_all (placing c) more).remaining ≡ e.remaining
  pub copied : AreKept (IsKept c) (moved_by_all (placing c) more).places
  pub ts : List Transaction  -- that were sealed since
  pub since : (account e.history).sealed ≡ (account c.history).sealed ++ ts
  pub counted : IsCounted (moved_by_all (placing c) more).places ts e
  pub referring : KeepsReferences (sealed_graph c) (account e.history) e (reached_agrees e reached).behind
  pub closed : IsClosed (sealed_graph c) (moved_by_all (placing c) more).places e (reached_agrees e reached).behind

-- An entry changes nothing of a core but its history.

led_entry : (K : Id → Type 0) (g : Graph) (b : Account) (x : Core) (s : State) (event : Event) (r : Reply) → KeepsLed K g b x s → KeepsLed K g b (with_entry x event r) s
led_entry K g b x s event r led = record { rest = led.rest; leads = led.leads; seen = led.seen }

referring_entry : (g : Graph) (b : Account) (x : Core) (s : State) (event : Event) (r : Reply) → KeepsReferences g b x s → KeepsReferences g b (with_entry x event r) s
referring_entry g b x s event r keeps = record { sealed = keeps.sealed; seen = keeps.seen }

stays_entry : (K : Id → Type 0) (g : Graph) (a b : Account) (e x : Core) (s n : State) (event : Event) (r : Reply) → Stays K g a b e x s n → Stays K g a b e (with_entry x event r) s n
stays_entry K g a b e x s n event r stays = record {
  led = record { rest = stays.led.rest; led = led_entry K g b x n event r stays.led.led };
  referring = λ before. let after = stays.referring before in record { before = after.before; later = referring_entry g b x n event r after.later };
}

closed_entry : (g : Graph) (copied : Places) (x : Core) (s : State) (event : Event) (r : Reply) → IsClosed g copied x s → IsClosed g copied (with_entry x event r) s
closed_entry g copied x s event r closed = record { current = closed.current; reached = closed.reached; black = closed.black }

counted_entry : (copied : Places) (ts : List Transaction) (x : Core) (event : Event) (r : Reply) → IsCounted copied ts x → IsCounted copied ts (with_entry x event r)
counted_entry copied ts x event r counted = record { others = counted.others; old = counted.old }

-- nor does a refusal change sessions
pub still_any : (a : Account) (event : Event) (why : Refusal) → IsStill a (account_after a (record { event = event; reply = reply.Refused why }))
still_any a (Seal s) DiskFault = record { active = refl; sealed = refl }
still_any a (Seal s) Stopped = record { active = refl; sealed = refl }
still_any a event DiskFault = record { active = refl; sealed = refl }
still_any a event Stopped = record { active = refl; sealed = refl }
still_any a event why = record { active = refl; sealed = refl }

led_still : (K : Id → Type 0) (g : Graph) (a b : Account) (e : Core) (s : State) → IsStill a b → KeepsLed K g a e s → KeepsLed K g b e s
led_still K g a b e s still led = record {
  rest = λ z left. ap (λ ss. fields (serial e.g0 ss) z) still.sealed ∙ led.rest z left;
  leads = λ k run_is z y at i there gray refers left. led.leads k run_is z y at i there gray (ap (λ ss. slice_get (fields (serial e.g0 ss) z) i) (sym still.sealed) ∙ refers) left;
  seen = λ k run_is r t z y at i active lock there gray refers left.
      led.seen k run_is r t z y at i (ap (λ x. x r) (sym still.active) ∙ active) (subst (λ ss. Contains (locks_of (serial e.g0 ss) t) (z, Exclusive)) still.sealed lock) there gray
      (ap (λ ss. slice_get (fields (run (serial e.g0 ss) t).graph z) i) (sym still.sealed) ∙ refers) left;
}

referring_still : (g : Graph) (a b : Account) (e : Core) (s : State) → IsStill a b → KeepsReferences g a e s → KeepsReferences g b e s
referring_still g a b e s still keeps = record {
  sealed = subst (λ ss. GraysRefer g (serial e.g0 ss) e s) (sym still.sealed) keeps.sealed;
  seen = λ k run_is r t z y at i active lock there gray refers left.
      ap (λ ss. slice_get (fields (run (serial e.g0 ss) t).graph z) i) still.sealed
      ∙ keeps.seen k run_is r t z y at i (ap (λ x. x r) (sym still.active) ∙ active) (subst (λ ss. Contains (locks_of (serial e.g0 ss) t) (z, Exclusive)) still.sealed lock) there gray refers left;
}

-- Steps.

module _ (c e f : Core) (event : Event) (r : Reply) (b : IsFollowed c e) (there : IsReached f) (told : account f.history ≡ account_after (account e.history) (record { event = event; reply = r })) where
  abbrev g : Graph
  g = sealed_graph c

  abbrev before : State
  before = (reached_agrees e b.reached).behind

  abbrev n : State
  n = (reached_agrees f there).behind

  -- what stands where the records move it
  abbrev M : Placing
  M = moved_by_all (placing c) b.more

  -- after a refusal
  follow_refused : (why : Refusal) → r ≡ reply.Refused why → f ≡ with_entry e event r → (reached_agrees f there).behind ≡ (reached_agrees e b.reached).behind → IsFollowed c f
  follow_refused why says is same =
      let still : IsStill (account e.history) (account f.history) =
      subst (IsStill (account e.history)) (sym told) (subst (λ (x : Reply). IsStill (account e.history) (account_after (account e.history) (record { event = event; reply = x }))) (sym says) (still_any (account e.history) event why)) in
      record {
        reached = there;
        led =
            subst (KeepsLed (IsKept c) g (account f.history) f) (sym same)
            (subst (λ (x : Core). KeepsLed (IsKept c) g (account f.history) x before) (sym is) (led_entry (IsKept c) g (account f.history) e before event r (led_still (IsKept c) g (account e.history) (account f.history) e before still b.led)));
        more = b.more;
        all = ap every_record is ∙ b.all;
        left = b.left ∙ ap (λ (x : Core). x.remaining) (sym is);
        copied = b.copied;
        ts = b.ts;
        since = still.sealed ∙ b.since;
        counted = subst (IsCounted M.places b.ts) (sym is) (counted_entry M.places b.ts e event r b.counted);
        referring =
            subst (KeepsReferences g (account f.history) f) (sym same)
            (subst (λ (x : Core). KeepsReferences g (account f.history) x before) (sym is) (referring_entry g (account f.history) e before event r (referring_still g (account e.history) (account f.history) e before still b.referring)));
        closed = subst (IsClosed g M.places f) (sym same) (subst (λ (x : Core). IsClosed g M.places x before) (sym is) (closed_entry g M.places e before event r b.closed));
      }

  -- an event that is granted
  module _ (may : core_refusal e event ≡ None) (says : r ≡ granted_by e event) (is : f ≡ with_entry (done e event) event r) (follows : after_all before (event_records e event) ≡ Some n) (begins : BeginsNone r) where
    valid : IsValid e
    valid = sound_valid e b.reached.sound (unfailed (account e.history).failed _ may)

    same : (reached_agrees e b.reached).behind ≡ valid.behind
    same = same_Some before valid.behind (sym (reached_agrees e b.reached).told.reached ∙ valid.told.reached)

    led : KeepsLed (IsKept c) (sealed_graph c) (account e.history) e valid.behind
    led = subst (KeepsLed (IsKept c) g (account e.history) e) same b.led

    none : BeginsNone (granted_by e event)
    none = subst BeginsNone says begins

    goes : after_all valid.behind (event_records e event) ≡ Some (reached_agrees f there).behind
    goes = subst (λ (x : State). after_all x (event_records e event) ≡ Some n) same follows

    is_kept : (z y : Id) (i : ℕ) → IsKept c z → slice_get (fields (sealed_graph c) z) i ≡ Some (Ref y) → IsKept c y
    is_kept z y i kept refers = of_field i y kept refers

    moves : IsMoved e event
    moves = granted_moved e valid b.reached.locked n event (may_go e event valid.unfailed may) none goes

    stays : Stays (IsKept c) (sealed_graph c) (account e.history) (account f.history) e f valid.behind (reached_agrees f there).behind
    stays =
        subst (λ (x : Account). Stays (IsKept c) g (account e.history) x e f valid.behind n) (ap (λ (x : Reply). account_after (account e.history) (record { event = event; reply = x })) (sym says) ∙ sym told)
        (subst (λ (x : Core). Stays (IsKept c) g (account e.history) (said_of e event) e x valid.behind n) (sym is)
        (stays_entry (IsKept c) g (account e.history) (said_of e event) e (done e event) valid.behind n event r
        (granted_stays (IsKept c) g is_kept e valid b.reached.locked n led event (may_go e event valid.unfailed may) none goes)))

    abbrev rs : List Record
    rs = event_records e event

    split : moved_by_all (placing c) (b.more ++ event_records e event) ≡ moved_by_all (placing_of (moved_by_all (placing c) b.more).places e.remaining) (event_records e event)
    split = fold-append moved_by (placing c) b.more rs ∙ ap (λ (p : Placing). moved_by_all p rs) (ap (placing_of M.places) b.left)

    own : HaveOwnNames (e.places ++ e.remaining)
    own = own_all (account e.history) e valid

    stands : f.places ≡ (moved_by_all (placing e) (event_records e event)).places ++ moves.more
    stands = ap (λ (x : Core). x.places) is ∙ moves.places

    remains : f.remaining ≡ (moved_by_all (placing e) (event_records e event)).remaining
    remains = ap (λ (x : Core). x.remaining) is ∙ moves.remaining

    refers : StaysReferring (sealed_graph c) (account f.history) e f valid.behind (reached_agrees f there).behind
    refers = stays.referring (subst (KeepsReferences g (account e.history) e) same b.referring)

    follow_granted : IsFollowed c f
    follow_granted = record {
      reached = there;
      led = stays.led.led;
      more = b.more ++ rs;
      all = ap every_record is ∙ every_done e event ∙ ap (λ (x : List Record). x ++ rs) b.all ∙ append_assoc (every_record c) b.more rs;
      left = ap (λ (p : Placing). p.remaining) split ∙ same_left M.places e.places e.remaining rs moves.plain ∙ sym remains;
      copied = subst (λ (p : Placing). AreKept (IsKept c) p.places) (sym split) (more_kept (IsKept c) e M.places rs moves.plain own (granted_new (IsKept c) g is_kept e valid b.reached.locked n led event none) b.copied);
      ts = b.ts ++ moves.seals.ts;
      since =
          ap (λ (x : Account). x.sealed) told
          ∙ ap (λ (x : Reply). (account_after (account e.history) (record { event = event; reply = x })).sealed) says
          ∙ moves.seals.seals
          ∙ ap (λ (ts : List Transaction). ts ++ moves.seals.ts) b.since
          ∙ append_assoc (account c.history).sealed b.ts moves.seals.ts;
      counted = subst (λ (p : Placing). IsCounted p.places (b.ts ++ moves.seals.ts) f) (sym split) (counted_next e f M.places b.ts _ _ rs moves.plain moves.more stands remains moves.seals b.counted);
      referring = refers.later;
      closed =
          subst (λ (p : Placing). IsClosed g p.places f n) (sym split)
          (closed_next g _ e f (reached_agrees f there) before M.places rs moves.plain follows own moves.more stands remains stays.led.rest (subst (GraysRefer g (sealed_graph f) e) (sym same) refers.before) b.closed);
    }

follow_done : (c e f : Core) (event : Event) (r : Reply) (b : IsFollowed c e) (there : IsReached f) → account f.history ≡ account_after (account e.history) (record { event = event; reply = r }) → BeginsNone r
    → IsDone e f event r (reached_agrees e b.reached).behind (reached_agrees f there).behind → IsFollowed c f
follow_done c e f event r b there told begins (refused why says is same) = follow_refused c e f event r b there told why says is same
follow_done c e f event r b there told begins (is_granted may says is follows) = follow_granted c e f event r b there told may says is follows begins

follow_run : (c e d : Core) (events : List Event) (run : IsRun e events d) → AllByRecursion IsOfSession events → AllByRecursion (λ (entry : Entry). BeginsNone entry.reply) (run_entries e d events run) → IsFollowed c e → IsFollowed c d
follow_run c e d [] run of begins b = subst (IsFollowed c) (sym run) b
follow_run c e d (event ∷ events) run of begins b =
    let there = step_reached e run.1 event run.0 b.reached of.0 run.2 in
    let entry : Entry = record { event = event; reply = run.0 } in
    let told : account run.1.history ≡ account_after (account e.history) entry = ap account (step_history e run.1 event run.0 run.2) ∙ account-append e.history entry in
    follow_run c run.1 d events run.3 of.1 begins.1
    (follow_done c e run.1 event run.0 b there told begins.0
    (step_done e run.1 event run.0 (reached_agrees e b.reached).behind (reached_agrees run.1 there).behind run.2 (reached_agrees e b.reached).told.reached (reached_agrees run.1 there).told.reached))

-- the flip itself
follow_flip : (c f : Core) → IsReached c → IsBegun c f → IsFollowed c f
follow_flip c f reached begun =
    let g = sealed_graph c in
    let same = begun_graph c f reached begun in
    let h = reached_agrees f begun.reached in
    record {
      reached = begun.reached;
      led = begun_led c f reached begun;
      more = own_records c Flip;
      all = begun.all;
      left = ap (λ (p : Placing). p.remaining) (sym begun.placed);
      copied = subst (λ (p : Placing). AreKept (IsKept c) p.places) begun.placed (begun_kept c f reached begun);
      ts = [];
      since = begun.sealed ∙ sym (append-nil (account c.history).sealed);
      counted = subst (λ (p : Placing). IsCounted p.places [] f) begun.placed (counted_first f);
      referring = begun_refers c f reached begun;
      closed = subst (λ (p : Placing). IsClosed g p.places f h.behind) begun.placed (closed_first g _ f h same);
    }

-- what holds after a flip and the events of sessions
pub followed : (c d : Core) (events : List Event) (objects words : ℕ) → IsReached c → answer c Flip ≡ reply.Flipped objects words → AllByRecursion IsOfSession events → IsRun (after c Flip) events d → BeganNone (after c Flip) d → IsFollowed c d
followed c d events objects words reached flips of run none =
    let same = since_run (after c Flip) d events run in
    follow_run c (after c Flip) d events run of (subst (AllByRecursion (λ (entry : Entry). BeginsNone entry.reply)) same none) (follow_flip c (after c Flip) reached (flip_begins c objects words reached flips))

-- where its copies stand
pub copied_is : (c d : Core) (b : IsFollowed c d) → copied_since c d ≡ (moved_by_all (placing c) b.more).places
copied_is c d b = ap (λ (rs : List Record). (moved_by_all (placing c) rs).places) (ap (drop (length (every_record c))) b.all ∙ drop-append_seam (every_record c) b.more)

-- so it has copied nothing but what is kept
pub copied_kept : (c d : Core) (b : IsFollowed c d) (id : Id) → is_some (address_of (copied_since c d) id) ≡ true → IsKept c id
copied_kept c d b id there =
    let at = some_address (address_of (copied_since c d) id) there in
    b.copied id at.0 (ap (λ (ps : Places). address_of ps id) (sym (copied_is c d b)) ∙ at.1)
