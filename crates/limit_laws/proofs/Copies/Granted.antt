-- What an event that is granted leaves of a core while a collection is under way.
use Rattle.std.proofs.Common.{◌≡◌, ◌≢◌, ℕ, ◌+◌, List, [], ◌++◌, length, Option, Some, refl, sym, ap, ◌∙◌, subst}
use Rattle.std.specs.Prelude.{slice_get}
use Rattle.std.specs.List.{AllByRecursion}
use Rattle.std.proofs.lemmas.List.{append-nil}
use Rattle.std.proofs.lemmas.List.Sums.{fold-append}
use Rattle.graph_model.specs.declared.event.Event.{Event}
use Rattle.graph_model.specs.declared.event.Event.TheVariants.{Begin, Seal, Abort, Force, Flip, Scan, Flush}
use Rattle.graph_model.specs.declared.id.Id.{Id}
use Rattle.graph_model.specs.declared.val.Val.TheVariants.{Ref}
use Rattle.graph_model.specs.Graph.{Graph, fields}
use Rattle.graph_model.specs.History.{Account, account, account_after}
use Rattle.graph_model.specs.Transaction.{Transaction}
use Rattle.commit_order.specs.Heard.{heard_in}
use Rattle.commit_order.specs.SerialOrder.{numbers_begun}
use Rattle.commit_order.proofs.OrderLaws.{IsOrdered, two_phase_ordered}
use Rattle.log_machine.specs.Machine.{State, after_all}
use Rattle.graph_words.specs.Places.{Places, address_of}
use Rattle.collection_words.specs.Placing.{Placing, moved_by, moved_by_all}
use Rattle.heap_model.specs.Core.{Core, barrier_records, done, event_places, event_records, granted_by, ground, next_number, own_records, placing, room_refusal}
use Rattle.core_laws.proofs.Step.Events.{IsGranted, call_account}
use Rattle.core_laws.proofs.Step.Forms.{has_transaction}
use Rattle.core_laws.specs.Valid.{IsValid, RunsLocked}
use Rattle.limit_laws.specs.Copies.{IsOfNone}
use Rattle.limit_laws.specs.Progress.{BeginsNone}
use Rattle.limit_laws.proofs.Copies.Counted.{Seals, seals_none}
use Rattle.limit_laws.proofs.Copies.Followed.{moved_own}
use Rattle.limit_laws.proofs.Copies.Led.{HasLed, KeepsLed, StaysLed}
use Rattle.limit_laws.proofs.Copies.Moves.{abort_next, begin_next, call_next, core_call, event_new, none_next, none_plain}
use Rattle.limit_laws.proofs.Copies.Quiet.{place_done, still_granted}
use Rattle.limit_laws.proofs.Copies.Seals.{led_sealed, referring_sealed, seal_seals, sealed_to}
use Rattle.limit_laws.proofs.Copies.Steps.{IsNext, NewIn, barrier_new, led_next, referring_next}
use Rattle.limit_laws.proofs.Copies.References.{KeepsReferences, StaysReferring}
use Rattle.limit_laws.proofs.Events.Kinds.{IsNoFlip, own_of_transaction}
use Rattle.limit_laws.proofs.Progress.Scans.{no_flips}

-- what the history says after an event that is granted
abbrev pub said_of : Core → Event → Account
said_of e event = account_after (account e.history) (record { event = event; reply = granted_by e event })

-- What an event leaves of what is kept, and of the references of gray objects.
pub record Stays (K : Id → Type 0) (g : Graph) (a b : Account) (e f : Core) (s n : State) : Type 0 where
  pub led : StaysLed K g b e f n
  pub referring : KeepsReferences g a e s → StaysReferring g b e f s n

-- Where its records move objects, what it makes stable, and which transactions it seals.
pub record IsMoved (e : Core) (event : Event) : Type 0 where
  pub plain : AllByRecursion IsNoFlip (event_records e event)
  pub more : Places
  pub places : (done e event).places ≡ (moved_by_all (placing e) (event_records e event)).places ++ more
  pub remaining : (done e event).remaining ≡ (moved_by_all (placing e) (event_records e event)).remaining
  pub seals : Seals e (account e.history).sealed (said_of e event).sealed more

same_seals : (e : Core) (later : List Transaction) → later ≡ (account e.history).sealed → Seals e (account e.history).sealed later []
same_seals e later same = subst (λ (ts : List Transaction). Seals e (account e.history).sealed ts []) (sym same) (seals_none e (account e.history).sealed)

-- the barrier's records move objects as all of a session's do
session_placing : (e : Core) (event : Event) → event ≢ Flip → event ≢ Scan → moved_by_all (placing e) (event_records e event) ≡ moved_by_all (placing e) (barrier_records e event)
session_placing e event flip scan =
    let rs = barrier_records e event in
    fold-append moved_by (placing e) rs (own_records e event) ∙ moved_own (moved_by_all (placing e) rs) (own_records e event) (own_of_transaction e event flip scan)

-- Where objects stand.

none_moved : (e : Core) (event : Event) → IsOfNone event → BeginsNone (granted_by e event) → IsMoved e event
none_moved e event is begins = record {
  plain = none_plain e event is begins;
  more = [];
  places = ap (λ (p : Placing). p.places) (place_done e event is) ∙ sym (append-nil (moved_by_all (placing e) (event_records e event)).places);
  remaining = ap (λ (p : Placing). p.remaining) (place_done e event is);
  seals = same_seals e _ (still_granted e event is).sealed;
}

session_moved : (e : Core) (event : Event) → event ≢ Flip → event ≢ Scan → (more : Places) → (done e event).places ≡ (moved_by_all (placing e) (barrier_records e event)).places ++ more
    → (done e event).remaining ≡ (moved_by_all (placing e) (barrier_records e event)).remaining → Seals e (account e.history).sealed (said_of e event).sealed more → IsMoved e event
session_moved e event flip scan more stand left seals =
    let same = sym (session_placing e event flip scan) in
    record {
      plain = no_flips e event flip;
      more = more;
      places = stand ∙ ap (λ (p : Placing). p.places ++ more) same;
      remaining = left ∙ ap (λ (p : Placing). p.remaining) same;
      seals = seals;
    }

pub granted_moved : (e : Core) (valid : IsValid e) (runs : RunsLocked e.g0 e.first e.history) (n : State) (event : Event) → IsGranted e event → BeginsNone (granted_by e event) → after_all valid.behind (event_records e event) ≡ Some n → IsMoved e event
granted_moved e valid runs n Force may begins follows = none_moved e Force tt begins
granted_moved e valid runs n Flip may begins follows = none_moved e Flip tt begins
granted_moved e valid runs n Scan may begins follows = none_moved e Scan tt begins
granted_moved e valid runs n (Flush p) may begins follows = none_moved e (Flush p) tt begins
granted_moved e valid runs n (Begin s) may begins follows = session_moved e (Begin s) (λ never. cc never) (λ never. cc never) [] refl refl (same_seals e _ refl)
granted_moved e valid runs n (Abort s) may begins follows = session_moved e (Abort s) (λ never. cc never) (λ never. cc never) [] refl refl (same_seals e _ refl)
granted_moved e valid runs n (Seal s) may begins follows =
    let a = account e.history in
    let t = has_transaction e.g0 a (a.active s) (Seal s) may.asks in
    let space = ap (λ (x : Option Transaction). room_refusal (ground e) e.g0 a x (Seal s)) (sym t.1) ∙ may.words in
    session_moved e (Seal s) (λ never. cc never) (λ never. cc never) (event_places e (Seal s)) refl refl
    (seal_seals e valid n s (length a.sealed + 1) t.0 t.1 (two_phase_ordered e.g0 e.history runs.plain runs.two_phase) space follows)
granted_moved e valid runs n event may begins follows =
    session_moved e event (λ never. cc never) (λ never. cc never) [] (ap (λ (x : Core). x.places) (core_call e event tt)) (ap (λ (x : Core). x.remaining) (core_call e event tt))
    (same_seals e _ (ap (λ (b : Account). b.sealed) (call_account (next_number e) e.g0 (account e.history) event tt)))

module _ (K : Id → Type 0) (g : Graph) (closed : (z y : Id) (i : ℕ) → K z → slice_get (fields g z) i ≡ Some (Ref y) → K y) (e : Core) (valid : IsValid e) (runs : RunsLocked e.g0 e.first e.history) (n : State)
    (keeps : KeepsLed K g (account e.history) e valid.behind) where
  abbrev a : Account
  a = account e.history

  ordered : IsOrdered e.g0 (numbers_begun e.history) (account e.history) (heard_in e.history)
  ordered = two_phase_ordered e.g0 e.history runs.plain runs.two_phase

  led : HasLed K g (account e.history) e valid
  led = record { closed = closed; numbers = numbers_begun e.history; heard = heard_in e.history; ordered = ordered; led = keeps }

  -- What is kept, and to what gray objects refer.

  next_stays : (b : Account) (f : Core) → IsNext K (account e.history) b e f valid.behind n → Stays K g (account e.history) b e f valid.behind n
  next_stays b f next = record { led = led_next K g a b e f valid n next led; referring = referring_next K g a b e f valid n next led }

  none_stays : (event : Event) → IsOfNone event → BeginsNone (granted_by e event) → after_all valid.behind (event_records e event) ≡ Some n → Stays K g (account e.history) (said_of e event) e (done e event) valid.behind n
  none_stays event is begins follows = next_stays (said_of e event) (done e event) (none_next K g e valid n event (said_of e event) is begins (still_granted e event is) led follows)

  pub granted_stays : (event : Event) → IsGranted e event → BeginsNone (granted_by e event) → after_all valid.behind (event_records e event) ≡ Some n → Stays K g (account e.history) (said_of e event) e (done e event) valid.behind n
  granted_stays Force may begins follows = none_stays Force tt begins follows
  granted_stays Flip may begins follows = none_stays Flip tt begins follows
  granted_stays Scan may begins follows = none_stays Scan tt begins follows
  granted_stays (Flush p) may begins follows = none_stays (Flush p) tt begins follows
  granted_stays (Begin s) may begins follows = next_stays (said_of e (Begin s)) (done e (Begin s)) (begin_next K e valid n s (next_number e) follows)
  granted_stays (Abort s) may begins follows = next_stays (said_of e (Abort s)) (done e (Abort s)) (abort_next K e valid n s follows)
  granted_stays (Seal s) may begins follows =
      let t = has_transaction e.g0 a (a.active s) (Seal s) may.asks in
      let space = ap (λ (x : Option Transaction). room_refusal (ground e) e.g0 a x (Seal s)) (sym t.1) ∙ may.words in
      let to = sealed_to e valid n s (length a.sealed + 1) t.0 t.1 ordered space follows in
      record {
        led = led_sealed K g a (said_of e (Seal s)) e (done e (Seal s)) valid n s t.0 t.1 ordered to led;
        referring = referring_sealed K g a (said_of e (Seal s)) e (done e (Seal s)) valid n s t.0 t.1 ordered to led;
      }
  granted_stays event may begins follows =
      subst (λ (b : Account). Stays K g (account e.history) b e (done e event) valid.behind n) (sym (call_account (next_number e) e.g0 a event tt))
      (next_stays _ (done e event) (call_next K g e valid n event tt led follows))

  -- What stands in the current space.

  session_new : (event : Event) → event ≢ Flip → event ≢ Scan → NewIn K e (event_records e event)
  session_new event flip scan id at there = barrier_new K g (account e.history) e valid led event id at (ap (λ (p : Placing). address_of p.places id) (sym (session_placing e event flip scan)) ∙ there)

  pub granted_new : (event : Event) → BeginsNone (granted_by e event) → NewIn K e (event_records e event)
  granted_new Force begins = event_new K g (account e.history) e valid led Force tt begins
  granted_new Flip begins = event_new K g (account e.history) e valid led Flip tt begins
  granted_new Scan begins = event_new K g (account e.history) e valid led Scan tt begins
  granted_new (Flush p) begins = event_new K g (account e.history) e valid led (Flush p) tt begins
  granted_new event begins = session_new event (λ never. cc never) (λ never. cc never)
