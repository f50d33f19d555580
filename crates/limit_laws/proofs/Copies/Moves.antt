-- What each granted event but a seal leaves.
use Rattle.std.proofs.Common.{◌≡◌, ◌≢◌, inl, ℕ, List, [], ◌∷◌, ◌++◌, Option, None, Some, is_some, refl, sym, ap, ◌∙◌, subst}
use Rattle.std.specs.Prelude.{Contains}
use Rattle.std.specs.List.{AllByRecursion}
use Rattle.std.proofs.lemmas.List.{append-nil}
use Rattle.std.proofs.lemmas.Option.{same_Some}
use Rattle.object_layout.proofs.WalkLaws.{Contains-none}
use Rattle.graph_model.specs.declared.event.Event.{Event}
use Rattle.graph_model.specs.declared.event.Event.TheVariants.{Begin, Seal, Abort, Force, Flip, Scan, Flush}
use Rattle.graph_model.specs.declared.reply.Reply.TheVariants.{Aborted, Begun}
use Rattle.graph_model.specs.Graph.{Graph}
use Rattle.graph_model.specs.History.{Account, account, account_after, session_of, with_call}
use Rattle.graph_model.specs.Locking.{Exclusive, locks_of}
use Rattle.graph_model.specs.Transaction.{IsCall, Transaction, serial}
use Rattle.heap_spaces.specs.Collection.{Collection}
use Rattle.log_records.specs.declared.Record.{Record}
use Rattle.graph_model.specs.declared.id.Id.{Id}
use Rattle.log_machine.specs.Machine.{State, after_all}
use Rattle.log_machine.proofs.ListLaws.{AllByRecursion-map}
use Rattle.graph_words.specs.Places.{Places, address_of}
use Rattle.collection_words.specs.Placing.{Placing, moved_by_all}
use Rattle.heap_model.specs.Collecting.{flip_reply, next_page, scan_event_records, scan_records_in}
use Rattle.heap_model.specs.Core.{Core, all_words, barrier_records, done, event_records, granted_by, own_records, placing}
use Rattle.heap_model.proofs.Run.Calls.{same_done}
use Rattle.heap_model.proofs.Step.Moved.{moved_is}
use Rattle.core_laws.proofs.Sessions.Actives.{called, each_session}
use Rattle.core_laws.specs.Valid.{Agrees, IsValid}
use Rattle.limit_laws.specs.Copies.{IsOfNone}
use Rattle.limit_laws.specs.Progress.{BeginsNone}
use Rattle.limit_laws.proofs.Copies.Locks.{held_still, own_call}
use Rattle.limit_laws.proofs.Copies.Quiet.{IsStill, place_done}
use Rattle.limit_laws.proofs.Copies.Led.{HasLed}
use Rattle.limit_laws.proofs.Copies.Steps.{BlackOrHeld, IsNext, NewIn, barrier_new, moved_fewer, page_records_new}
use Rattle.limit_laws.proofs.Events.Kinds.{IsNoFlip, IsOfScan, IsOfTransaction, barrier_of_scan, no_flip_scan, own_of_transaction}
use Rattle.limit_laws.proofs.Progress.Scans.{no_flip_own, no_flips}

-- Calls.

-- what a call leaves of a core
pub core_call : (e : Core) (event : Event) → IsCall event
    → done e event ≡ record e { pending = (e.pending ++ barrier_records e event) ++ own_records e event; places = (moved_by_all (placing e) (barrier_records e event)).places ++ []; remaining = (moved_by_all (placing e) (barrier_records e event)).remaining }
core_call e (Begin s) is = absurd is
core_call e (Seal s) is = absurd is
core_call e (Abort s) is = absurd is
core_call e Force is = absurd is
core_call e Flip is = absurd is
core_call e Scan is = absurd is
core_call e (Flush p) is = absurd is
core_call e event is = ap (λ (x : Core). record x { pending = x.pending ++ own_records e event; places = x.places ++ [] }) (moved_is e (barrier_records e event))

no_call : (event other : Event) → IsCall event → (IsCall other → ⊥) → event ≢ other
no_call event other is not same = not (subst IsCall same is)

pub call_next : (K : Id → Type 0) (g : Graph) (e : Core) (valid : IsValid e) (n : State) (event : Event) → IsCall event → HasLed K g (account e.history) e valid → after_all valid.behind (event_records e event) ≡ Some n
    → IsNext K (account e.history) (called (account e.history) (session_of event) event) e (done e event) valid.behind n
call_next K g e valid n event is led follows =
    let a = account e.history in
    let rs = barrier_records e event in
    let there = moved_by_all (placing e) rs in
    let s = session_of event in
    let flip = no_call event Flip is (λ x. x) in
    let plain = AllByRecursion-map IsOfTransaction IsNoFlip (own_records e event) no_flip_own (own_of_transaction e event flip (no_call event Scan is (λ x. x))) in
    let f : Core = record e { pending = (e.pending ++ rs) ++ own_records e event; places = there.places ++ []; remaining = there.remaining } in
    subst (λ (x : Core). IsNext K a (called a s event) e x valid.behind n) (sym (core_call e event is)) (record {
      graph = refl;
      records = event_records e event;
      follows = follows;
      plain = no_flips e event flip;
      places = λ id at has. barrier_new K g a e valid led event id at (ap (λ (ps : Places). address_of ps id) (sym (append-nil there.places)) ∙ has);
      fewer = λ id left. moved_fewer (placing e) rs (AllByRecursion-map IsOfScan IsNoFlip rs no_flip_scan (barrier_of_scan e event)) id left;
      locks = λ r t z at active lock has.
          let P : ℕ → Option Transaction → Type 0 = λ q o. (u : Transaction) → o ≡ Some u → Contains (locks_of (serial e.g0 a.sealed) u) (z, Exclusive)
          → BlackOrHeld a (serial e.g0 a.sealed) n u z at in
          each_session P a.active s (with_call (a.active s) event)
          (λ u now mine. own_call e valid n event is follows plain (a.active s) refl u z at now mine (ap (λ (ps : Places). address_of ps z) (sym (append-nil there.places)) ∙ has))
          (λ q other u now mine. held_still e valid n q u z at now mine) r t active lock;
    })

-- Begins and aborts.

pub begin_next : (K : Id → Type 0) (e : Core) (valid : IsValid e) (n : State) (s m : ℕ) → after_all valid.behind (event_records e (Begin s)) ≡ Some n
    → IsNext K (account e.history) (account_after (account e.history) (record { event = Begin s; reply = Begun m })) e (done e (Begin s)) valid.behind n
begin_next K e valid n s m follows =
    let a = account e.history in
    let fresh : Option Transaction = Some (record { number = m; calls = [] }) in
    record {
      graph = refl;
      records = [];
      follows = follows;
      plain = tt;
      places = λ id at has. inl (ap (λ (ps : Places). address_of ps id) (sym (append-nil e.places)) ∙ has);
      fewer = λ id left. left;
      locks = λ r t z at active lock has.
          let P : ℕ → Option Transaction → Type 0 = λ q o. (u : Transaction) → o ≡ Some u → Contains (locks_of (serial e.g0 a.sealed) u) (z, Exclusive)
          → BlackOrHeld a (serial e.g0 a.sealed) n u z at in
          each_session P a.active s fresh
          (λ u now mine. absurd (Contains-none (z, Exclusive) (subst (λ (x : Transaction). Contains (locks_of (serial e.g0 a.sealed) x) (z, Exclusive)) (sym (same_Some (record { number = m; calls = [] }) u now)) mine)))
          (λ q other u now mine. held_still e valid n q u z at now mine) r t active lock;
    }

pub abort_next : (K : Id → Type 0) (e : Core) (valid : IsValid e) (n : State) (s : ℕ) → after_all valid.behind (event_records e (Abort s)) ≡ Some n
    → IsNext K (account e.history) (account_after (account e.history) (record { event = Abort s; reply = Aborted })) e (done e (Abort s)) valid.behind n
abort_next K e valid n s follows =
    let a = account e.history in
    record {
      graph = refl;
      records = event_records e (Abort s);
      follows = follows;
      plain = no_flips e (Abort s) (λ never. cc never);
      places = λ id at has. inl (ap (λ (ps : Places). address_of ps id) (sym (append-nil e.places)) ∙ has);
      fewer = λ id left. left;
      locks = λ r t z at active lock has.
          let P : ℕ → Option Transaction → Type 0 = λ q o. (u : Transaction) → o ≡ Some u → Contains (locks_of (serial e.g0 a.sealed) u) (z, Exclusive)
          → BlackOrHeld a (serial e.g0 a.sealed) n u z at in
          each_session P a.active s None (λ u now mine. absurd (cc now)) (λ q other u now mine. held_still e valid n q u z at now mine) r t active lock;
    }

-- Events of no session.

scan_in_new : (K : Id → Type 0) (g : Graph) (a : Account) (e : Core) (h : Agrees a e) → HasLed K g a e h → (o : Option Collection) (page : Option ℕ) → NewIn K e (scan_records_in h.behind (all_words e) o page)
scan_in_new K g a e h has None page = λ id at there. inl there
scan_in_new K g a e h has (Some k) None = λ id at there. inl there
scan_in_new K g a e h has (Some k) (Some page) = page_records_new K g a e h has page

flip_in_new : (K : Id → Type 0) (e : Core) (rs : List Record) → BeginsNone (flip_reply rs) → NewIn K e rs
flip_in_new K e [] none = λ id at there. inl there
flip_in_new K e (r ∷ rs) none = absurd none

pub event_new : (K : Id → Type 0) (g : Graph) (a : Account) (e : Core) (h : Agrees a e) → HasLed K g a e h → (event : Event) → IsOfNone event → BeginsNone (granted_by e event) → NewIn K e (event_records e event)
event_new K g a e h has Force is begins = λ id at there. inl there
event_new K g a e h has (Flush p) is begins = λ id at there. inl there
event_new K g a e h has Flip is begins = flip_in_new K e (own_records e Flip) begins
event_new K g a e h has Scan is begins =
    subst (λ (o : Option State). NewIn K e (scan_event_records o (all_words e))) (sym h.told.reached) (scan_in_new K g a e h has h.behind.collection (next_page h.behind.collection))
event_new K g a e h has event is begins = absurd is

plain_none : (rs : List Record) → BeginsNone (flip_reply rs) → AllByRecursion IsNoFlip rs
plain_none [] none = tt
plain_none (r ∷ rs) none = absurd none

pub none_plain : (e : Core) (event : Event) → IsOfNone event → BeginsNone (granted_by e event) → AllByRecursion IsNoFlip (event_records e event)
none_plain e Flip is begins = plain_none (own_records e Flip) begins
none_plain e event is begins = no_flips e event (λ never. cc never)

pub none_next : (K : Id → Type 0) (g : Graph) (e : Core) (valid : IsValid e) (n : State) (event : Event) (b : Account) → IsOfNone event → BeginsNone (granted_by e event) → IsStill (account e.history) b → HasLed K g (account e.history) e valid
    → after_all valid.behind (event_records e event) ≡ Some n → IsNext K (account e.history) b e (done e event) valid.behind n
none_next K g e valid n event b is begins still led follows =
    let a = account e.history in
    let placed = place_done e event is in
    let plain = none_plain e event is begins in
    record {
      graph = ap (λ (x : Graph). serial x b.sealed) (same_done e event).g0 ∙ ap (serial e.g0) still.sealed;
      records = event_records e event;
      follows = follows;
      plain = plain;
      places = λ id at has. event_new K g a e valid led event is begins id at (ap (λ (p : Placing). address_of p.places id) (sym placed) ∙ has);
      fewer = λ id left. moved_fewer (placing e) (event_records e event) plain id (ap (λ (p : Placing). is_some (address_of p.remaining id)) (sym placed) ∙ left);
      locks = λ r t z at active lock has. held_still e valid n r t z at (ap (λ x. x r) (sym still.active) ∙ active) lock;
    }
