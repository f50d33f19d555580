-- When a core answers `busy`, and whom it names: exactly where other transactions hold conflicting locks, and then the least of these.
use Rattle.std.proofs.Common.{◌≡◌, ℕ, ◌-◌, ◌*◌, Bool, true, false, length, Option, Some, None, is_some, refl, ap, ◌∙◌, subst}
use Rattle.std.specs.Prelude.{◌==◌, nat_lt, nat_le, if◌then◌else◌}
use Rattle.graph_model.specs.declared.id.Id.{Id}
use Rattle.graph_model.specs.declared.event.Event.{Event}
use Rattle.graph_model.specs.declared.event.Event.TheVariants.{Root, New, Put, Clear, Link, Drop, Get, Same, Len, Seal, Flush}
use Rattle.graph_model.specs.declared.reply.Refusal.{Refusal}
use Rattle.graph_model.specs.declared.reply.Refusal.TheVariants.{Failed, AlreadyActive, NumbersSpent, BadHandle, Range, BadField, Busy, NoSuchPage, VolatileFull, Exhausted, LogFull}
use Rattle.graph_model.specs.Graph.{Graph, fields}
use Rattle.graph_model.specs.Kinds.{Kind, Begins, Calls, Ends, kind_of}
use Rattle.graph_model.specs.Transaction.{View, Transaction, held}
use Rattle.graph_model.specs.History.{Account, AreInSessions, account, session_of}
use Rattle.graph_model.proofs.Refusals.Busy.{free_law, busy_law, busy_found}
use Rattle.graph_model.specs.Locking.{Lock, lock_of, busy_holder}
use Rattle.graph_model.specs.Plain.{view, no_number, no_int, most_fields, handle_refusal, new_refusal, len_refusal, same_refusal, field_refusal, put_refusal, link_refusal, view_refusal, call_refusal, asked_refusal, event_refusal, busy_with, call_conflict, conflict_refusal, first_of_two, model_refusal, refusal_of}
use Rattle.log_machine.specs.Machine.{State, owed}
use Rattle.page_redo.specs.Pages.{pages_in}
use Rattle.heap_model.specs.Core.{Core, Ground, ground, next_number, seal_need, space_refusal, page_refusal, room_refusal, words_refusal, log_refusal, core_refusal}
use Rattle.core_laws.specs.Conflicts.{GivesWay, IsHindered}

-- Other reasons.

-- no refusal, or another than `busy`
abbrev IsOther : Option Refusal → Type 0
IsOther None = Unit {0}
IsOther (Some (Busy holder)) = ⊥
IsOther (Some why) = Unit {0}

other_if : (b : Bool) (why : Refusal) (o : Option Refusal) → IsOther (Some why) → IsOther o → IsOther (if b then Some why else o)
other_if true why o h k = h
other_if false why o h k = k

other_handle : (h : ℕ) → IsOther (handle_refusal h)
other_handle h = other_if (nat_lt 63 h) BadHandle None tt tt

other_new : (h len : ℕ) → IsOther (new_refusal h len)
other_new h len = other_if (nat_lt 63 h) BadHandle (if nat_lt most_fields len then Some Range else None) tt (other_if (nat_lt most_fields len) Range None tt tt)

other_field : (g : Graph) (o : Option Id) (i : ℕ) → IsOther (field_refusal g o i)
other_field g None i = tt
other_field g (Some id) i = other_if (nat_le (length (fields g id)) i) BadField None tt tt

other_put : (g : Graph) (o : Option Id) (i v : ℕ) → IsOther (put_refusal g o i v)
other_put g None i v = tt
other_put g (Some id) i v = other_if (nat_le no_int v) Range (field_refusal g (Some id) i) tt (other_field g (Some id) i)

other_link : (g : Graph) (o : Option Id) (i : ℕ) (p : Option Id) → IsOther (link_refusal g o i p)
other_link g o i None = tt
other_link g o i (Some id) = other_field g o i

other_same : (o p : Option Id) → IsOther (same_refusal o p)
other_same None p = tt
other_same (Some id) None = tt
other_same (Some id) (Some other) = tt

other_len : (o : Option Id) → IsOther (len_refusal o)
other_len None = tt
other_len (Some id) = tt

other_view : (v : View) (event : Event) → IsOther (view_refusal v event)
other_view v (Root s h) = other_handle h
other_view v (New s h len) = other_new h len
other_view v (Put s h i n) = other_put v.graph (held v.registers h) i n
other_view v (Clear s h i) = other_field v.graph (held v.registers h) i
other_view v (Link s h i h2) = other_link v.graph (held v.registers h) i (held v.registers h2)
other_view v (Drop s h) = other_handle h
other_view v (Get s h i h2) = other_if (nat_lt 63 h2) BadHandle (field_refusal v.graph (held v.registers h) i) tt (other_field v.graph (held v.registers h) i)
other_view v (Same s h h2) = other_same (held v.registers h) (held v.registers h2)
other_view v (Len s h) = other_len (held v.registers h)
other_view v event = tt

other_call : (g0 : Graph) (a : Account) (t : Option Transaction) (event : Event) → IsOther (call_refusal g0 a t event)
other_call g0 a None event = tt
other_call g0 a (Some t) event = other_view (view g0 a t) event

other_asked : (next : ℕ) (g0 : Graph) (a : Account) (t : Option Transaction) (event : Event) (kind : Kind) → IsOther (asked_refusal next g0 a t event kind)
other_asked next g0 a t event Begins = other_if (is_some t) AlreadyActive (if next == no_number then Some NumbersSpent else None) tt (other_if (next == no_number) NumbersSpent None tt tt)
other_asked next g0 a t event Calls = other_call g0 a t event
other_asked next g0 a t event Ends = other_call g0 a t event
other_asked next g0 a t event kind = tt

-- what an event asks for is never a reason to answer so
other_event : (next : ℕ) (g0 : Graph) (a : Account) (event : Event) → IsOther (event_refusal next g0 a event)
other_event next g0 a event = other_asked next g0 a (a.active (session_of event)) event (kind_of event)

other_space : (o : Option State) (need : ℕ) → IsOther (space_refusal o need)
other_space None need = tt
other_space (Some s) need = other_if (nat_lt (64 * s.pages - s.used - owed s) need) (Exhausted need (64 * s.pages - s.used) (owed s)) None tt tt

-- nor is a lack of room
other_room : (g : Ground) (g0 : Graph) (a : Account) (o : Option Transaction) (event : Event) → IsOther (room_refusal g g0 a o event)
other_room g g0 a (Some t) (New s h len) = other_if _ (VolatileFull _) None tt tt
other_room g g0 a (Some t) (Seal s) = other_space g.state (seal_need g t.number (view g0 a t))
other_room g g0 a o event = tt

other_found : (b : Bool) → IsOther (if b then None else Some NoSuchPage)
other_found true = tt
other_found false = tt

-- nor is a page that isn't there
other_page : (pages : ℕ) (event : Event) → IsOther (page_refusal pages event)
other_page pages (Flush p) = other_found (nat_lt p (pages_in pages))
other_page pages event = tt

other_log : (c : Core) (event : Event) → IsOther (log_refusal c event)
other_log c event = other_if _ (LogFull _ _ _) None tt tt

-- The reason of a busy answer.

not_other : (o : Option Refusal) (holder : ℕ) → IsOther o → o ≡ Some (Busy holder) → ⊥
not_other o holder other is = subst IsOther is other

second_busy : (o p : Option Refusal) (holder : ℕ) → IsOther o → first_of_two o p ≡ Some (Busy holder) → p ≡ Some (Busy holder)
second_busy None p holder other is = is
second_busy (Some why) p holder other is = absurd (not_other (Some why) holder other is)

first_busy : (o p : Option Refusal) (holder : ℕ) → IsOther p → first_of_two o p ≡ Some (Busy holder) → o ≡ Some (Busy holder)
first_busy None p holder other is = absurd (not_other p holder other is)
first_busy (Some why) p holder other is = is

other_two : (o p : Option Refusal) → IsOther o → IsOther p → IsOther (first_of_two o p)
other_two None p h k = k
other_two (Some why) p h k = h

alive_busy : (failed : Option ℕ) (o : Option Refusal) (holder : ℕ) → refusal_of failed o ≡ Some (Busy holder) → o ≡ Some (Busy holder)
alive_busy None o holder is = is
alive_busy (Some entry) o holder is = absurd (not_other (Some (Failed entry)) holder tt is)

holder_told : (o : Option ℕ) (holder : ℕ) → busy_with o ≡ Some (Busy holder) → o ≡ Some holder
holder_told None holder is = cc
holder_told (Some n) holder is = cc

module _ (g0 : Graph) (a : Account) (event : Event) (holder : ℕ) (within : AreInSessions a) where
  on_lock : (t : Transaction) (o : Option Lock) → a.active (session_of event) ≡ Some t → lock_of (view g0 a t).registers event ≡ o → busy_holder g0 a t.number o ≡ Some holder → GivesWay g0 a event holder
  on_lock t None active needs is = cc
  on_lock t (Some lock) active needs is = record { transaction = t; active = active; lock = lock; needs = needs; busy = busy_law g0 a t.number lock holder within is }

  of_call : (o : Option Transaction) → a.active (session_of event) ≡ o → call_conflict g0 a o event ≡ Some (Busy holder) → GivesWay g0 a event holder
  of_call None active is = cc
  of_call (Some t) active is =
      let lock = lock_of (view g0 a t).registers event in
      on_lock t lock active refl (holder_told (busy_holder g0 a t.number lock) holder is)

-- A core answers `busy` only to a call that has to give way, and names the least of the transactions with a conflicting lock.
pub busy_told : (c : Core) (event : Event) (holder : ℕ) → AreInSessions (account c.history) → core_refusal c event ≡ Some (Busy holder) → GivesWay c.g0 (account c.history) event holder
busy_told c event holder within is =
    let a = account c.history in
    let asks = event_refusal (next_number c) c.g0 a event in
    let room = first_of_two (words_refusal c event) (log_refusal c event) in
    let words =
    other_two (page_refusal c.pages event) (room_refusal (ground c) c.g0 a (a.active (session_of event)) event) (other_page c.pages event) (other_room (ground c) c.g0 a (a.active (session_of event)) event) in
    let alive = alive_busy a.failed (first_of_two (model_refusal (next_number c) c.g0 a event) room) holder is in
    let model = first_busy (model_refusal (next_number c) c.g0 a event) room holder
    (other_two (words_refusal c event) (log_refusal c event) words (other_log c event)) alive in
    of_call c.g0 a event holder within (a.active (session_of event)) refl (second_busy asks (conflict_refusal c.g0 a event) holder (other_event (next_number c) c.g0 a event) model)

-- And the other way.

-- the refusal of an event that comes so far
busy_now : (failed : Option ℕ) (asks conflict room : Option Refusal) (holder : ℕ) → failed ≡ None → asks ≡ None → conflict ≡ Some (Busy holder)
    → refusal_of failed (first_of_two (first_of_two asks conflict) room) ≡ Some (Busy holder)
busy_now None None conflict room holder unfailed asked is = ap (λ (o : Option Refusal). first_of_two o room) is
busy_now None (Some why) conflict room holder unfailed asked is = cc
busy_now (Some entry) asks conflict room holder unfailed asked is = cc

-- Where the heap has not failed, and an event is not refused for what it asks for, a call that has to give way is answered `busy`, with the least
-- of the transactions with a conflicting lock. That comes before all refusals for lack of room.
pub busy_back : (c : Core) (event : Event) (holder : ℕ) → AreInSessions (account c.history) → (account c.history).failed ≡ None → event_refusal (next_number c) c.g0 (account c.history) event ≡ None
    → GivesWay c.g0 (account c.history) event holder → core_refusal c event ≡ Some (Busy holder)
busy_back c event holder within unfailed asks gives =
    let a = account c.history in
    let t = gives.transaction in
    let conflict : conflict_refusal c.g0 a event ≡ Some (Busy holder) =
    ap (λ (o : Option Transaction). call_conflict c.g0 a o event) gives.active
    ∙ ap (λ (o : Option Lock). busy_with (busy_holder c.g0 a t.number o)) gives.needs
    ∙ ap busy_with (busy_found c.g0 a t.number gives.lock holder within gives.busy) in
    busy_now a.failed (event_refusal (next_number c) c.g0 a event) (conflict_refusal c.g0 a event) (first_of_two (words_refusal c event) (log_refusal c event)) holder unfailed asks conflict

-- Of the transactions whose locks conflict with a call one is the least: the call gives way to that one.
pub hindered_gives_way : (g0 : Graph) (a : Account) (event : Event) → AreInSessions a → IsHindered g0 a event → (holder : ℕ) × GivesWay g0 a event holder
hindered_gives_way g0 a event within h = by_found (busy_holder g0 a h.transaction.number (Some h.lock)) refl where
  by_found : (o : Option ℕ) → busy_holder g0 a h.transaction.number (Some h.lock) ≡ o → (holder : ℕ) × GivesWay g0 a event holder
  by_found None none = absurd (free_law g0 a h.transaction.number (Some h.lock) within none h.other h.in_the_way)
  by_found (Some holder) is = (
    holder,
    record {
      transaction = h.transaction;
      active = h.active;
      lock = h.lock;
      needs = h.needs;
      busy = busy_law g0 a h.transaction.number h.lock holder within is;
    },
  )
