-- Each step of a valid core whose transactions run under two-phase locking leaves a valid core.
use Rattle.std.proofs.Common.{◌≡◌, ℕ, ◌+◌, Bool, true, false, List, [], ◌∷◌, ◌++◌, length, Option, Some, None, is_some, refl, sym, ap, ◌∙◌, subst, arith}
use Rattle.std.specs.Prelude.{◌==◌, if◌then◌else◌, slice_index_or}
use Rattle.std.proofs.lemmas.Bool.{eqb-false}
use Rattle.std.proofs.lemmas.List.{append-nil}
use Rattle.graph_model.specs.declared.event.Event.{Event}
use Rattle.graph_model.specs.declared.id.Id.{Id}
use Rattle.graph_model.specs.declared.val.Val.{Val}
use Rattle.graph_model.specs.declared.val.Val.TheVariants.{Null, Int}
use Rattle.graph_model.specs.declared.event.Event.TheVariants.{Begin, Root, New, Put, Clear, Link, Drop, Get, Same, Len, Seal, Abort, Force, Flip, Scan, Flush}
use Rattle.graph_model.specs.declared.reply.Entry.{Entry}
use Rattle.graph_model.specs.declared.reply.Refusal.{Refusal}
use Rattle.graph_model.specs.declared.reply.Refusal.TheVariants.{AlreadyActive, NumbersSpent}
use Rattle.graph_model.specs.declared.reply.Reply.{Reply}
use Rattle.graph_model.specs.declared.reply.Reply.TheVariants.{Aborted, Begun, Durable, Collecting, Idle, Flushed, Clean, Refused}
use Rattle.graph_model.specs.Graph.{Graph}
use Rattle.graph_model.specs.Transaction.{Transaction, View, IsCall, fields_of, held, put_value, reference_to, call}
use Rattle.graph_model.specs.History.{Account, IsSession, account, account_after, session_of, IsOfSession}
use Rattle.graph_model.specs.Replies.{IsCallReply}
use Rattle.graph_model.proofs.Runs.History.{account-append, account_after-call}
use Rattle.graph_model.specs.Locking.{Mode, Exclusive, Shared, lock_on, lock_of, IsFree}
use Rattle.graph_model.specs.Plain.{view, no_number, field_refusal, call_refusal, event_refusal, call_conflict, conflict_refusal, model_refusal, first_of_two, refusal_of, granted, reply_of}
use Rattle.graph_model.proofs.Refusals.Plain.{IsNoFault, HasNoFault, call_reply-IsCallReply, event_refusal-call, granted-call, account_after-refused}
use Rattle.graph_model.proofs.Refusals.Granted.{new_granted}
use Rattle.commit_order.proofs.CallLaws.{lock_on-held}
use Rattle.commit_order.specs.Heard.{Heard}
use Rattle.commit_order.proofs.OrderLaws.{IsOrdered, two_phase_ordered}
use Rattle.log_records.specs.declared.Record.{Record}
use Rattle.log_machine.specs.Machine.{State, undo_of, abort_records}
use Rattle.heap_spaces.specs.Collection.{Collection}
use Rattle.graph_words.specs.Places.{Places, IsVisible, address_of}
use Rattle.collection_words.specs.LaidOut.{is_gray_field}
use Rattle.heap_model.specs.Core.{Core, ground, all_records, next_number, undo_with, undo_behind, kept_for, view_records, call_records, call_barrier, barrier_records, behind_barrier, own_records, event_records, event_places, sealed_places, used, need, reserved, reserved_after, room_refusal, words_refusal, log_refusal, core_refusal, granted_by, with_entry, is_dirty, done, after_refusal, after}
use Rattle.heap_model.specs.Collecting.{flip_reply, next_page, scan_reply, scan_reply_in}
use Rattle.heap_model.proofs.Step.Goes.{need_nothing}
use Rattle.heap_model.proofs.Step.Handles.{ReadsVisible, held_at_hand}
use Rattle.heap_model.proofs.Step.Moved.{behind_none, moved_is}
use Rattle.heap_model.proofs.Step.Room.{full_log-none, full_log-room}
use Rattle.heap_model.proofs.Step.Step.{core_refusal-HasNoFault}
use Rattle.heap_model.proofs.Step.Transfers.{done_history}
use Rattle.core_laws.proofs.Step.Forms.{is_write, has_barrier, no_barrier, quiet_records, call_places, is_new, quiet_call, done_records, two_tests, not_active, has_transaction, area_fits, put_bounds, reference_visible, link_field}
use Rattle.core_laws.proofs.Collecting.Behind.{behind, behind_both, black_call, call_behind, roomy}
use Rattle.core_laws.proofs.Collecting.Events.{barrier_kept, done_flip, done_scan}
use Rattle.core_laws.proofs.Step.Goes.{writing_of, agrees_history, places_still}
use Rattle.core_laws.proofs.Step.Granted.{HasRoom, begin_agrees, quiet_agrees, new_agrees}
use Rattle.core_laws.proofs.Step.GrantedWrites.{write_agrees}
use Rattle.core_laws.proofs.Step.GrantedEnds.{abort_room, abort_agrees, force_agrees, flush_agrees}
use Rattle.core_laws.proofs.Step.Reserved.{reserved_same}
use Rattle.core_laws.proofs.Seal.Agrees.{seal_agrees}
use Rattle.core_laws.proofs.Sessions.Actives.{called}
use Rattle.core_laws.proofs.Sessions.Apart.{value_at_hand}
use Rattle.core_laws.proofs.Step.Sound.{agrees_entry}
use Rattle.core_laws.proofs.Step.TwoPhase.{model_granted, free_call}
use Rattle.core_laws.specs.Valid.{RunsLocked, Agrees, IsValid}

-- What an event leaves that isn't refused agrees with its entry.
abbrev pub Goes : Core → Event → Type 0
Goes c event =
    let a = account c.history in
    Agrees (account_after a (record { event = event; reply = granted (next_number c) c.g0 a event })) (done c event)

-- An event isn't refused: not for what it asks for, nor for what others hold, nor for lack of room.
pub record IsGranted (c : Core) (event : Event) : Type 0 where
  pub asks : event_refusal (next_number c) c.g0 (account c.history) event ≡ None
  pub free : conflict_refusal c.g0 (account c.history) event ≡ None
  pub words : words_refusal c event ≡ None
  pub log : log_refusal c event ≡ None

-- a core that has not failed refuses for the model, for the words or for the log
pub unfailed_refusal : (c : Core) (event : Event) → (account c.history).failed ≡ None
    → core_refusal c event ≡ first_of_two (model_refusal (next_number c) c.g0 (account c.history) event) (first_of_two (words_refusal c event) (log_refusal c event))
unfailed_refusal c event e =
    ap (λ (o : Option ℕ). refusal_of o (first_of_two (model_refusal (next_number c) c.g0 (account c.history) event) (first_of_two (words_refusal c event) (log_refusal c event)))) e

both_none : (first second : Option Refusal) → first_of_two first second ≡ None → (first ≡ None) × (second ≡ None)
both_none None second e = (refl, e)
both_none (Some why) second e = cc

-- an event that a core does not refuse is granted
pub may_go : (c : Core) (event : Event) → (account c.history).failed ≡ None → core_refusal c event ≡ None → IsGranted c event
may_go c event unfailed e =
    let model = model_granted c event e in
    let first = both_none (model_refusal (next_number c) c.g0 (account c.history) event) (first_of_two (words_refusal c event) (log_refusal c event)) (sym (unfailed_refusal c event unfailed) ∙ e) in
    let second = both_none (words_refusal c event) (log_refusal c event) first.1 in
    record { asks = model.0; free = model.1; words = second.0; log = second.1 }

-- Room in the log.

-- what the log's test says
pub log_has_room : (c : Core) (event : Event) → log_refusal c event ≡ None
    → HasRoom c (event_records c event) (account_after (account c.history) (record { event = event; reply = granted (next_number c) c.g0 (account c.history) event }))
log_has_room c event room = full_log-room c.room (used c) (need c.pending (event_records c event)) (reserved_after c event) room

-- and back
log_roomy : (c : Core) (event : Event)
    → HasRoom c (event_records c event) (account_after (account c.history) (record { event = event; reply = granted (next_number c) c.g0 (account c.history) event }))
    → log_refusal c event ≡ None
log_roomy c event room = full_log-none c.room (used c) (need c.pending (event_records c event)) (reserved_after c event) room

-- a call that isn't refused is one more of its transaction
pub call_account : (next : ℕ) (g0 : Graph) (a : Account) (event : Event) → IsCall event
    → account_after a (record { event = event; reply = granted next g0 a event }) ≡ called a (session_of event) event
call_account next g0 a event is =
    let reply = call_reply-IsCallReply g0 a (a.active (session_of event)) event in
    account_after-call a event (granted next g0 a event) (subst IsCallReply (sym (granted-call next g0 a event is)) reply)

-- what is kept where no record is appended
pub kept_still : (c : Core) (b : Account) → (valid : IsValid c) → reserved (undo_behind c (all_records c ++ [])) b ≡ reserved (undo_of valid.behind) b
kept_still c b valid =
    ap (λ (rs : List Record). reserved (undo_behind c rs) b) (append-nil (all_records c)) ∙ ap (λ (o : Option State). reserved (undo_with o) b) valid.told.reached

-- and for what neither appends a record nor changes a transaction
room_still : (c : Core) (b : Account) → IsValid c → ((s : ℕ) → b.active s ≡ (account c.history).active s) → HasRoom c [] b
room_still c b valid actives =
    let nothing = need_nothing c.pending in
    let kept = kept_still c b valid in
    let same = reserved_same (undo_of valid.behind) (undo_of valid.behind) b (account c.history) (λ s. ap (kept_for (undo_of valid.behind)) (actives s)) in
    omega (arith, valid.room)

-- so it has for a force
pub log_force : (c : Core) → IsValid c → log_refusal c Force ≡ None
log_force c valid = log_roomy c Force (room_still c (account_after (account c.history) (record { event = Force; reply = Durable (length (account c.history).sealed) })) valid (λ s. refl))

-- and for a flush
pub log_flush : (c : Core) (p : ℕ) → IsValid c → log_refusal c (Flush p) ≡ None
log_flush c p valid = log_roomy c (Flush p) (room_still c (account_after (account c.history) (record { event = Flush p; reply = Flushed p })) valid (λ s. refl))

-- the records of an abort, where the transaction is known
pub abort_is : (c : Core) (s : ℕ) (t : Transaction) (valid : IsValid c) → (account c.history).active s ≡ Some t → event_records c (Abort s) ≡ abort_records t.number (undo_of valid.behind t.number)
abort_is c s t valid e =
    let a = account c.history in
    ap (λ (o : Option Transaction). call_records (ground c) c.g0 a o (Abort s)) e ∙ ap (λ (o : Option State). abort_records t.number (undo_with o t.number)) valid.told.reached

-- the log has room for the abort of an active transaction
pub log_abort : (c : Core) (s : ℕ) (t : Transaction) → IsValid c → RunsLocked c.g0 c.first c.history → (account c.history).active s ≡ Some t → log_refusal c (Abort s) ≡ None
log_abort c s t valid runs e =
    let a = account c.history in
    log_roomy c (Abort s) (abort_room a c (two_phase_ordered c.g0 c.history runs.plain runs.two_phase) s t (event_records c (Abort s)) valid e (abort_is c s t valid e))

-- Events that are granted.

-- a call that isn't refused has a transaction
call_transaction : (c : Core) (event : Event) → IsCall event → event_refusal (next_number c) c.g0 (account c.history) event ≡ None
    → (t : Transaction) × ((account c.history).active (session_of event) ≡ Some t) × (call_refusal c.g0 (account c.history) (Some t) event ≡ None)
call_transaction c event is may =
    let a = account c.history in
    let own : call_refusal c.g0 a (a.active (session_of event)) event ≡ None = sym (event_refusal-call (next_number c) c.g0 a event is) ∙ may in
    let t = has_transaction c.g0 a (a.active (session_of event)) event own in
    (t.0, t.1, ap (λ (o : Option Transaction). call_refusal c.g0 a o event) (sym t.1) ∙ own)

-- a core with no more places agrees as with those that there are
placed_still : (b : Account) (c : Core) (more : List Record) → Agrees b (record c { pending = c.pending ++ more }) → Agrees b (record c { pending = c.pending ++ more; places = c.places ++ [] })
placed_still b c more left = subst (λ (d : Core). Agrees b d) (sym (places_still c more)) left

begin_goes : (c : Core) (s : ℕ) → IsValid c → IsSession s → IsGranted c (Begin s) → Goes c (Begin s)
begin_goes c s valid session may =
    let a = account c.history in
    let tests = two_tests (is_some (a.active s)) (next_number c == no_number) AlreadyActive NumbersSpent may.asks in
    placed_still (account_after a (record { event = Begin s; reply = Begun (next_number c) })) c []
    (begin_agrees a c s valid session (not_active (a.active s) tests.0) (eqb-false (next_number c) no_number tests.1) (log_has_room c (Begin s) may.log))

-- what a call leaves, by what it appends to the core after its barrier
call_left : (c b : Core) (event : Event) (own : List Record) → IsCall event → behind_barrier c event ≡ b → own_records c event ≡ own
    → Agrees (called (account c.history) (session_of event) event) (record b { pending = b.pending ++ own }) → Goes c event
call_left c b event own is behind records go =
    let a = account c.history in
    let d = behind_barrier c event in
    let left = done_records c event is
    ∙ ap (λ (rs : List Record). record d { pending = d.pending ++ rs; places = d.places ++ event_places d event }) records
    ∙ ap (λ (placed : Places). record d { pending = d.pending ++ own; places = d.places ++ placed }) (call_places d event is) ∙ places_still d own
    ∙ ap (λ (x : Core). record x { pending = x.pending ++ own }) behind in
    let there = subst (λ (x : Core). Agrees (called a (session_of event) event) x) (sym left) go in
    subst (λ (x : Account). Agrees x (done c event)) (sym (call_account (next_number c) c.g0 a event is)) there

-- a call before which no page is scanned
plain_left : (c : Core) (event : Event) (own : List Record) → IsCall event → has_barrier event ≡ false → own_records c event ≡ own
    → Agrees (called (account c.history) (session_of event) event) (record c { pending = c.pending ++ own }) → Goes c event
plain_left c event own is plain records go = call_left c c event own is (behind_none c event (no_barrier c event plain)) records go

-- a transaction that uses what a handle holds in a mode finds it free
held_free : (c : Core) (event : Event) (t : Transaction) (hd : ℕ) (mode : Mode) → IsValid c → (account c.history).active (session_of event) ≡ Some t → conflict_refusal c.g0 (account c.history) event ≡ None
    → lock_of (view c.g0 (account c.history) t).registers event ≡ lock_on (view c.g0 (account c.history) t).registers hd mode
    → (id : Id) → held (view c.g0 (account c.history) t).registers hd ≡ Some id → IsFree c.g0 (account c.history) t.number (Some (id, mode))
held_free c event t hd mode valid e free lock id holds =
    let a = account c.history in
    let all = free_call c.g0 a t event valid.in_sessions (ap (λ (o : Option Transaction). call_conflict c.g0 a o event) (sym e) ∙ free) in
    subst (IsFree c.g0 a t.number) (lock ∙ lock_on-held (view c.g0 a t).registers hd mode id holds) all

-- a call that reads no field and leaves the graph
quiet_goes : (c : Core) (event : Event) → IsValid c → IsCall event → is_write event ≡ false → has_barrier event ≡ false → is_new event ≡ false
    → ((places : Places) (t : ℕ) (v : View) → ReadsVisible places t v.made v event) → IsGranted c event → Goes c event
quiet_goes c event valid is quiet plain old reads may =
    let a = account c.history in
    let t = call_transaction c event is may.asks in
    plain_left c event [] is plain (quiet_records c event is quiet)
    (quiet_agrees a c (session_of event) t.0 event valid t.1 (quiet_call (view c.g0 a t.0) t.0.number event quiet old) (reads c.places t.0.number (view c.g0 a t.0)))

-- the core after an event's barrier
abbrev scanned : Core → Event → Core
scanned c event = behind c (barrier_records c event)

-- A call after its barrier: where it leaves a core that agrees with its history after a barrier that does, whatever room there is, it does so
-- with the room that it was granted.
barrier_goes : (c : Core) (event : Event) (own : List Record) → IsValid c → IsCall event → IsGranted c event → own_records c event ≡ own
    → ((more : ℕ) → Agrees (account c.history) (roomy c more) → Agrees (account c.history) (scanned (roomy c more) event)
    → HasRoom (scanned (roomy c more) event) own (called (account c.history) (session_of event) event)
    → Agrees (called (account c.history) (session_of event) event) (behind_both (roomy c more) (barrier_records c event) own))
    → Goes c event
barrier_goes c event own valid is may records go =
    let a = account c.history in
    let rs = barrier_records c event in
    let b = called a (session_of event) event in
    let room = subst (λ (l : List Record). HasRoom c (rs ++ l) b) records (subst (HasRoom c (event_records c event)) (call_account (next_number c) c.g0 a event is) (log_has_room c event may.log)) in
    call_left c (behind c rs) event own is (moved_is c rs) records
    (call_behind a b c rs own valid (λ more large has. barrier_kept a (roomy c more) large event has) go room valid.disk)

-- A core of the same history: what is known of sessions and refusals is the same.

-- what a get reads, of an object that is not gray and that no other transaction holds exclusively
get_reads : (a : Account) (d : Core) (h : Agrees a d) {numbers : List ℕ} {heard : Heard} (o : IsOrdered d.g0 numbers a heard) (s hd i h2 : ℕ) (t : Transaction) → (e : a.active s ≡ Some t)
    → ((id : Id) → held (view d.g0 a t).registers hd ≡ Some id → IsFree d.g0 a t.number (Some (id, Shared)))
    → ((id : Id) → held (view d.g0 a t).registers hd ≡ Some id → (at : ℕ) → address_of d.places id ≡ Some at → is_gray_field h.behind.collection at i ≡ false)
    → ReadsVisible d.places t.number (view d.g0 a t).made (view d.g0 a t) (Get s hd i h2)
get_reads a d h o s hd i h2 t e free black = read_here (held (view d.g0 a t).registers hd) refl
  where
    read_here : (x : Option Id) → held (view d.g0 a t).registers hd ≡ x → IsVisible d.places t.number (view d.g0 a t).made (slice_index_or (fields_of (view d.g0 a t).graph x) i Null)
    read_here None none = tt
    read_here (Some id) holds =
        value_at_hand a d h o s t e id (held_at_hand d.places t.number (view d.g0 a t).made (view d.g0 a t).registers hd id (writing_of a d s t e h).handles holds) i (free id holds) (black id holds)

get_goes : (c : Core) (s h i h2 : ℕ) → IsValid c → RunsLocked c.g0 c.first c.history → IsGranted c (Get s h i h2) → Goes c (Get s h i h2)
get_goes c s h i h2 valid runs may =
    let a = account c.history in
    let event : Event = Get s h i h2 in
    let t = call_transaction c event tt may.asks in
    let o = two_phase_ordered c.g0 c.history runs.plain runs.two_phase in
    barrier_goes c event [] valid tt may (quiet_records c event tt refl) (λ more large there room.
    quiet_agrees a (scanned (roomy c more) event) s t.0 event there t.1 (quiet_call (view c.g0 a t.0) t.0.number event refl refl)
    (get_reads a (scanned (roomy c more) event) there o s h i h2 t.0 t.1 (held_free c event t.0 h Shared valid t.1 may.free refl)
    (λ id holds. black_call a (roomy c more) large s t.0 t.1 h i id holds there)))

new_goes : (c : Core) (s h len : ℕ) → IsValid c → IsGranted c (New s h len) → Goes c (New s h len)
new_goes c s h len valid may =
    let a = account c.history in
    let event : Event = New s h len in
    let t = call_transaction c event tt may.asks in
    let bounds = new_granted (view c.g0 a t.0) s h len t.2 in
    let room = ap (λ (o : Option Transaction). room_refusal (ground c) c.g0 a o event) (sym t.1) ∙ may.words in
    plain_left c event [] tt refl (quiet_records c event tt refl) (new_agrees a c s t.0 h len valid t.1 bounds.1 (area_fits (view c.g0 a t.0) t.0.number len room))

-- What is required of a call that writes a value into field i of what a handle holds, by what its transaction sees.
record Writes (g0 : Graph) (a : Account) (t : Transaction) (event : Event) (hd i : ℕ) (v : Val) : Type 0 where
  graph : (call (view g0 a t) t.number event).view.graph ≡ put_value (view g0 a t).graph (held (view g0 a t).registers hd) i v
  made : (call (view g0 a t) t.number event).view.made ≡ (view g0 a t).made
  within : field_refusal (view g0 a t).graph (held (view g0 a t).registers hd) i ≡ None
  lock : lock_of (view g0 a t).registers event ≡ lock_on (view g0 a t).registers hd Exclusive
  reads : (places : Places) → ReadsVisible places t.number (view g0 a t).made (view g0 a t) event

write_goes : (c : Core) (t : Transaction) (event : Event) (hd i : ℕ) (v : Val) → (valid : IsValid c) → RunsLocked c.g0 c.first c.history → IsCall event → IsGranted c event
    → (e : (account c.history).active (session_of event) ≡ Some t) → Writes c.g0 (account c.history) t event hd i v
    → ((d : Core) → Agrees (account c.history) d → d.g0 ≡ c.g0 → IsVisible d.places t.number (view c.g0 (account c.history) t).made v)
    → barrier_records c event ≡ call_barrier (ground c) c.g0 (account c.history) ((account c.history).active (session_of event)) hd i
    → own_records c event ≡ view_records (behind_barrier c event).places t.number (view c.g0 (account c.history) t) hd i v → Goes c event
write_goes c t event hd i v valid runs is may e w seen barrier records =
    let a = account c.history in
    let s = session_of event in
    let o = two_phase_ordered c.g0 c.history runs.plain runs.two_phase in
    let own = view_records (scanned c event).places t.number (view c.g0 a t) hd i v in
    let same : own_records c event ≡ own = records ∙ ap (λ (d : Core). view_records d.places t.number (view c.g0 a t) hd i v) (moved_is c (barrier_records c event)) in
    barrier_goes c event own valid is may same (λ more large there room.
    let d = scanned (roomy c more) event in
    let black : (id : Id) → held (view c.g0 a t).registers hd ≡ Some id → (b : Agrees a d) → (at : ℕ) → address_of d.places id ≡ Some at → is_gray_field b.behind.collection at i ≡ false =
    λ id holds. subst (λ (rs : List Record). (b : Agrees a (behind (roomy c more) rs)) → (at : ℕ) → address_of (behind (roomy c more) rs).places id ≡ Some at → is_gray_field b.behind.collection at i ≡ false)
    (sym barrier) (black_call a (roomy c more) large s t e hd i id holds) in
    write_agrees a d o s t event hd i v own there e w.graph w.made (seen d there refl) w.within w.lock (held_free c event t hd Exclusive valid e may.free w.lock) (w.reads d.places)
    (λ id holds at place. black id holds there at place) refl room)

put_goes : (c : Core) (s h i v : ℕ) → IsValid c → RunsLocked c.g0 c.first c.history → IsGranted c (Put s h i v) → Goes c (Put s h i v)
put_goes c s h i v valid runs may =
    let a = account c.history in
    let event : Event = Put s h i v in
    let t = call_transaction c event tt may.asks in
    let bounds = put_bounds (view c.g0 a t.0).graph (held (view c.g0 a t.0).registers h) i v t.2 in
    write_goes c t.0 event h i (Int v) valid runs tt may t.1 (record { graph = refl; made = refl; within = bounds.1; lock = refl; reads = λ places. tt }) (λ d there same. bounds.0) refl
    (ap (λ (o : Option Transaction). call_records (ground (behind_barrier c event)) c.g0 a o event) t.1)

clear_goes : (c : Core) (s h i : ℕ) → IsValid c → RunsLocked c.g0 c.first c.history → IsGranted c (Clear s h i) → Goes c (Clear s h i)
clear_goes c s h i valid runs may =
    let a = account c.history in
    let event : Event = Clear s h i in
    let t = call_transaction c event tt may.asks in
    write_goes c t.0 event h i Null valid runs tt may t.1 (record { graph = refl; made = refl; within = t.2; lock = refl; reads = λ places. tt }) (λ d there same. tt) refl
    (ap (λ (o : Option Transaction). call_records (ground (behind_barrier c event)) c.g0 a o event) t.1)

link_goes : (c : Core) (s h i h2 : ℕ) → IsValid c → RunsLocked c.g0 c.first c.history → IsGranted c (Link s h i h2) → Goes c (Link s h i h2)
link_goes c s h i h2 valid runs may =
    let a = account c.history in
    let event : Event = Link s h i h2 in
    let t = call_transaction c event tt may.asks in
    let v = view c.g0 a t.0 in
    let within = link_field v.graph (held v.registers h) i (held v.registers h2) t.2 in
    write_goes c t.0 event h i (reference_to (held v.registers h2)) valid runs tt may t.1 (record { graph = refl; made = refl; within = within; lock = refl; reads = λ places. tt })
    (λ d there same. reference_here c d s t.0 h2 there same t.1) refl
    (ap (λ (o : Option Transaction). call_records (ground (behind_barrier c event)) c.g0 a o event) t.1)
  where
    -- what a handle holds is seen by each core that agrees with the history
    reference_here : (c d : Core) (s : ℕ) (t : Transaction) (h2 : ℕ) → Agrees (account c.history) d → d.g0 ≡ c.g0 → (account c.history).active s ≡ Some t
        → IsVisible d.places t.number (view c.g0 (account c.history) t).made (reference_to (held (view c.g0 (account c.history) t).registers h2))
    reference_here c d s t h2 there same e =
        let a = account c.history in
        subst (λ (g : Graph). IsVisible d.places t.number (view g a t).made (reference_to (held (view g a t).registers h2))) same
        (reference_visible d.places t.number (view d.g0 a t).made (view d.g0 a t).registers h2 (held (view d.g0 a t).registers h2) (writing_of a d s t e there).handles refl)

seal_goes : (c : Core) (s : ℕ) → IsValid c → RunsLocked c.g0 c.first c.history → IsGranted c (Seal s) → Goes c (Seal s)
seal_goes c s valid runs may =
    let a = account c.history in
    let t = has_transaction c.g0 a (a.active s) (Seal s) may.asks in
    let space = ap (λ (o : Option Transaction). room_refusal (ground c) c.g0 a o (Seal s)) (sym t.1) ∙ may.words in
    seal_agrees a c (two_phase_ordered c.g0 c.history runs.plain runs.two_phase) s t.0 (length a.sealed + 1) (event_records c (Seal s)) (event_places c (Seal s)) valid t.1
    (ap (λ (o : Option Transaction). call_records (ground c) c.g0 a o (Seal s)) t.1) (ap (sealed_places (ground c) c.g0 a) t.1) space (log_has_room c (Seal s) may.log)

abort_goes : (c : Core) (s : ℕ) → IsValid c → RunsLocked c.g0 c.first c.history → IsGranted c (Abort s) → Goes c (Abort s)
abort_goes c s valid runs may =
    let a = account c.history in
    let t = has_transaction c.g0 a (a.active s) (Abort s) may.asks in
    placed_still (account_after a (record { event = Abort s; reply = Aborted })) c (event_records c (Abort s))
    (abort_agrees a c (two_phase_ordered c.g0 c.history runs.plain runs.two_phase) s t.0 (event_records c (Abort s)) valid t.1 (abort_is c s t.0 valid t.1))

-- an entry that says nothing about transactions is one more
unanswered : (c d : Core) → IsValid c → Agrees (account c.history) d → Agrees (record (account c.history) { entries = (account c.history).entries + 1 }) d
unanswered c d valid h =
    let a = account c.history in
    subst (λ (o : Option ℕ). Agrees (record a { failed = o; entries = a.entries + 1 }) d) (sym valid.unfailed) (agrees_entry a d (a.entries + 1) h)

-- an event that isn't refused, by its form
pub goes : (c : Core) (event : Event) → IsValid c → RunsLocked c.g0 c.first c.history → IsOfSession event → IsGranted c event → Goes c event
goes c (Begin s) valid runs session may = begin_goes c s valid session may
goes c (Root s h) valid runs session may = quiet_goes c (Root s h) valid tt refl refl refl (λ places t v. tt) may
goes c (New s h len) valid runs session may = new_goes c s h len valid may
goes c (Put s h i v) valid runs session may = put_goes c s h i v valid runs may
goes c (Clear s h i) valid runs session may = clear_goes c s h i valid runs may
goes c (Link s h i h2) valid runs session may = link_goes c s h i h2 valid runs may
goes c (Drop s h) valid runs session may = quiet_goes c (Drop s h) valid tt refl refl refl (λ places t v. tt) may
goes c (Get s h i h2) valid runs session may = get_goes c s h i h2 valid runs may
goes c (Same s h h2) valid runs session may = quiet_goes c (Same s h h2) valid tt refl refl refl (λ places t v. tt) may
goes c (Len s h) valid runs session may = quiet_goes c (Len s h) valid tt refl refl refl (λ places t v. tt) may
goes c (Seal s) valid runs session may = seal_goes c s valid runs may
goes c (Abort s) valid runs session may = abort_goes c s valid runs may
goes c Force valid runs session may = force_agrees (account c.history) c valid
goes c Flip valid runs session may = unanswered c (done c Flip) valid (done_flip c valid (log_has_room c Flip may.log))
goes c Scan valid runs session may = unanswered c (done c Scan) valid (done_scan c valid (log_has_room c Scan may.log))
goes c (Flush p) valid runs session may = flush_agrees (account c.history) c p valid

-- What a step leaves.

flush_adds : (a : Account) (p : ℕ) (dirty : Bool) → account_after a (record { event = Flush p; reply = if dirty then Flushed p else Clean p }) ≡ account_after a (record { event = Flush p; reply = Flushed p })
flush_adds a p true = refl
flush_adds a p false = refl

flip_adds : (a : Account) (rs : List Record) → account_after a (record { event = Flip; reply = flip_reply rs }) ≡ account_after a (record { event = Flip; reply = Collecting })
flip_adds a [] = refl
flip_adds a (r ∷ rs) = refl

scan_adds : (a : Account) (rs : List Record) (o : Option State) → account_after a (record { event = Scan; reply = scan_reply o rs }) ≡ account_after a (record { event = Scan; reply = Idle })
scan_adds a rs None = refl
scan_adds a rs (Some s) = by s.collection (next_page s.collection)
  where
    by : (run : Option Collection) (page : Option ℕ) → account_after a (record { event = Scan; reply = scan_reply_in s rs run page }) ≡ account_after a (record { event = Scan; reply = Idle })
    by None page = refl
    by (Some k) None = refl
    by (Some k) (Some page) = refl

-- the history says the same whether the core answers an event that isn't refused or a plain heap does: no answer to a flip, a scan or a flush adds anything
pub reply_adds : (c : Core) (event : Event)
    → account_after (account c.history) (record { event = event; reply = granted_by c event }) ≡ account_after (account c.history) (record { event = event; reply = granted (next_number c) c.g0 (account c.history) event })
reply_adds c Flip = flip_adds (account c.history) (own_records c Flip)
reply_adds c Scan = scan_adds (account c.history) (own_records c Scan) (ground c).state
reply_adds c (Flush p) = flush_adds (account c.history) p (is_dirty c p)
reply_adds c event = refl

-- what a history says with one more entry, for any core
pub valid_entry : (c d : Core) (event : Event) (reply : Reply) → d.history ≡ c.history → Agrees (account_after (account c.history) (record { event = event; reply = reply })) d → IsValid (with_entry d event reply)
valid_entry c d event reply same h =
    let entry : Entry = record { event = event; reply = reply } in
    let said : account (d.history ++ entry ∷ []) ≡ account_after (account c.history) entry = account-append d.history entry ∙ ap (λ (l : List Entry). account_after (account l) entry) same in
    let P : Account → Type 0 = λ a. Agrees a (with_entry d event reply) in
    subst P (sym said) (agrees_history _ d (d.history ++ entry ∷ []) h)

-- a refused event changes nothing but the history
pub refused_agrees : (a : Account) (c : Core) (event : Event) (why : Refusal) → IsNoFault why → Agrees a c → Agrees (account_after a (record { event = event; reply = Refused why })) c
refused_agrees a c event why sound h =
    let P : Account → Type 0 = λ b. Agrees b c in
    subst P (sym (account_after-refused a event why sound)) (subst (λ (f : Option ℕ). Agrees (record a { failed = f; entries = a.entries + 1 }) c) (sym h.unfailed) (agrees_entry a c (a.entries + 1) h))

either_way : (c : Core) (event : Event) (o : Option Refusal) → IsValid c → HasNoFault o → (o ≡ None → Goes c event)
    → IsValid (with_entry (after_refusal o c event) event (reply_of o (granted_by c event)))
either_way c event None valid sound go =
    valid_entry c (done c event) event (granted_by c event) (done_history c event) (subst (λ (b : Account). Agrees b (done c event)) (sym (reply_adds c event)) (go refl))
either_way c event (Some why) valid sound go = valid_entry c c event (Refused why) refl (refused_agrees (account c.history) c event why sound valid)

-- A valid core stays valid where the disk does not fail.
pub valid_after : (c : Core) (event : Event) → IsValid c → RunsLocked c.g0 c.first c.history → IsOfSession event → IsValid (after c event)
valid_after c event valid runs session =
    either_way c event (core_refusal c event) valid (core_refusal-HasNoFault c event) (λ e. goes c event valid runs session (may_go c event valid.unfailed e))
