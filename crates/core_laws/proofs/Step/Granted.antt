-- A transaction that begins, and a call that appends no record, leave a core that agrees with its history.
use Rattle.std.proofs.Common.{◌≡◌, ◌≢◌, inr, ℕ, ◌+◌, ◌≤◌, List, [], ◌++◌, length, Option, Some, None, unwrap_or, is_some, refl, sym, ap, subst, arith}
use Rattle.std.specs.List.{AllByRecursion}
use Rattle.std.specs.Option.{option_to_list}
use Rattle.std.proofs.lemmas.List.{append-nil}
use Rattle.std.proofs.lemmas.List.Elements.{Contains-append_left}
use Rattle.graph_model.specs.declared.event.Event.{Event}
use Rattle.graph_model.specs.declared.event.Event.TheVariants.{Begin, New}
use Rattle.graph_model.specs.declared.id.Id.{Id}
use Rattle.graph_model.specs.declared.reply.Reply.TheVariants.{Begun}
use Rattle.graph_model.specs.Graph.{Graph}
use Rattle.graph_model.specs.History.{Account, account_after, with_call, IsSession}
use Rattle.graph_model.proofs.Runs.History.{run-append}
use Rattle.graph_model.specs.Locking.{Exclusive, lock_of, locks_of}
use Rattle.graph_model.specs.Plain.{view, no_number}
use Rattle.graph_model.specs.Transaction.{Transaction, View, call, fresh_view, run, serial}
use Rattle.commit_order.proofs.LockingLaws.{locks_of_calls-append}
use Rattle.log_records.specs.declared.Record.{Record}
use Rattle.log_machine.specs.Apart.{others_taken_back}
use Rattle.log_machine.specs.Machine.{State, owed, undo_of}
use Rattle.log_machine.specs.declared.UndoEntry.{UndoEntry}
use Rattle.graph_words.specs.Area.{HasMade}
use Rattle.graph_words.specs.Places.{IsOld, Places, area_used, made_by}
use Rattle.graph_words.specs.Stands.{Stands, StandsCommitted, AreWritten, AreOfFields}
use Rattle.graph_words.proofs.Places.Addresses.{old_apart}
use Rattle.graph_words.proofs.Stands.Own.{new_stands, new_made, new_written, new_kept}
use Rattle.graph_words.proofs.Stands.Write.{committed_stands, begin_made_next, begin_written}
use Rattle.collection_words.specs.Completed.{completed, completed_places, future}
use Rattle.collection_words.specs.LaidOut.{AreHeapWords}
use Rattle.collection_words.proofs.Heap.Front.{all_front}
use Rattle.heap_model.specs.Core.{Core, log_start, all_records, all_words, undo_with, undo_behind, used, need, reserved}
use Rattle.heap_model.proofs.Step.Goes.{told_sound, need_nothing}
use Rattle.heap_model.proofs.Step.Granted.{IsQuiet}
use Rattle.heap_model.proofs.Step.Handles.{ReadsVisible, call_at_hand, none_at_hand, more_handles}
use Rattle.heap_model.proofs.Opening.Told.{of_fields_kept}
use Rattle.heap_model.specs.CoreTold.{HoldsAtHand, IsTold, IsNumbered}
use Rattle.heap_model.proofs.ListLaws.{AllByRecursion-set, AllByRecursion-map}
use Rattle.core_laws.proofs.Step.Goes.{words_with, writing_of, goes_on, as_told}
use Rattle.core_laws.proofs.Sessions.Actives.{each_session, sessions_with, after_call, called, called_sessions, called_numbered, called_actives, begun_actives, called_reserved}
use Rattle.core_laws.proofs.Sessions.Unlocked.{unlocked_on}
use Rattle.core_laws.proofs.Sessions.Whole.{none_left, rooted, whole_made}
use Rattle.core_laws.proofs.Step.Told.{none_yet, others_all}
use Rattle.core_laws.specs.Valid.{IsLockedWrite, AreLockedWrites, IsWriting, IsWriter, Agrees}

-- Room.

-- the log has room for the records that an event appends, and for what is kept where the history says this after it
abbrev pub HasRoom : Core → List Record → Account → Type 0
HasRoom c more b = used c + need c.pending more + reserved (undo_behind c (all_records c ++ more)) b ≤ c.room

-- what is kept, where the state after them is known
pub reserved_told : (c : Core) (more : List Record) (b : Account) {places remaining : Places} {g : Graph} {k : ℕ} {state : State} → IsTold (log_start c) c.born places remaining g k (all_records c ++ more) (words_with c more) state
    → reserved (undo_behind c (all_records c ++ more)) b ≡ reserved (undo_of state) b
reserved_told c more b told = ap (λ o. reserved (undo_with o) b) told.reached

-- A transaction begins.

begin_writing : (a : Account) (c : Core) (n : ℕ) (h : Agrees a c) → h.behind.next ≤ n → 1 ≤ n
    → IsWriting c.places c.remaining (view c.g0 a (record { number = n; calls = [] })) n [] (all_words c) h.behind
begin_writing a c n h above some =
    let whole = completed_places h.behind c.places c.remaining (all_words c) in
    let now = completed h.behind c.places c.remaining (all_words c) in
    let later = future h.behind (all_words c) c.remaining in
    let none = none_yet h.behind n (told_sound h.told) above in
    let nothing : undo_of h.behind n ≡ [] = ap (λ o. unwrap_or o []) none in
    let all = sym (others_all h.behind n now none) in
    let seen = subst (λ ws. StandsCommitted whole (serial c.g0 a.sealed) ws h.behind.base (h.behind.used + owed h.behind)) all h.told.stands in
    let old = all_front (λ p. IsOld h.behind.next p.0) c.places later h.told.old in
    record {
      stands = committed_stands seen n 0;
      made = begin_made_next c.places (serial c.g0 a.sealed) h.behind.next n old.0 above some;
      apart = λ k. none_left h.behind (all_words c) c.remaining (made_by n k) (old_apart h.behind.next later n k old.1 above some);
      written = subst (AreWritten whole (serial c.g0 a.sealed)) (sym nothing) (begin_written seen);
      fields = subst (AreOfFields c.places (serial c.g0 a.sealed)) (sym nothing) tt;
      locked = subst (AreLockedWrites c.places []) (sym nothing) tt;
      unlocked = tt;
      handles = none_at_hand c.places n 0 64;
    }

numbered_on : (n m : ℕ) → n ≤ m → (o : Option Transaction) → IsNumbered n o → IsNumbered m o
numbered_on n m le None is = tt
numbered_on n m le (Some t) is = (is.0, omega (arith, is.1))

-- a transaction begins
pub begin_agrees : (a : Account) (c : Core) (s : ℕ) → Agrees a c → IsSession s → a.active s ≡ None → c.first + a.begun ≢ no_number
    → HasRoom c [] (account_after a (record { event = Begin s; reply = Begun (c.first + a.begun) }))
    → Agrees (account_after a (record { event = Begin s; reply = Begun (c.first + a.begun) })) (record c { pending = c.pending ++ [] })
begin_agrees a c s h session none fits room =
    let bound = h.next_fits in
    let some = h.in_range.some_first in
    let known = h.next_known in
    let n = c.first + a.begun in
    let next = c.first + (a.begun + 1) in
    let x : Option Transaction = Some (record { number = n; calls = [] }) in
    let b : Account = account_after a (record { event = Begin s; reply = Begun n }) in
    let own = begin_writing a c n h (omega arith) (omega arith) in
    let kept = reserved_told c [] b (as_told a c h) in
    let P : ℕ → Option Transaction → Type 0 = λ r o. IsWriter c.places c.remaining c.g0 b o (all_words c) h.behind in
    goes_on a c b [] c.places c.remaining h (record {
      unfailed = h.unfailed;
      certain = h.certain;
      acknowledged = refl;
      in_sessions = sessions_with a s x (λ t is. session) h.in_sessions;
      next_fits = omega arith;
      numbered = each_session (λ r o. IsNumbered next o) a.active s x (omega arith, omega arith) (λ r other. numbered_on n next (omega arith) (a.active r) (h.numbered r));
      later = [];
      sealed = sym (append-nil a.sealed);
      behind = h.behind;
      told = as_told a c h;
      next_known = omega arith;
      losers = λ q us is. begun_actives a b s x none refl q (h.losers q us is);
      writers = each_session P a.active s x own (λ q other. h.writers q);
      room = omega arith;
    })

-- Calls.

-- a call that appends no record, where what its transaction sees stands after it
pub quiet_goes : (a : Account) (c : Core) (s : ℕ) (t : Transaction) (event : Event) → (h : Agrees a c) → a.active s ≡ Some t
    → IsWriting c.places c.remaining (call (view c.g0 a t) t.number event).view t.number (locks_of (serial c.g0 a.sealed) (after_call t event)) (all_words c) h.behind
    → Agrees (called a s event) (record c { pending = c.pending ++ [] })
quiet_goes a c s t event h e writes =
    let now = all_words c in
    let b = called a s event in
    let P : ℕ → Option Transaction → Type 0 = λ r o. IsWriter c.places c.remaining c.g0 b o now h.behind in
    let Q : View → Type 0 = λ v. IsWriting c.places c.remaining v t.number (locks_of (serial c.g0 a.sealed) (after_call t event)) now h.behind in
    let own = subst (λ o. P s (with_call o event)) (sym e) (subst Q (sym (run-append (serial c.g0 a.sealed) t event)) writes) in
    let nothing = need_nothing c.pending in
    let kept = called_reserved (undo_of h.behind) a s event in
    let room = h.room in
    goes_on a c b [] c.places c.remaining h (record {
      unfailed = h.unfailed;
      certain = h.certain;
      acknowledged = refl;
      in_sessions = called_sessions a s event h.in_sessions;
      next_fits = h.next_fits;
      numbered = called_numbered a s event (c.first + a.begun) h.numbered;
      later = [];
      sealed = sym (append-nil a.sealed);
      behind = h.behind;
      told = as_told a c h;
      next_known = h.next_known;
      losers = λ q us is. called_actives a s event q (h.losers q us is);
      writers = each_session P a.active s (with_call (a.active s) event) own (λ q other. h.writers q);
      room = omega arith;
    })

-- with one more call the objects that were written are still held
pub locked_on : (places : Places) (g : Graph) (t : Transaction) (event : Event) (undo : List UndoEntry) → AreLockedWrites places (locks_of g t) undo → AreLockedWrites places (locks_of g (after_call t event)) undo
locked_on places g t event undo all =
    let more = option_to_list (lock_of (run g t).registers event) in
    subst (λ ls. AreLockedWrites places ls undo) (sym (locks_of_calls-append (fresh_view g) t.number t.calls event))
    (AllByRecursion-map (IsLockedWrite places (locks_of g t)) (IsLockedWrite places (locks_of g t ++ more)) undo
    (λ u is. record { id = is.id; object = is.object; lock = Contains-append_left (locks_of g t) more (is.id, Exclusive) is.lock }) all)

quiet_writing : (places remaining : Places) (g : Graph) (t : Transaction) (event : Event) (now : List ℕ) (state : State) → AreHeapWords state places remaining now → IsQuiet (run g t) t.number event
    → ReadsVisible places t.number (run g t).made (run g t) event → IsWriting places remaining (run g t) t.number (locks_of g t) now state
    → IsWriting places remaining (call (run g t) t.number event).view t.number (locks_of g (after_call t event)) now state
quiet_writing places remaining g t event now state heap quiet reads w =
    let v = run g t in
    let n = t.number in
    let all = completed_places state places remaining now in
    let seen = others_taken_back state n (completed state places remaining now) in
    let graph = sym quiet.graph in
    let made = sym quiet.made in
    let handles = call_at_hand places n v.made v (ap is_some (rooted w heap)) w.handles event reads quiet.made in
    record {
      stands = subst (λ m. Stands n m all (call v n event).view.graph seen state.base (state.used + owed state)) made
          (subst (λ k. Stands n v.made all k seen state.base (state.used + owed state)) graph w.stands);
      made = subst (λ m. HasMade places (call v n event).view.graph n m) made (subst (λ k. HasMade places k n v.made) graph w.made);
      apart = w.apart;
      written = subst (λ k. AreWritten all k (undo_of state n)) graph w.written;
      fields = subst (λ k. AreOfFields places k (undo_of state n)) graph w.fields;
      locked = locked_on places g t event (undo_of state n) w.locked;
      unlocked = unlocked_on places remaining g t event now state w;
      handles = subst (λ m. AllByRecursion (HoldsAtHand places n m) (call v n event).view.registers) made handles;
    }

-- a call that leaves the graph as it is
pub quiet_agrees : (a : Account) (c : Core) (s : ℕ) (t : Transaction) (event : Event) → Agrees a c → a.active s ≡ Some t → IsQuiet (view c.g0 a t) t.number event
    → ReadsVisible c.places t.number (view c.g0 a t).made (view c.g0 a t) event → Agrees (called a s event) (record c { pending = c.pending ++ [] })
quiet_agrees a c s t event h e quiet reads =
    quiet_goes a c s t event h e (quiet_writing c.places c.remaining (serial c.g0 a.sealed) t event (all_words c) h.behind h.told.heap quiet reads (writing_of a c s t e h))

-- a call that makes an object
pub new_agrees : (a : Account) (c : Core) (s : ℕ) (t : Transaction) (i len : ℕ) → Agrees a c → a.active s ≡ Some t → len ≤ 510
    → area_used (view c.g0 a t).graph t.number (view c.g0 a t).made + 2 + len ≤ 4096
    → Agrees (called a s (New s i len)) (record c { pending = c.pending ++ [] })
new_agrees a c s t i len h e small few =
    let v = view c.g0 a t in
    let w = writing_of a c s t e h in
    let id : Id = record { t = t.number; k = v.made + 1 } in
    quiet_goes a c s t (New s i len) h e (record {
      stands = new_stands w.stands (whole_made w) len;
      made = new_made w.made len small few;
      apart = w.apart;
      written = new_written (whole_made w) (undo_of h.behind t.number) w.written len;
      fields = of_fields_kept c.places v.graph (call v t.number (New s i len)).view.graph (undo_of h.behind t.number)
          (λ q at is. ap (λ o. length (unwrap_or o [])) (new_kept w.made len q at is)) w.fields;
      locked = locked_on c.places (serial c.g0 a.sealed) t (New s i len) (undo_of h.behind t.number) w.locked;
      unlocked = unlocked_on c.places c.remaining (serial c.g0 a.sealed) t (New s i len) (all_words c) h.behind w;
      handles = AllByRecursion-set (HoldsAtHand c.places t.number (v.made + 1)) v.registers i (Some id)
          (more_handles c.places t.number v.made (v.made + 1) v.registers (omega arith) w.handles)
          (inr (record { maker = refl; first = omega arith; last = omega arith }));
    })
