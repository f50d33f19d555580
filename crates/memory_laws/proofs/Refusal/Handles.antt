-- Memory refuses the calls that write nothing as the core does.
use Rattle.std.proofs.Common.{◌≡◌, ℕ, ◌+◌, Bool, true, false, cond, List, [], ◌++◌, length, Option, None, Some, refl, sym, ap, ◌∙◌, subst}
use Rattle.std.specs.Option.{option_map}
use Rattle.std.specs.Prelude.{nat_lt, Result}
use Rattle.std.proofs.lemmas.List.{append-nil}
use Rattle.graph_model.specs.declared.event.Event.TheVariants.{Root, New, Drop, Get, Same, Len}
use Rattle.graph_model.specs.declared.event.Event.{Event}
use Rattle.graph_model.specs.declared.id.Id.{Id}
use Rattle.graph_model.specs.declared.reply.Refusal.TheVariants.{BadHandle, Range, VolatileFull}
use Rattle.graph_model.specs.declared.reply.Refusal.{Refusal}
use Rattle.graph_model.specs.History.{Account, account}
use Rattle.graph_model.specs.Locking.{busy_holder, lock_on, in_mode}
use Rattle.graph_model.specs.Plain as plain
use Rattle.graph_model.specs.Plain.{view, most_fields, call_refusal, first_of_two, busy_with, call_conflict}
use Rattle.graph_model.specs.Transaction.{Transaction, held, serial}
use Rattle.log_records.specs.declared.Record.{Record}
use Rattle.object_locks.specs.declared.holding.Mode as table
use Rattle.object_locks.specs.declared.holding.Mode.TheVariants as locked
use Rattle.txn_table.specs.declared.place.Place.{Place}
use Rattle.txn_table.specs.Table.{TransactionState}
use Rattle.graph_words.proofs.Area.Words.{length-area_words}
use Rattle.graph_words.specs.Places.{place_of, IsAtHand}
use Rattle.heap_model.specs.Core.{Core, ground, undo_with, area_in, area_refusal, barrier_records, log_refusal, own_records, room_refusal, core_refusal}
use Rattle.heap_model.proofs.Step.Handles.{held_at_hand}
use Rattle.core_laws.proofs.Step.Goes.{writing_of}
use Rattle.core_laws.proofs.Step.Forms.{quiet_records}
use Rattle.core_laws.specs.Valid.{IsValid, RunsLocked}
use Rattle.heap_memory.specs.Memory.{Memory, own, fields_at, held_or, held_place}
use Rattle.heap_memory.specs.Refusals.{handle_refusal, and_then, field_refusal, read_refusal_of, records_room, get_refusal, same_refusal, len_refusal, new_refusal, lock_refusal}
use Rattle.memory_laws.specs.CoreMemory.{place_in, kept_of, IsMemory, kept, mode_of}
use Rattle.heap_memory.specs.Collecting.{place_barrier}
use Rattle.memory_laws.proofs.Behind.Barrier.{barrier_same}
use Rattle.memory_laws.proofs.Behind.Passed.{HavePassed, barrier_passed}
use Rattle.memory_laws.proofs.Kept.Held.{held_place-kept, length-fields_at_hand}
use Rattle.memory_laws.proofs.Kept.Parts.{Works, works_of}
use Rattle.memory_laws.proofs.Refusal.Locks.{lock_same}
use Rattle.memory_laws.proofs.Refusal.LogRoom.{scan_room}
use Rattle.memory_laws.proofs.Refusal.Room as room
use Rattle.memory_laws.proofs.Refusal.Room.{call_keeps, first_none, first_if, old_refused, quiet_refused, first_assoc}

-- what is required of what one handle holds, or two
one_held : (f : Id → Place) (o : Option Id) → plain.len_refusal o ≡ and_then (held_or (option_map f o)) (λ p. None)
one_held f None = refl
one_held f (Some id) = refl

two_held : (f : Id → Place) (o p : Option Id) → plain.same_refusal o p ≡ and_then (held_or (option_map f o)) (λ x. and_then (held_or (option_map f p)) (λ y. None))
two_held f None p = refl
two_held f (Some id) None = refl
two_held f (Some id) (Some other) = refl

-- records after which there are no more
append-nil_left : (rs more : List Record) → more ≡ [] → rs ++ more ≡ rs
append-nil_left rs more none = ap (λ (l : List Record). rs ++ l) none ∙ append-nil rs

new_parts : (b d : Bool) (x y : Refusal) (o : Option Refusal) → first_of_two (cond b (Some x) (cond d (Some y) None)) o ≡ first_of_two (cond b (Some x) None) (first_of_two (cond d (Some y) None) o)
new_parts true d x y o = refl
new_parts false true x y o = refl
new_parts false false x y o = refl

module _ (m : Memory) (c : Core) (valid : IsValid c) (runs : RunsLocked c.g0 c.first c.history) (is : IsMemory m (account c.history) c) (s : ℕ) where
  -- what the history says
  abbrev a : Account
  a = account c.history

  -- the words and the sessions are the core's
  abbrev works : Works m a c
  works = works_of m a c is

  -- what is kept of a transaction
  abbrev mine : Option Transaction → Option TransactionState
  mine o = kept_of (ground c) c.g0 a o

  -- why a call of a transaction is refused, for what it sees or for what others hold
  abbrev asked : Option Transaction → Event → Option Refusal
  asked o event = first_of_two (call_refusal c.g0 a o event) (call_conflict c.g0 a o event)

  -- the place of what a core's handle holds
  abbrev place_held : Transaction → ℕ → Option Place
  place_held t h = option_map (place_in c.places (view c.g0 a t).graph) (held (view c.g0 a t).registers h)

  -- is the place that memory's handle holds
  pub is_held : (t : Transaction) (h : ℕ) → held_or (place_held t h) ≡ held_place (mine (Some t)) h
  is_held t h = sym (held_place-kept c.places (serial c.g0 a.sealed) t (undo_with (ground c).state t.number) h)

  root_cases : (o : Option Transaction) (h : ℕ) → asked o (Root s h) ≡ handle_refusal (mine o) h
  root_cases None h = refl
  root_cases (Some t) h = first_none (plain.handle_refusal h)

  -- memory refuses to let a handle hold the root as the core does
  pub root_refused : (h : ℕ) → core_refusal c (Root s h) ≡ handle_refusal (own m s) h
  root_refused h = quiet_refused c (Root s h) valid tt refl refl refl ∙ root_cases (a.active s) h ∙ ap (λ (o : Option TransactionState). handle_refusal o h) (sym (is.sessions.transactions s))

  drop_cases : (o : Option Transaction) (h : ℕ) → asked o (Drop s h) ≡ handle_refusal (mine o) h
  drop_cases None h = refl
  drop_cases (Some t) h = first_none (plain.handle_refusal h)

  -- to let it hold nothing
  pub drop_refused : (h : ℕ) → core_refusal c (Drop s h) ≡ handle_refusal (own m s) h
  drop_refused h = quiet_refused c (Drop s h) valid tt refl refl refl ∙ drop_cases (a.active s) h ∙ ap (λ (o : Option TransactionState). handle_refusal o h) (sym (is.sessions.transactions s))

  len_cases : (o : Option Transaction) (h : ℕ) → asked o (Len s h) ≡ and_then (held_place (mine o) h) (λ p. None)
  len_cases None h = refl
  len_cases (Some t) h =
      first_none (plain.len_refusal (held (view c.g0 a t).registers h))
      ∙ one_held (place_in c.places (view c.g0 a t).graph) (held (view c.g0 a t).registers h)
      ∙ ap (λ (r : Result Place Refusal). and_then r (λ p. None)) (is_held t h)

  -- to return an object's length
  pub len_refused : (h : ℕ) → core_refusal c (Len s h) ≡ len_refusal m s h
  len_refused h = quiet_refused c (Len s h) valid tt refl refl refl ∙ len_cases (a.active s) h ∙ ap (λ (o : Option TransactionState). and_then (held_place o h) (λ p. None)) (sym (is.sessions.transactions s))

  same_cases : (o : Option Transaction) (h h2 : ℕ) → asked o (Same s h h2) ≡ and_then (held_place (mine o) h) (λ p. and_then (held_place (mine o) h2) (λ q. None))
  same_cases None h h2 = refl
  same_cases (Some t) h h2 =
      first_none (plain.same_refusal (held (view c.g0 a t).registers h) (held (view c.g0 a t).registers h2))
      ∙ two_held (place_in c.places (view c.g0 a t).graph) (held (view c.g0 a t).registers h) (held (view c.g0 a t).registers h2)
      ∙ ap (λ (r : Result Place Refusal). and_then r (λ p. and_then (held_or (place_held t h2)) (λ q. None))) (is_held t h)
      ∙ ap (λ (r : Result Place Refusal). and_then (held_place (mine (Some t)) h) (λ p. and_then r (λ q. None))) (is_held t h2)

  -- to compare what two handles hold
  pub same_refused : (h h2 : ℕ) → core_refusal c (Same s h h2) ≡ same_refusal m s h h2
  same_refused h h2 =
      quiet_refused c (Same s h h2) valid tt refl refl refl ∙ same_cases (a.active s) h h2
      ∙ ap (λ (o : Option TransactionState). and_then (held_place o h) (λ p. and_then (held_place o h2) (λ q. None))) (sym (is.sessions.transactions s))

  -- what a handle holds is at hand
  pub held_there : (t : Transaction) (h : ℕ) (id : Id) → a.active s ≡ Some t → held (view c.g0 a t).registers h ≡ Some id → IsAtHand c.places t.number (view c.g0 a t).made id
  held_there t h id e holds =
      let v = view c.g0 a t in
      held_at_hand c.places t.number v.made v.registers h id (writing_of a c s t e valid).handles holds

  -- An object that a handle holds has as many fields in memory as in the graph, so that memory refuses a field as a core does.
  pub field_held : (t : Transaction) (h i : ℕ) (id : Id) → a.active s ≡ Some t → held (view c.g0 a t).registers h ≡ Some id
      → plain.field_refusal (view c.g0 a t).graph (Some id) i ≡ field_refusal (length (fields_at m.words (area_in c.places (view c.g0 a t) t.number) (place_in c.places (view c.g0 a t).graph id))) i
  field_held t h i id e holds = ap (λ (n : ℕ). field_refusal n i) (sym (length-fields_at_hand m c valid runs works s t e id (held_there t h id e holds)))

  -- a lock on what a handle holds is refused as a core refuses it
  pub lock_held : (t : Transaction) (h : ℕ) (id : Id) (mode : table.Mode) → a.active s ≡ Some t → held (view c.g0 a t).registers h ≡ Some id
      → busy_with (busy_holder c.g0 a t.number (lock_on (view c.g0 a t).registers h (mode_of mode)))
      ≡ lock_refusal m.locks (kept c.places (view c.g0 a t) t.number (undo_with (ground c).state t.number)) mode (place_in c.places (view c.g0 a t).graph id)
  lock_held t h id mode e holds =
      ap (λ (o : Option Id). busy_with (busy_holder c.g0 a t.number (option_map (in_mode (mode_of mode)) o))) holds
      ∙ sym (lock_same m c valid runs works s t e id mode (undo_with (ground c).state t.number) (held_there t h id e holds))

  -- why a core refuses a get, for what it asks for, for what others hold, or for the log
  abbrev read_asked : Option Transaction → Event → Option Refusal
  read_asked o event = first_of_two (asked o event) (log_refusal c event)

  read_held : (t : Transaction) (h i h2 : ℕ) (o : Option Id) → a.active s ≡ Some t → held (view c.g0 a t).registers h ≡ o
      → first_of_two (first_of_two (plain.field_refusal (view c.g0 a t).graph o i) (call_conflict c.g0 a (Some t) (Get s h i h2))) (log_refusal c (Get s h i h2))
      ≡ and_then (held_or (option_map (place_in c.places (view c.g0 a t).graph) o)) (λ p. read_refusal_of m (mine (Some t)) p i)
  read_held t h i h2 None e holds = refl
  read_held t h i h2 (Some id) e holds =
      let event : Event = Get s h i h2 in
      let v = view c.g0 a t in
      let place = place_in c.places v.graph id in
      let field = plain.field_refusal v.graph (Some id) i in
      let busy = call_conflict c.g0 a (Some t) event in
      let log = log_refusal c event in
      let scans = barrier_same m c valid works s t h i id e holds in
      let fits : log ≡ records_room m (place_barrier m place i) =
      scan_room m c valid is event (place_barrier m place i) (call_keeps c event tt) (subst (HavePassed c valid.behind) (sym scans) (barrier_passed a c valid event))
      (append-nil_left (barrier_records c event) (own_records c event) (quiet_records c event tt refl) ∙ sym scans) in
      first_assoc field busy log
      ∙ ap (λ (o : Option Refusal). first_of_two o (first_of_two busy log)) (field_held t h i id e holds)
      ∙ ap (λ (o : Option Refusal). first_of_two (field_refusal (length (fields_at m.words (area_in c.places v t.number) place)) i) (first_of_two o log)) (lock_held t h id locked.Shared e holds)
      ∙ ap (λ (o : Option Refusal). first_of_two (field_refusal (length (fields_at m.words (area_in c.places v t.number) place)) i)
      (first_of_two (lock_refusal m.locks (kept c.places v t.number (undo_with (ground c).state t.number)) locked.Shared place) o)) fits

  get_cases : (o : Option Transaction) (h i h2 : ℕ) → a.active s ≡ o
      → read_asked o (Get s h i h2) ≡ first_of_two (handle_refusal (mine o) h2) (and_then (held_place (mine o) h) (λ p. read_refusal_of m (mine o) p i))
  get_cases None h i h2 e = refl
  get_cases (Some t) h i h2 e =
      let v = view c.g0 a t in
      let field = plain.field_refusal v.graph (held v.registers h) i in
      let busy = call_conflict c.g0 a (Some t) (Get s h i h2) in
      let log = log_refusal c (Get s h i h2) in
      let read = λ (p : Place). read_refusal_of m (mine (Some t)) p i in
      ap (λ (o : Option Refusal). first_of_two (first_of_two o busy) log) (first_if (nat_lt 63 h2) BadHandle field)
      ∙ ap (λ (o : Option Refusal). first_of_two o log) (first_assoc (handle_refusal (mine (Some t)) h2) field busy)
      ∙ first_assoc (handle_refusal (mine (Some t)) h2) (first_of_two field busy) log
      ∙ ap (first_of_two (handle_refusal (mine (Some t)) h2)) (read_held t h i h2 (held v.registers h) e refl ∙ ap (λ (r : Result Place Refusal). and_then r read) (is_held t h))

  -- to read a field
  pub get_refused : (h i h2 : ℕ) → core_refusal c (Get s h i h2) ≡ get_refusal m s h i h2
  get_refused h i h2 =
      old_refused c (Get s h i h2) valid tt refl ∙ get_cases (a.active s) h i h2 refl
      ∙ ap (λ (o : Option TransactionState). first_of_two (handle_refusal o h2) (and_then (held_place o h) (λ p. read_refusal_of m o p i))) (sym (is.sessions.transactions s))

  new_cases : (o : Option Transaction) (h len : ℕ) → first_of_two (asked o (New s h len)) (room_refusal (ground c) c.g0 a o (New s h len)) ≡ new_refusal (mine o) h len
  new_cases None h len = refl
  new_cases (Some t) h len =
      let v = view c.g0 a t in
      let words = area_refusal v t.number len in
      let first = λ (o : Option Refusal). first_of_two (handle_refusal (mine (Some t)) h) (first_of_two (cond (nat_lt most_fields len) (Some Range) None) o) in
      ap (λ (o : Option Refusal). first_of_two o words) (first_none (plain.new_refusal h len))
      ∙ new_parts (nat_lt 63 h) (nat_lt most_fields len) BadHandle Range words
      ∙ ap (λ (n : ℕ). first (cond (nat_lt 4096 (n + 2 + len)) (Some (VolatileFull n)) None)) (sym (length-area_words (place_of c.places v.graph) v.graph t.number v.made))

  -- and to make an object
  pub new_refused : (h len : ℕ) → core_refusal c (New s h len) ≡ new_refusal (own m s) h len
  new_refused h len =
      room.new_refused c (New s h len) valid tt refl refl
      ∙ new_cases (a.active s) h len
      ∙ ap (λ (o : Option TransactionState). new_refusal o h len) (sym (is.sessions.transactions s))
