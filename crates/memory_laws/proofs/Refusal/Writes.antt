-- Memory refuses the calls that write as the core does.
use Rattle.std.proofs.Common.{◌≡◌, ℕ, Bool, true, false, cond, length, Option, None, Some, refl, sym, ap, ◌∙◌}
use Rattle.std.specs.Option.{option_map}
use Rattle.std.specs.Prelude.{nat_le, Result}
use Rattle.std.proofs.lemmas.Bool.{leb-false}
use Rattle.graph_model.specs.declared.event.Event.TheVariants.{Put, Clear, Link}
use Rattle.graph_model.specs.declared.event.Event.{Event}
use Rattle.graph_model.specs.declared.id.Id.{Id}
use Rattle.graph_model.specs.declared.reply.Refusal.TheVariants.{Range, BadField}
use Rattle.graph_model.specs.declared.reply.Refusal.{Refusal}
use Rattle.graph_model.specs.declared.val.Val.TheVariants.{Null, Int}
use Rattle.graph_model.specs.declared.val.Val.{Val}
use Rattle.graph_model.specs.Graph.{fields}
use Rattle.graph_model.specs.History.{Account, account, session_of}
use Rattle.graph_model.specs.Locking.{busy_holder, lock_of, lock_on, Lock, Exclusive}
use Rattle.graph_model.specs.Plain as plain
use Rattle.graph_model.specs.Plain.{view, no_int, call_refusal, first_of_two, busy_with, call_conflict}
use Rattle.graph_model.specs.Transaction.{Transaction, IsCall, held, reference_to}
use Rattle.object_locks.specs.declared.holding.Mode.TheVariants as locked
use Rattle.txn_table.specs.declared.place.Place.{Place}
use Rattle.txn_table.specs.Table.{TransactionState}
use Rattle.heap_model.specs.Core.{Core, ground, undo_with, view_records, call_records, call_barrier, barrier_records, log_refusal, core_refusal}
use Rattle.core_laws.specs.Valid.{IsValid, RunsLocked}
use Rattle.heap_memory.specs.Memory.{Memory, held_or, held_place}
use Rattle.heap_memory.specs.Refusals.{and_then, range_refusal, write_room, write_refusal_of, put_refusal, clear_refusal, link_refusal, lock_refusal}
use Rattle.memory_laws.specs.CoreMemory.{place_in, kept, kept_of, IsMemory}
use Rattle.memory_laws.proofs.Behind.Barrier.{barrier_same}
use Rattle.memory_laws.proofs.Behind.Passed.{barrier_passed}
use Rattle.memory_laws.proofs.Behind.Sessions.{core_behind}
use Rattle.memory_laws.proofs.Kept.Parts.{works_of}
use Rattle.memory_laws.proofs.Refusal.Handles.{is_held, field_held, lock_held}
use Rattle.memory_laws.proofs.Refusal.Room.{second_same, first_assoc, first_if, old_refused}
use Rattle.memory_laws.proofs.Refusal.LogRoom.{room_same}
use Rattle.memory_laws.proofs.Step.Appended.{own_at}

passed : (b : Bool) (why : Refusal) → cond b (Some why) None ≡ None → b ≡ false
passed true why e = cc
passed false why e = refl

module _ (m : Memory) (c : Core) (valid : IsValid c) (runs : RunsLocked c.g0 c.first c.history) (is : IsMemory m (account c.history) c) (s : ℕ) where
  -- what the history says
  abbrev a : Account
  a = account c.history

  -- what is kept of a transaction
  abbrev transaction : Transaction → TransactionState
  transaction t = kept c.places (view c.g0 a t) t.number (undo_with (ground c).state t.number)

  -- the place of an object as a transaction sees it
  abbrev place : Transaction → Id → Place
  place t id = place_in c.places (view c.g0 a t).graph id

  -- what memory says of a write into the object at a place
  abbrev writes : Option Transaction → Place → ℕ → Option Refusal
  writes o p i = write_refusal_of m (kept_of (ground c) c.g0 a o) p i

  -- why a core refuses a write of a transaction, for what it asks for, for what others hold, or for the log
  abbrev refused : Option Transaction → Event → Option Refusal
  refused o event = first_of_two (first_of_two (call_refusal c.g0 a o event) (call_conflict c.g0 a o event)) (log_refusal c event)

  -- the core after an event's barrier
  abbrev behind : Event → Core
  behind event = core_behind c (barrier_records c event)

  -- the log has a core's room for a write into a field
  room_held : (t : Transaction) (event : Event) (h i : ℕ) (x : Val) (id : Id) → a.active s ≡ Some t → IsCall event → session_of event ≡ s
      → barrier_records c event ≡ call_barrier (ground c) c.g0 a (a.active s) h i → own_at (behind event) event ≡ view_records (behind event).places t.number (view c.g0 a t) h i x
      → held (view c.g0 a t).registers h ≡ Some id → plain.field_refusal (view c.g0 a t).graph (Some id) i ≡ None → log_refusal c event ≡ write_room m (place t id) i
  room_held t event h i x id e call one barrier records holds granted =
      let n = length (fields (view c.g0 a t).graph id) in
      room_same m c valid is runs s t e event call one h i x id holds (leb-false n i (passed (nat_le n i) BadField granted)) (barrier_passed a c valid event) records
      (barrier_same m c valid (works_of m a c is) s t h i id e holds ∙ sym barrier)

  -- a write into an object that a handle holds
  write_held : (t : Transaction) (event : Event) (h i : ℕ) (x : Val) (id : Id) → a.active s ≡ Some t → IsCall event → session_of event ≡ s
      → barrier_records c event ≡ call_barrier (ground c) c.g0 a (a.active s) h i → own_at (behind event) event ≡ view_records (behind event).places t.number (view c.g0 a t) h i x
      → held (view c.g0 a t).registers h ≡ Some id → lock_of (view c.g0 a t).registers event ≡ lock_on (view c.g0 a t).registers h Exclusive
      → first_of_two (first_of_two (plain.field_refusal (view c.g0 a t).graph (Some id) i) (call_conflict c.g0 a (Some t) event)) (log_refusal c event) ≡ writes (Some t) (place t id) i
  write_held t event h i x id e call one barrier records holds lock =
      let field = plain.field_refusal (view c.g0 a t).graph (Some id) i in
      let busy = call_conflict c.g0 a (Some t) event in
      let log = log_refusal c event in
      let others = lock_refusal m.locks (transaction t) locked.Exclusive (place t id) in
      let room = write_room m (place t id) i in
      let same : busy ≡ others = ap (λ (l : Option Lock). busy_with (busy_holder c.g0 a t.number l)) lock ∙ lock_held m c valid runs is s t h id locked.Exclusive e holds in
      first_assoc field busy log
      ∙ second_same field (first_of_two busy log) (first_of_two others room) (λ granted.
      ap (λ (o : Option Refusal). first_of_two o log) same ∙ ap (first_of_two others) (room_held t event h i x id e call one barrier records holds granted))
      ∙ ap (λ (o : Option Refusal). first_of_two o (first_of_two others room)) (field_held m c valid runs is s t h i id e holds)

  -- A number.
  put_held : (t : Transaction) (h i n : ℕ) (o : Option Id) → a.active s ≡ Some t → held (view c.g0 a t).registers h ≡ o
      → first_of_two (first_of_two (plain.put_refusal (view c.g0 a t).graph o i n) (call_conflict c.g0 a (Some t) (Put s h i n))) (log_refusal c (Put s h i n))
      ≡ and_then (held_or (option_map (place t) o)) (λ p. first_of_two (range_refusal n) (writes (Some t) p i))
  put_held t h i n None e holds = refl
  put_held t h i n (Some id) e holds =
      let event : Event = Put s h i n in
      let field = plain.field_refusal (view c.g0 a t).graph (Some id) i in
      let busy = call_conflict c.g0 a (Some t) event in
      let log = log_refusal c event in
      ap (λ (o : Option Refusal). first_of_two (first_of_two o busy) log) (first_if (nat_le no_int n) Range field)
      ∙ ap (λ (o : Option Refusal). first_of_two o log) (first_assoc (range_refusal n) field busy)
      ∙ first_assoc (range_refusal n) (first_of_two field busy) log
      ∙ second_same (range_refusal n) (first_of_two (first_of_two field busy) log) (writes (Some t) (place t id) i)
      (λ none. write_held t event h i (Int n) id e tt refl refl (ap (λ (o : Option Transaction). call_records (ground (behind event)) c.g0 a o event) e) holds refl)

  put_cases : (o : Option Transaction) (h i n : ℕ) → a.active s ≡ o → refused o (Put s h i n) ≡ and_then (held_place (kept_of (ground c) c.g0 a o) h) (λ p. first_of_two (range_refusal n) (writes o p i))
  put_cases None h i n e = refl
  put_cases (Some t) h i n e =
      put_held t h i n (held (view c.g0 a t).registers h) e refl
      ∙ ap (λ (r : Result Place Refusal). and_then r (λ p. first_of_two (range_refusal n) (writes (Some t) p i))) (is_held m c valid runs is s t h)

  -- memory refuses to write a number as the core does
  pub put_refused : (h i v : ℕ) → core_refusal c (Put s h i v) ≡ put_refusal m s h i v
  put_refused h i v =
      old_refused c (Put s h i v) valid tt refl
      ∙ put_cases (a.active s) h i v refl
      ∙ ap (λ (o : Option TransactionState). and_then (held_place o h) (λ p. first_of_two (range_refusal v) (write_refusal_of m o p i))) (sym (is.sessions.transactions s))

  -- Null.
  clear_held : (t : Transaction) (h i : ℕ) (o : Option Id) → a.active s ≡ Some t → held (view c.g0 a t).registers h ≡ o
      → first_of_two (first_of_two (plain.field_refusal (view c.g0 a t).graph o i) (call_conflict c.g0 a (Some t) (Clear s h i))) (log_refusal c (Clear s h i))
      ≡ and_then (held_or (option_map (place t) o)) (λ p. writes (Some t) p i)
  clear_held t h i None e holds = refl
  clear_held t h i (Some id) e holds =
      let event : Event = Clear s h i in
      write_held t event h i Null id e tt refl refl (ap (λ (o : Option Transaction). call_records (ground (behind event)) c.g0 a o event) e) holds refl

  clear_cases : (o : Option Transaction) (h i : ℕ) → a.active s ≡ o → refused o (Clear s h i) ≡ and_then (held_place (kept_of (ground c) c.g0 a o) h) (λ p. writes o p i)
  clear_cases None h i e = refl
  clear_cases (Some t) h i e =
      clear_held t h i (held (view c.g0 a t).registers h) e refl ∙ ap (λ (r : Result Place Refusal). and_then r (λ p. writes (Some t) p i)) (is_held m c valid runs is s t h)

  -- to write null
  pub clear_refused : (h i : ℕ) → core_refusal c (Clear s h i) ≡ clear_refusal m s h i
  clear_refused h i =
      old_refused c (Clear s h i) valid tt refl
      ∙ clear_cases (a.active s) h i refl
      ∙ ap (λ (o : Option TransactionState). and_then (held_place o h) (λ p. write_refusal_of m o p i)) (sym (is.sessions.transactions s))

  -- A reference.
  link_held : (t : Transaction) (h i h2 : ℕ) (o p : Option Id) → a.active s ≡ Some t → held (view c.g0 a t).registers h ≡ o
      → first_of_two (first_of_two (plain.link_refusal (view c.g0 a t).graph o i p) (call_conflict c.g0 a (Some t) (Link s h i h2))) (log_refusal c (Link s h i h2))
      ≡ and_then (held_or (option_map (place t) o)) (λ x. and_then (held_or (option_map (place t) p)) (λ y. writes (Some t) x i))
  link_held t h i h2 None None e holds = refl
  link_held t h i h2 None (Some other) e holds = refl
  link_held t h i h2 (Some id) None e holds = refl
  link_held t h i h2 (Some id) (Some other) e holds =
      let event : Event = Link s h i h2 in
      let v = view c.g0 a t in
      write_held t event h i (reference_to (held v.registers h2)) id e tt refl refl (ap (λ (o : Option Transaction). call_records (ground (behind event)) c.g0 a o event) e) holds refl

  link_cases : (o : Option Transaction) (h i h2 : ℕ) → a.active s ≡ o
      → refused o (Link s h i h2) ≡ and_then (held_place (kept_of (ground c) c.g0 a o) h) (λ x. and_then (held_place (kept_of (ground c) c.g0 a o) h2) (λ y. writes o x i))
  link_cases None h i h2 e = refl
  link_cases (Some t) h i h2 e =
      let v = view c.g0 a t in
      link_held t h i h2 (held v.registers h) (held v.registers h2) e refl
      ∙ ap (λ (r : Result Place Refusal). and_then r (λ x. and_then (held_or (option_map (place t) (held v.registers h2))) (λ y. writes (Some t) x i))) (is_held m c valid runs is s t h)
      ∙ ap (λ (r : Result Place Refusal). and_then (held_place (Some (transaction t)) h) (λ x. and_then r (λ y. writes (Some t) x i))) (is_held m c valid runs is s t h2)

  -- and to write a reference
  pub link_refused : (h i h2 : ℕ) → core_refusal c (Link s h i h2) ≡ link_refusal m s h i h2
  link_refused h i h2 =
      old_refused c (Link s h i h2) valid tt refl
      ∙ link_cases (a.active s) h i h2 refl
      ∙ ap (λ (o : Option TransactionState). and_then (held_place o h) (λ x. and_then (held_place o h2) (λ y. write_refusal_of m o x i))) (sym (is.sessions.transactions s))
