-- A begin and an abort are answered as the core answers them, and leave memory as the core is then.
use Rattle.std.proofs.Common.{◌≡◌, ℕ, ◌+◌, zero, suc, false, List, [], ◌∷◌, ◌++◌, length, map, replicate, Option, Some, None, Result, Ok, Err, is_some, true, unwrap_or, refl, sym, ap, ◌∙◌, subst, arith}
use Rattle.std.specs.Prelude.{IfOk}
use Rattle.std.specs.Option.{option_map}
use Rattle.graph_model.specs.declared.id.Id.{Id}
use Rattle.graph_model.specs.declared.event.Event.TheVariants.{Begin, Abort}
use Rattle.graph_model.specs.declared.reply.Refusal.{Refusal}
use Rattle.graph_model.specs.declared.reply.Refusal.TheVariants.{AlreadyActive}
use Rattle.graph_model.specs.declared.reply.Reply.{Reply}
use Rattle.graph_model.specs.declared.reply.Reply.TheVariants.{Begun, Aborted, Refused}
use Rattle.graph_model.specs.Graph.{Graph}
use Rattle.graph_model.specs.Transaction.{Transaction, serial}
use Rattle.graph_model.specs.History.{Account, account, account_after}
use Rattle.graph_model.specs.Plain.{view, reply_of}
use Rattle.commit_order.proofs.OrderLaws.{two_phase_ordered}
use Rattle.log_records.specs.declared.Record.{Record}
use Rattle.log_machine.specs.Machine.{State, undo_of, with_entries, turned, abort_records}
use Rattle.object_locks.specs.Holdings.{without}
use Rattle.txn_table.specs.declared.place.Place.{Place}
use Rattle.txn_table.specs.Table.{TransactionState, new_transaction, transaction_of, with_begun, with_ended}
use Rattle.txn_table.proofs.TableLaws.{with_begun_same, with_begun_other, with_ended_same, with_ended_other}
use Rattle.heap_model.specs.Core.{Core, Ground, ground, all_records, all_words, next_number, core_refusal}
use Rattle.heap_model.proofs.Step.Goes.{told_sound}
use Rattle.core_laws.proofs.Sessions.Apart.{own_apart}
use Rattle.core_laws.proofs.Step.Goes.{numbered_as, places_still}
use Rattle.core_laws.proofs.Sessions.OtherWrites.{undo_other}
use Rattle.core_laws.proofs.Sessions.Actives.{each_session}
use Rattle.core_laws.proofs.Step.Told.{none_yet, abort_told}
use Rattle.core_laws.specs.Valid.{IsValid, RunsLocked}
use Rattle.heap_memory.specs.Memory.{Memory, own}
use Rattle.heap_memory.specs.Refusals.{begin_refusal, end_refusal}
use Rattle.heap_memory.specs.Leaves.{Leaves, IsAsItWas, Begins, Aborts}
use Rattle.memory_laws.specs.CoreMemory.{place_in, kept, kept_of, SessionsAgree, IsMemory}
use Rattle.memory_laws.proofs.Does.{Does}
use Rattle.memory_laws.proofs.Kept.Locks.{held_aborted, held_begun}
use Rattle.core_laws.proofs.Step.Events.{abort_is}
use Rattle.memory_laws.proofs.Step.Answered.{as_it_was, Goes, does}
use Rattle.memory_laws.proofs.Kept.Parts.{Works, turns_of, works_of}
use Rattle.memory_laws.proofs.Step.Appended.{LeavesOthers, mine, passes, stays, ground_in, reached_still, others_kept, appended_here}
use Rattle.memory_laws.proofs.Step.Held.{test_none}

-- empty handles hold nothing in memory
none_mapped : (f : Id → Place) (k : ℕ) → replicate k None ≡ map (option_map f) (replicate k None)
none_mapped f zero = refl
none_mapped f (suc k) = ap (λ (os : List (Option Place)). None ∷ os) (none_mapped f k)

-- where nothing is kept of a session there is no transaction
none_kept : (g : Ground) (g0 : Graph) (a : Account) (o : Option Transaction) (x : Option TransactionState) → x ≡ kept_of g g0 a o → is_some x ≡ false → o ≡ None
none_kept g g0 a None x same e = refl
none_kept g g0 a (Some t) x same e = let never : true ≡ false = sym (ap is_some same) ∙ e in cc never

module _ (m n : Memory) (c : Core) (valid : IsValid c) (runs : RunsLocked c.g0 c.first c.history) (is : IsMemory m (account c.history) c) (s : ℕ) where
  -- what the history says
  abbrev a : Account
  a = account c.history

  -- the state after all records
  abbrev behind : State
  behind = valid.behind

  -- the words and the sessions are the core's
  works : Works m a c
  works = works_of m a c is

  -- A begin.
  -- what the history says then
  abbrev begun : Account
  begun = account_after a (record { event = Begin s; reply = Begun (next_number c) })

  -- where memory has no transaction the core has none
  none_active : begin_refusal m s ≡ None → a.active s ≡ None
  none_active e = none_kept (ground c) c.g0 a (a.active s) (own m s) (is.sessions.transactions s) (test_none (is_some (own m s)) AlreadyActive _ e).0

  -- the transaction that begins has no writes that may be taken back
  nothing_written : undo_of behind (next_number c) ≡ []
  nothing_written = ap (λ o. unwrap_or o []) (none_yet behind (next_number c) (told_sound valid.told) valid.next_known)

  -- what is kept of it
  begun_kept : new_transaction m.table.next ≡ kept c.places (view c.g0 a (record { number = next_number c; calls = [] })) (next_number c) (undo_of behind (next_number c))
  begun_kept =
      let t = next_number c in
      let v = view c.g0 a (record { number = t; calls = [] }) in
      ap new_transaction is.sessions.next
      ∙ ap (λ (hs : List (Option Place)). record (new_transaction t) { handles = hs }) (none_mapped (place_in c.places v.graph) 64)
      ∙ ap (kept c.places v t) (sym nothing_written)

  -- a begin leaves memory as the core is then
  begun_goes : a.active s ≡ None → Begins m n s → Goes n c (Begin s)
  begun_goes none begins =
      let x : Option Transaction = Some (record { number = next_number c; calls = [] }) in
      let table = with_begun m.table s in
      let P : ℕ → Option Transaction → Type 0 = λ r o. transaction_of table r ≡ kept_of (ground_in c c.places behind) c.g0 a o in
      let there = with_begun_same m.table s ∙ ap (λ (y : TransactionState). Some y) begun_kept in
      let others = others_kept m n c valid works s table behind (with_begun_other m.table s) (λ r u other also. refl) in
      passes m n c valid is (Begin s) [] begins refl
      (subst (λ (d : Core). SessionsAgree n begun d) (sym (places_still c []))
      (appended_here m n c valid works begun [] table m.locks m.sealed behind (turns_of begins) (reached_still m n c valid works) refl refl (each_session P a.active s x there others)
      (held_begun c.g0 c.history m.locks c.places s (next_number c) none is.sessions.locks) (omega (arith, is.sessions.next)) is.sessions.sealed))

  -- a begin is answered as the core answers it, and the session has the next transaction then
  pub begin_does : core_refusal c (Begin s) ≡ begin_refusal m s → (reply : Reply) → reply ≡ reply_of (begin_refusal m s) (Begun m.table.next) → ((k : ℕ) → reply ≡ Begun k → Begins m n s)
      → ((why : Refusal) → reply ≡ Refused why → n ≡ m) → Does c (Begin s) reply n
  begin_does same reply replied begins stayed =
      does c (Begin s) (begin_refusal m s) (Begun m.table.next) reply n same replied (λ e. ap Begun (sym is.sessions.next))
      (λ e begun_it. begun_goes (none_active e) (begins m.table.next begun_it))
      (λ why e. stays m n c valid is (stayed why e))

  -- An abort.
  -- what the history says then
  abbrev aborted : Account
  aborted = account_after a (record { event = Abort s; reply = Aborted })

  -- the state after the records that take a transaction back
  abbrev ended : ℕ → State
  ended t = turned behind t (with_entries behind.undo t []) 0

  -- the others keep their writes
  ended_others : (t : Transaction) → a.active s ≡ Some t → LeavesOthers m n c valid works s (ended t.number)
  ended_others t e r u other also =
      let beside = (two_phase_ordered c.g0 c.history runs.plain runs.two_phase).beside s r t u (λ same. other (sym same)) e also in
      undo_other behind t.number u.number [] 0 beside.differ

  -- the writes of the transaction that ends are taken back
  aborted_goes : (t : Transaction) → a.active s ≡ Some t → (aborts : Aborts m n s) → aborts.transaction ≡ kept c.places (view c.g0 a t) t.number (undo_of behind t.number) → Goes n c (Abort s)
  aborted_goes t e aborts x =
      let undo = undo_of behind t.number in
      let more = abort_records t.number undo in
      let table = with_ended m.table s in
      let left = subst (λ (y : TransactionState). Leaves m n (abort_records y.number y.undo) table (without m.locks y.number) m.spaces m.collection m.sealed) x aborts.left in
      let told = abort_told c.pages c.first_number c.born c.places c.remaining (serial c.g0 a.sealed) (c.before + length a.sealed) t.number (all_records c) (all_words c) behind valid.told
      valid.in_range.some_pages valid.in_range.few_pages (numbered_as a c s t e valid) (own_apart a c valid (two_phase_ordered c.g0 c.history runs.plain runs.two_phase) s t e) in
      let P : ℕ → Option Transaction → Type 0 = λ r o. transaction_of table r ≡ kept_of (ground_in c c.places (ended t.number)) c.g0 a o in
      let others = others_kept m n c valid works s table (ended t.number) (with_ended_other m.table s) (ended_others t e) in
      passes m n c valid is (Abort s) more left (abort_is c s t valid e)
      (subst (λ (rs : List Record). SessionsAgree n aborted (record c { pending = c.pending ++ rs; places = c.places ++ [] })) (sym (abort_is c s t valid e))
      (subst (λ (d : Core). SessionsAgree n aborted d) (sym (places_still c more))
      (appended_here m n c valid works aborted more table (without m.locks t.number) m.sealed (ended t.number) (turns_of left) told.reached refl refl
      (each_session P a.active s None (with_ended_same m.table s) others) (held_aborted c.g0 c.history m.locks c.places c.places s t runs.plain runs.two_phase e (λ id other. refl) is.sessions.locks) is.sessions.next is.sessions.sealed)))

  -- an abort is answered as the core answers it, and the session has no transaction then
  pub abort_does : {E : Type 0} → core_refusal c (Abort s) ≡ end_refusal (own m s) → (result : Result Reply E) → IfOk result (λ reply. reply ≡ reply_of (end_refusal (own m s)) Aborted)
      → (result ≡ Ok Aborted → Aborts m n s) → ((why : Refusal) → result ≡ Ok (Refused why) → IsAsItWas m n) → IfOk result (λ reply. Does c (Abort s) reply n)
  abort_does same (Err e) replied ends stayed = tt
  abort_does same (Ok reply) replied ends stayed =
      does c (Abort s) (end_refusal (own m s)) Aborted reply n same replied (λ e. refl)
      (λ e aborted_it.
      let aborts = ends (ap Ok aborted_it) in
      let t = mine m n c valid works s aborts.transaction aborts.was in
      aborted_goes t.0 t.1 aborts t.2)
      (λ why e. as_it_was m n c is (stayed why (ap Ok e)))
