-- What an event appends leaves the memory of the core after it: what holds of each event.
use Rattle.std.proofs.Common.{◌≡◌, ◌≢◌, ℕ, ◌+◌, List, [], ◌++◌, length, Option, Some, None, refl, sym, ap, ◌∙◌, subst, append_assoc}
use Rattle.std.proofs.lemmas.List.{append-nil}
use Rattle.gated_log.specs.Log.{records_of}
use Rattle.gated_log.specs.LogState.{Keeps}
use Rattle.graph_model.specs.declared.event.Event.{Event}
use Rattle.graph_model.specs.declared.reply.Entry.{Entry}
use Rattle.graph_model.specs.Graph.{Graph}
use Rattle.graph_model.specs.Locking.{lock_of}
use Rattle.graph_model.specs.Transaction.{Transaction, View, IsCall, call, serial}
use Rattle.graph_model.specs.History.{Account, account, account_after, session_of, with_call}
use Rattle.graph_model.proofs.Runs.History.{run-append}
use Rattle.graph_model.specs.Plain.{view, granted}
use Rattle.log_records.specs.declared.Record.{Record}
use Rattle.log_machine.specs.Machine.{spaces_of, State, undo_of}
use Rattle.log_machine.specs.declared.UndoEntry.{UndoEntry}
use Rattle.object_locks.specs.Holdings.{Holdings}
use Rattle.txn_table.specs.Table.{TransactionState, TableState, transaction_of, with_transaction}
use Rattle.txn_table.proofs.TableLaws.{with_transaction_same, with_transaction_other}
use Rattle.heap_spaces.specs.Collection.{Collection}
use Rattle.heap_spaces.specs.Spaces.{SpacesState}
use Rattle.graph_words.specs.Places.{Places}
use Rattle.heap_model.specs.Core.{Core, Ground, ground, all_records, all_words, next_number, state_behind, undo_with, records_for, event_places}
use Rattle.core_laws.proofs.Step.Forms.{call_places}
use Rattle.core_laws.proofs.Step.Goes.{places_still}
use Rattle.core_laws.proofs.Step.Events.{call_account}
use Rattle.core_laws.proofs.Sessions.Actives.{each_session, called}
use Rattle.core_laws.specs.Valid.{IsValid}
use Rattle.heap_memory.specs.Memory.{Memory, own}
use Rattle.heap_memory.specs.Leaves.{Leaves}
use Rattle.memory_laws.specs.CoreMemory.{kept, kept_of, AreHeld, SessionsAgree, IsMemory}
use Rattle.memory_laws.proofs.Kept.Locks.{held_same}
use Rattle.memory_laws.proofs.Kept.Parts.{HasDisk, Works, Turns, works_of, whole_of, disk_left}

-- what is there on both sides is one
pub some_one : {A : Type 0} (x y : A) → Some x ≡ Some y → x ≡ y
some_one x y e = cc e

-- An event on a core after the event's barrier, or with no barrier.

-- what it appends
abbrev pub own_at : Core → Event → List Record
own_at c event = records_for (ground c) c.g0 (account c.history) event

-- what it leaves
abbrev pub own_done : Core → Event → Core
own_done c event = record c { pending = c.pending ++ own_at c event; places = c.places ++ event_places c event }

-- what the history says then
abbrev pub told_after : Core → Event → Account
told_after c event = let entry : Entry = record { event = event; reply = granted (next_number c) c.g0 (account c.history) event } in account_after (account c.history) entry

-- The sessions in memory are then the core's.
abbrev pub Tells : Memory → Core → Event → Type 0
Tells n c event = SessionsAgree n (told_after c event) (own_done c event)

-- All that is kept in memory is then the core's.
abbrev pub Passes : Memory → Core → Event → Type 0
Passes n c event = IsMemory n (told_after c event) (own_done c event)

-- a call leaves of the core these records more
pub call_done : (c : Core) (event : Event) (more : List Record) → IsCall event → own_at c event ≡ more → own_done c event ≡ record c { pending = c.pending ++ more }
call_done c event more is records =
    ap (λ (placed : Places). record c { pending = c.pending ++ own_at c event; places = c.places ++ placed }) (call_places c event is)
    ∙ ap (λ (rs : List Record). record c { pending = c.pending ++ rs; places = c.places ++ [] }) records
    ∙ places_still c more

-- where the heap is found with these places, in this state
abbrev pub ground_in : Core → Places → State → Ground
ground_in c places state = record { places = places; remaining = c.remaining; words = all_words c; state = Some state }

-- what is kept of a transaction that has made one more call
kept_call : (g : Ground) (g0 : Graph) (a : Account) (o : Option Transaction) (t : Transaction) (event : Event) → o ≡ Some t
    → kept_of g g0 a (with_call o event) ≡ Some (kept g.places (call (view g0 a t) t.number event).view t.number (undo_with g.state t.number))
kept_call g g0 a o t event e =
    ap (λ (p : Option Transaction). kept_of g g0 a (with_call p event)) e
    ∙ ap (λ (v : View). Some (kept g.places v t.number (undo_with g.state t.number))) (run-append (serial g0 a.sealed) t event)

-- the transaction of the core where one is kept in memory
has_kept : (g : Ground) (g0 : Graph) (a : Account) (o : Option Transaction) (x : TransactionState) → kept_of g g0 a o ≡ Some x
    → (t : Transaction) × (o ≡ Some t) × (x ≡ kept g.places (view g0 a t) t.number (undo_with g.state t.number))
has_kept g g0 a None x e = cc e
has_kept g g0 a (Some t) x e = (t, refl, sym (some_one _ _ e))

module _ (m n : Memory) (c : Core) (valid : IsValid c) (is : Works m (account c.history) c) where
  -- what the history says
  abbrev a : Account
  a = account c.history

  -- the state after all records
  abbrev behind : State
  behind = valid.behind

  -- it is the one that memory follows
  same_state : is.sessions.state ≡ behind
  same_state = some_one is.sessions.state behind (sym is.sessions.reached ∙ valid.told.reached)

  -- the spaces and the collection in memory are the state's
  pub spaces_here : m.spaces ≡ spaces_of behind
  spaces_here = is.sessions.spaces ∙ ap spaces_of same_state

  pub collection_here : m.collection ≡ behind.collection
  collection_here = is.sessions.collection ∙ ap (λ (x : State). x.collection) same_state

  -- each session's transaction is in memory what the core keeps of it
  pub own_kept : (s : ℕ) → own m s ≡ kept_of (ground_in c c.places behind) c.g0 a (a.active s)
  own_kept s =
      is.sessions.transactions s ∙ ap (λ (o : Option State). kept_of (record { places = c.places; remaining = c.remaining; words = all_words c; state = o }) c.g0 a (a.active s)) valid.told.reached

  -- the transaction of a session in memory is the core's
  pub mine : (s : ℕ) (x : TransactionState) → own m s ≡ Some x → (t : Transaction) × (a.active s ≡ Some t) × (x ≡ kept c.places (view c.g0 a t) t.number (undo_of behind t.number))
  mine s x e = has_kept (ground_in c c.places behind) c.g0 a (a.active s) x (sym (own_kept s) ∙ e)

  -- more records are pending, and these objects stand in the current space then
  pub appended : (b : Account) (more : List Record) (places : Places) (table : TableState) (locks : Holdings) (current : SpacesState) (runs : Option Collection) (count : ℕ) (later : State)
      → Turns m n more table locks current runs count → state_behind c (all_records c ++ more) ≡ Some later → current ≡ spaces_of later → runs ≡ later.collection
      → ((r : ℕ) → transaction_of table r ≡ kept_of (ground_in c places later) c.g0 b (b.active r)) → AreHeld locks places c.g0 b
      → table.next ≡ c.first + b.begun → count ≡ length b.sealed → SessionsAgree n b (record c { pending = c.pending ++ more; places = places })
  appended b more places table locks current runs count later left reached room run there held next sealed =
      let all = append_assoc (records_of c.batches) c.pending more in
      let then : state_behind c (records_of c.batches ++ (c.pending ++ more)) ≡ Some later = ap (state_behind c) (sym all) ∙ reached in
      record {
        state = later;
        reached = then;
        spaces = left.spaces ∙ room;
        collection = left.collection ∙ run;
        transactions = λ r. ap (λ (t : TableState). transaction_of t r) left.table ∙ there r
            ∙ ap (λ (o : Option State). kept_of (record { places = places; remaining = c.remaining; words = all_words c; state = o }) c.g0 b (b.active r)) (sym then);
        locks = subst (λ (ls : Holdings). AreHeld ls places c.g0 b) (sym left.locks) held;
        next = ap (λ (t : TableState). t.next) left.table ∙ next;
        sealed = left.sealed ∙ sealed;
      }

  -- more records are pending, and the same objects stand there
  pub appended_here : (b : Account) (more : List Record) (table : TableState) (locks : Holdings) (count : ℕ) (later : State) → Turns m n more table locks m.spaces m.collection count
      → state_behind c (all_records c ++ more) ≡ Some later → spaces_of behind ≡ spaces_of later → behind.collection ≡ later.collection
      → ((r : ℕ) → transaction_of table r ≡ kept_of (ground_in c c.places later) c.g0 b (b.active r)) → AreHeld locks c.places c.g0 b
      → table.next ≡ c.first + b.begun → count ≡ length b.sealed → SessionsAgree n b (record c { pending = c.pending ++ more })
  appended_here b more table locks count later left reached same run there held next sealed =
      appended b more c.places table locks m.spaces m.collection count later left reached (spaces_here ∙ same) (collection_here ∙ run) there held next sealed

  -- In a later state the transactions of all other sessions have the same writes that may be taken back.
  abbrev pub LeavesOthers : ℕ → State → Type 0
  LeavesOthers s later = (r : ℕ) (u : Transaction) → r ≢ s → a.active r ≡ Some u → undo_of later u.number ≡ undo_of behind u.number

  -- what is kept of a transaction whose writes are as before
  kept_beside : (later : State) (o : Option Transaction) → ((u : Transaction) → o ≡ Some u → undo_of later u.number ≡ undo_of behind u.number)
      → kept_of (ground_in c c.places behind) c.g0 a o ≡ kept_of (ground_in c c.places later) c.g0 a o
  kept_beside later None same = refl
  kept_beside later (Some u) same = ap (λ (us : List UndoEntry). Some (kept c.places (view c.g0 a u) u.number us)) (sym (same u refl))

  -- what is kept of the transaction of each other session, in a table that is the same there
  pub others_kept : (s : ℕ) (table : TableState) (later : State) → ((r : ℕ) → r ≢ s → transaction_of table r ≡ own m r) → LeavesOthers s later
      → (r : ℕ) → r ≢ s → transaction_of table r ≡ kept_of (ground_in c c.places later) c.g0 a (a.active r)
  others_kept s table later beside same r other = beside r other ∙ own_kept r ∙ kept_beside later (a.active r) (λ u also. same r u other also)

  -- no further record is pending
  pub reached_still : state_behind c (all_records c ++ []) ≡ Some behind
  reached_still = ap (state_behind c) (append-nil (all_records c)) ∙ valid.told.reached

  -- a call of the transaction of a session
  pub call_leaves : (s : ℕ) (t : Transaction) (event : Event) (more : List Record) (later : State) (table : TableState) (locks : Holdings) (x : TransactionState) → a.active s ≡ Some t → IsCall event
      → session_of event ≡ s → own_at c event ≡ more → Turns m n more table locks m.spaces m.collection m.sealed → transaction_of table s ≡ Some x
      → ((r : ℕ) → r ≢ s → transaction_of table r ≡ own m r) → table.next ≡ m.table.next → state_behind c (all_records c ++ more) ≡ Some later → spaces_of behind ≡ spaces_of later
      → behind.collection ≡ later.collection → LeavesOthers s later → x ≡ kept c.places (call (view c.g0 a t) t.number event).view t.number (undo_of later t.number)
      → AreHeld locks c.places c.g0 (called a s event) → Tells n c event
  call_leaves s t event more later table locks x e called_it one records left holds beside next reached same run others kept_so held =
      let P : ℕ → Option Transaction → Type 0 = λ r o. transaction_of table r ≡ kept_of (ground_in c c.places later) c.g0 a o in
      let there : transaction_of table s ≡ kept_of (ground_in c c.places later) c.g0 a (with_call (a.active s) event) =
      holds ∙ ap (λ (y : TransactionState). Some y) kept_so ∙ sym (kept_call (ground_in c c.places later) c.g0 a (a.active s) t event e) in
      let each = each_session P a.active s (with_call (a.active s) event) there (others_kept s table later beside others) in
      let now = appended_here (called a s event) more table locks m.sealed later left reached same run each held (next ∙ is.sessions.next) is.sessions.sealed in
      subst (λ (b : Account). SessionsAgree n b (own_done c event)) (sym (call_account (next_number c) c.g0 a event called_it ∙ ap (λ (q : ℕ). called a q event) one))
      (subst (λ (d : Core). SessionsAgree n (called a s event) d) (sym (call_done c event more called_it records)) now)

  -- the same, where the transaction alone is changed in the table
  pub call_goes : (s : ℕ) (t : Transaction) (event : Event) (more : List Record) (later : State) (locks : Holdings) (x : TransactionState) → a.active s ≡ Some t → IsCall event → session_of event ≡ s
      → own_at c event ≡ more → Turns m n more (with_transaction m.table s x) locks m.spaces m.collection m.sealed → state_behind c (all_records c ++ more) ≡ Some later
      → spaces_of behind ≡ spaces_of later → behind.collection ≡ later.collection → LeavesOthers s later
      → x ≡ kept c.places (call (view c.g0 a t) t.number event).view t.number (undo_of later t.number) → AreHeld locks c.places c.g0 (called a s event) → Tells n c event
  call_goes s t event more later locks x e called_it one records left reached same run others kept_so held =
      call_leaves s t event more later (with_transaction m.table s x) locks x e called_it one records left (with_transaction_same m.table s x) (with_transaction_other m.table s x) refl reached same
      run others kept_so held

  -- and no record is appended
  pub quiet_goes : (s : ℕ) (t : Transaction) (event : Event) (locks : Holdings) (x : TransactionState) → a.active s ≡ Some t → IsCall event → session_of event ≡ s → own_at c event ≡ []
      → Turns m n [] (with_transaction m.table s x) locks m.spaces m.collection m.sealed → x ≡ kept c.places (call (view c.g0 a t) t.number event).view t.number (undo_of behind t.number)
      → AreHeld locks c.places c.g0 (called a s event) → Tells n c event
  quiet_goes s t event locks x e called_it one records left kept_so held =
      call_goes s t event [] behind locks x e called_it one records left reached_still refl refl (λ r u other also. refl) kept_so held

  -- a call that needs no lock leaves the locks
  pub no_lock : (s : ℕ) (t : Transaction) (event : Event) → a.active s ≡ Some t → lock_of (view c.g0 a t).registers event ≡ None → AreHeld m.locks c.places c.g0 (called a s event)
  no_lock s t event e none = held_same m.locks c.places c.g0 a s t event e (λ id mode some. let never = sym none ∙ some in cc) is.sessions.locks

-- what an event leaves that changes nothing
pub nothing_left : (m : Memory) → Leaves m m [] m.table m.locks m.spaces m.collection m.sealed
nothing_left m = record {
  log = record {
    place = record { at = refl; room = refl; tail = refl; forced = refl };
    kept = λ batches pending keeps. subst (λ (rs : List Record). Keeps m.log batches rs) (sym (append-nil pending)) keeps;
  };
  words = refl;
  lsns = refl;
  store = refl;
  table = refl;
  locks = refl;
  spaces = refl;
  collection = refl;
  sealed = refl;
}

module _ (m n : Memory) (c : Core) (valid : IsValid c) (is : IsMemory m (account c.history) c) where
  -- the spaces in memory are the state's
  pub spaces_are : m.spaces ≡ spaces_of valid.behind
  spaces_are = spaces_here m n c valid (works_of m (account c.history) c is)

  -- memory that is the same follows the same core
  pub stays : n ≡ m → IsMemory n (account c.history) c
  stays same = let P : Memory → Type 0 = λ x. IsMemory x (account c.history) c in subst P (sym same) is

  -- memory in which these further records are pending has of the disk what the core has after the event
  left_disk : (event : Event) (more : List Record) {table : TableState} {locks : Holdings} {current : SpacesState} {runs : Option Collection} {count : ℕ}
      → Leaves m n more table locks current runs count → own_at c event ≡ more → HasDisk n (own_done c event)
  left_disk event more left records =
      subst (λ (rs : List Record). HasDisk n (record c { pending = c.pending ++ rs; places = c.places ++ event_places c event })) (sym records)
      (disk_left m n (account c.history) c more (c.places ++ event_places c event) c.remaining is left)

  -- so where the sessions are the core's, all of it is
  pub passes : (event : Event) (more : List Record) {table : TableState} {locks : Holdings} {current : SpacesState} {runs : Option Collection} {count : ℕ}
      → Leaves m n more table locks current runs count → own_at c event ≡ more → Tells n c event → Passes n c event
  passes event more left records tells = whole_of n (told_after c event) (own_done c event) (left_disk event more left records) tells
