-- Memory refuses the begin and the end of a transaction as the core does.
use Rattle.std.proofs.Common.{◌≡◌, ℕ, ◌+◌, Bool, true, false, cond, List, [], ◌++◌, length, Option, None, Some, is_some, refl, sym, ap, ◌∙◌, arith, unwrap_or}
use Rattle.std.specs.Prelude.{◌==◌}
use Rattle.graph_model.specs.declared.event.Event.TheVariants.{Begin, Seal, Abort}
use Rattle.graph_model.specs.declared.event.Event.{Event}
use Rattle.graph_model.specs.declared.reply.Refusal.TheVariants.{AlreadyActive, NumbersSpent}
use Rattle.graph_model.specs.declared.reply.Refusal.{Refusal}
use Rattle.graph_model.specs.declared.reply.Reply.TheVariants.{Begun, Sealed}
use Rattle.graph_model.specs.History.{Account, account, account_after, IsSession}
use Rattle.graph_model.specs.Plain.{view, no_number, call_refusal, first_of_two, call_conflict, event_refusal}
use Rattle.graph_model.specs.Transaction.{Transaction}
use Rattle.commit_order.proofs.OrderLaws.{two_phase_ordered}
use Rattle.log_records.specs.declared.Record.TheVariants.{Commit}
use Rattle.log_records.specs.declared.Record.{Record}
use Rattle.log_records.specs.Record.{spellings}
use Rattle.log_machine.specs.declared.UndoEntry.{UndoEntry}
use Rattle.log_machine.specs.Machine.{spaces_of, State, undo_bytes, end_bytes, undo_of}
use Rattle.log_machine.proofs.MapLaws.{get_kept}
use Rattle.gated_log.specs.LogState.{log_room, log_used, log_need}
use Rattle.heap_spaces.specs.Spaces.{SpacesState}
use Rattle.txn_table.specs.Table.{TransactionState}
use Rattle.graph_words.specs.Promotion.{promoted_need, promotion_records, seal_records}
use Rattle.heap_model.specs.Core.{Core, ground, all_records, next_number, undo_with, undo_behind, next_word, area_in, call_records, event_records, used, need, reserved_after, space_refusal, seal_need, room_refusal, words_refusal, log_refusal, core_refusal, reserved}
use Rattle.heap_model.proofs.Step.Goes.{told_sound, need_nothing}
use Rattle.core_laws.proofs.Step.Granted.{reserved_told}
use Rattle.core_laws.proofs.Step.Reserved.{reserved_with}
use Rattle.core_laws.proofs.Seal.Cases.{sealed_told}
use Rattle.core_laws.proofs.Seal.Told as seal
use Rattle.core_laws.proofs.Sessions.Actives.{ended_reserved}
use Rattle.core_laws.proofs.Step.Events.{kept_still, unfailed_refusal, log_abort}
use Rattle.core_laws.proofs.Step.Told.{none_yet}
use Rattle.core_laws.specs.Valid.{IsValid, RunsLocked}
use Rattle.heap_memory.specs.Memory as memory
use Rattle.heap_memory.specs.Memory.{Memory, own}
use Rattle.heap_memory.specs.Refusals as memory_refusals
use Rattle.heap_memory.specs.Refusals.{no_room, begin_refusal, end_refusal, sealing_records, sealing_need, seal_refusal_of, seal_refusal, reserved_without}
use Rattle.memory_laws.specs.CoreMemory.{kept, kept_of, IsMemory}
use Rattle.memory_laws.proofs.Kept.Log.{used_same, need_records}
use Rattle.memory_laws.proofs.Refusal.Room.{full_same, first_none, second_same}
use Rattle.memory_laws.proofs.Refusal.LogRoom.{reserved_now}

two_first : (b d : Bool) (x y : Refusal) (o : Option Refusal) → first_of_two (cond b (Some x) (cond d (Some y) None)) o ≡ cond b (Some x) (cond d (Some y) o)
two_first true d x y o = refl
two_first false true x y o = refl
two_first false false x y o = refl

is_some_kept : (c : Core) (a : Account) (o : Option Transaction) → is_some o ≡ is_some (kept_of (ground c) c.g0 a o)
is_some_kept c a None = refl
is_some_kept c a (Some t) = refl

module _ (m : Memory) (c : Core) (valid : IsValid c) (runs : RunsLocked c.g0 c.first c.history) (is : IsMemory m (account c.history) c) (s : ℕ) where
  -- what the history says
  abbrev a : Account
  a = account c.history

  -- A begin.
  -- the bytes of one more transaction are kept after it
  begin_kept : IsSession s → a.active s ≡ None → reserved_after c (Begin s) ≡ memory.reserved m.table + end_bytes 0
  begin_kept session none =
      let n = next_number c in
      let b = account_after a (record { event = Begin s; reply = Begun n }) in
      let undo = undo_of valid.behind in
      let empty : undo n ≡ [] = ap (λ (o : Option (List UndoEntry)). unwrap_or o []) (none_yet valid.behind n (told_sound valid.told) valid.next_known) in
      kept_still c b valid
      ∙ reserved_with undo a s (record { number = n; calls = [] }) session none
      ∙ ap (λ (us : List UndoEntry). reserved undo a + undo_bytes us) empty
      ∙ ap (λ (k : ℕ). k + end_bytes 0) (sym (reserved_now m c valid is))

  begin_room : IsSession s → (spent : Bool) (o : Option Transaction) → a.active s ≡ o
      → cond (is_some o) (Some AlreadyActive) (cond spent (Some NumbersSpent) (log_refusal c (Begin s)))
      ≡ cond (is_some o) (Some AlreadyActive) (cond spent (Some NumbersSpent) (no_room m.log 0 (memory.reserved m.table + end_bytes 0)))
  begin_room session spent (Some t) e = refl
  begin_room session spent None e =
      let room : log_refusal c (Begin s) ≡ no_room m.log 0 (memory.reserved m.table + end_bytes 0) =
      full_same c.room (log_room m.log) (used c) (log_used m.log) (need c.pending []) 0 (reserved_after c (Begin s)) (memory.reserved m.table + end_bytes 0)
      (sym is.room) (sym (used_same m.log c.batches c.pending is.log)) (need_nothing c.pending) (begin_kept session e) in
      ap (λ (o : Option Refusal). cond spent (Some NumbersSpent) o) room

  -- it needs no lock, and no words
  begin_free : (o : Option Transaction) → call_conflict c.g0 a o (Begin s) ≡ None
  begin_free None = refl
  begin_free (Some t) = refl

  begin_words : (o : Option Transaction) → room_refusal (ground c) c.g0 a o (Begin s) ≡ None
  begin_words None = refl
  begin_words (Some t) = refl

  -- memory refuses a begin as the core does
  pub begin_refused : IsSession s → core_refusal c (Begin s) ≡ begin_refusal m s
  begin_refused session =
      let spent = next_number c == no_number in
      let asks = event_refusal (next_number c) c.g0 a (Begin s) in
      let log = log_refusal c (Begin s) in
      let full = no_room m.log 0 (memory.reserved m.table + end_bytes 0) in
      unfailed_refusal c (Begin s) valid.unfailed
      ∙ ap (λ (o : Option Refusal). first_of_two (first_of_two asks o) (first_of_two (words_refusal c (Begin s)) log)) (begin_free (a.active s))
      ∙ ap (λ (o : Option Refusal). first_of_two o (first_of_two (words_refusal c (Begin s)) log)) (first_none asks)
      ∙ ap (λ (o : Option Refusal). first_of_two asks (first_of_two o log)) (begin_words (a.active s))
      ∙ two_first (is_some (a.active s)) spent AlreadyActive NumbersSpent log
      ∙ begin_room session spent (a.active s) refl
      ∙ ap (λ (b : Bool). cond b (Some AlreadyActive) (cond spent (Some NumbersSpent) full)) (is_some_kept c a (a.active s))
      ∙ ap (λ (o : Option TransactionState). cond (is_some o) (Some AlreadyActive) (cond spent (Some NumbersSpent) full)) (sym (is.sessions.transactions s))
      ∙ ap (λ (n : ℕ). cond (is_some (own m s)) (Some AlreadyActive) (cond (n == no_number) (Some NumbersSpent) full)) (sym is.sessions.next)

  -- why the end of a transaction is refused, for what it asks for, for its words or for the log
  abbrev end_asked : Option Transaction → Event → Option Refusal → Option Refusal
  end_asked o event log = first_of_two (first_of_two (call_refusal c.g0 a o event) (call_conflict c.g0 a o event)) (first_of_two (room_refusal (ground c) c.g0 a o event) log)

  -- An abort.
  abort_cases : (o : Option Transaction) → a.active s ≡ o → end_asked o (Abort s) (log_refusal c (Abort s)) ≡ end_refusal (kept_of (ground c) c.g0 a o)
  abort_cases None e = refl
  abort_cases (Some t) e = log_abort c s t valid runs e

  -- memory refuses an abort as the core does
  pub abort_refused : core_refusal c (Abort s) ≡ end_refusal (own m s)
  abort_refused = unfailed_refusal c (Abort s) valid.unfailed ∙ abort_cases (a.active s) refl ∙ ap end_refusal (sym (is.sessions.transactions s))

  -- A seal.
  -- what is kept of a transaction
  abbrev transaction : Transaction → TransactionState
  transaction t = kept c.places (view c.g0 a t) t.number (undo_with (ground c).state t.number)

  -- the records of its seal, as memory gives them
  abbrev sealing : Transaction → List Record
  sealing t = sealing_records m (transaction t)

  next_free : next_word (ground c).state ≡ m.spaces.base + m.spaces.used
  next_free = ap next_word is.sessions.reached ∙ ap (λ (x : SpacesState). x.base + x.used) (sym is.sessions.spaces)

  -- its records are those that memory gives
  seal_records_same : (t : Transaction) → a.active s ≡ Some t → event_records c (Seal s) ≡ sealing t
  seal_records_same t e =
      let area = area_in c.places (view c.g0 a t) t.number in
      let undo = undo_with (ground c).state t.number in
      ap (λ (o : Option Transaction). call_records (ground c) c.g0 a o (Seal s)) e
      ∙ ap (λ (ws : List ℕ). seal_records area ws undo (next_word (ground c).state)) (sym is.words)
      ∙ ap (seal_records area m.words undo) next_free

  -- so is the log's need of them
  seal_need_same : (t : Transaction) → a.active s ≡ Some t → need c.pending (event_records c (Seal s)) ≡ log_need m.log (length (spellings (sealing t)))
  seal_need_same t e =
      ap (need c.pending) (seal_records_same t e)
      ∙ sym (need_records m.log c.batches c.pending (promotion_records (transaction t).area m.words (transaction t).undo (m.spaces.base + m.spaces.used)) (Commit (transaction t).area.transaction) is.log)

  -- where the space has room for it, what was kept for the transaction is kept no more
  seal_kept : (t : Transaction) → a.active s ≡ Some t → space_refusal (ground c).state (seal_need (ground c) t.number (view c.g0 a t)) ≡ None
      → reserved_after c (Seal s) ≡ reserved_without m.table (transaction t)
  seal_kept t e space =
      let o = two_phase_ordered c.g0 c.history runs.plain runs.two_phase in
      let b = account_after a (record { event = Seal s; reply = Sealed (length a.sealed + 1) }) in
      let records = seal.records a c valid o s t e in
      let last = seal.last a c valid o s t e in
      let same : event_records c (Seal s) ≡ records = ap (λ (x : Option Transaction). call_records (ground c) c.g0 a x (Seal s)) e ∙ seal.seal_is a c valid o s t e in
      let behind : reserved_after c (Seal s) ≡ reserved (undo_of last) b =
      ap (λ (rs : List Record). reserved (undo_behind c (all_records c ++ rs)) b) same ∙ reserved_told c records b (sealed_told a c valid o s t e space) in
      let others = ended_reserved (undo_of valid.behind) (undo_of last) a s t (valid.in_sessions s t e) e
      (λ r u other also. ap (λ (x : Option (List UndoEntry)). unwrap_or x [])
      (get_kept valid.behind.undo t.number u.number (o.beside r s u t other also e).differ)) in
      let count : length (undo_with (ground c).state t.number) ≡ length (undo_of valid.behind t.number) = ap (λ (x : Option State). length (undo_with x t.number)) valid.told.reached in
      let kept = reserved_now m c valid is in
      omega arith

  seal_log : (t : Transaction) → a.active s ≡ Some t → space_refusal (ground c).state (seal_need (ground c) t.number (view c.g0 a t)) ≡ None
      → log_refusal c (Seal s) ≡ no_room m.log (log_need m.log (length (spellings (sealing t)))) (reserved_without m.table (transaction t))
  seal_log t e space =
      full_same c.room (log_room m.log) (used c) (log_used m.log) (need c.pending (event_records c (Seal s))) (log_need m.log (length (spellings (sealing t))))
      (reserved_after c (Seal s)) (reserved_without m.table (transaction t))
      (sym is.room) (sym (used_same m.log c.batches c.pending is.log)) (seal_need_same t e) (seal_kept t e space)

  space_open : (x : State) (n : ℕ) → space_refusal (Some x) n ≡ memory_refusals.space_refusal (spaces_of x) n
  space_open x n = refl

  -- and the current space has a core's room
  seal_space : (t : Transaction) → space_refusal (ground c).state (seal_need (ground c) t.number (view c.g0 a t)) ≡ memory_refusals.space_refusal m.spaces (sealing_need m (transaction t))
  seal_space t =
      let area = area_in c.places (view c.g0 a t) t.number in
      let undo = undo_with (ground c).state t.number in
      ap (λ (ws : List ℕ). space_refusal (ground c).state (promoted_need area ws undo)) (sym is.words)
      ∙ ap (λ (o : Option State). space_refusal o (sealing_need m (transaction t))) is.sessions.reached
      ∙ space_open is.sessions.state (sealing_need m (transaction t))
      ∙ ap (λ (x : SpacesState). memory_refusals.space_refusal x (sealing_need m (transaction t))) (sym is.sessions.spaces)

  seal_cases : (o : Option Transaction) → a.active s ≡ o → end_asked o (Seal s) (log_refusal c (Seal s)) ≡ seal_refusal_of m (kept_of (ground c) c.g0 a o)
  seal_cases None e = refl
  seal_cases (Some t) e =
      let space = space_refusal (ground c).state (seal_need (ground c) t.number (view c.g0 a t)) in
      let room = no_room m.log (log_need m.log (length (spellings (sealing t)))) (reserved_without m.table (transaction t)) in
      second_same space (log_refusal c (Seal s)) room (seal_log t e) ∙ ap (λ (o : Option Refusal). first_of_two o room) (seal_space t)

  -- memory refuses a seal as the core does
  pub seal_refused : core_refusal c (Seal s) ≡ seal_refusal m s
  seal_refused = unfailed_refusal c (Seal s) valid.unfailed ∙ seal_cases (a.active s) refl ∙ ap (seal_refusal_of m) (sym (is.sessions.transactions s))
