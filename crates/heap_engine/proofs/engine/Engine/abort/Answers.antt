use Rattle.std.proofs.Common.{◌≡◌, ℕ, ◌+◌, ◌≤◌, List, length, reverse, Some, refl, sym, ap, ◌∙◌, subst, arith}
use Rattle.std.specs.Prelude.{◌<◌, IsSome, IfSome, fold}
use Rattle.std.proofs.lemmas.List.Elements.{recursion_from_All}
use Rattle.gated_log.specs.LogState.{log_room, log_used_with, HasSpare}
use Rattle.heap_memory.specs.Leaves.{Adds}
use Rattle.heap_model.specs.Lsns.{log_next_lsn}
use Rattle.log_machine.proofs.AbortLaws.{abort_length}
use Rattle.page_redo.specs.Redo.{redo_all}
use Rattle.log_records.specs.declared.Record.{Record}
use Rattle.log_records.specs.Record.{spellings}
use Rattle.log_machine.specs.declared.UndoEntry.{UndoEntry}
use Rattle.log_machine.specs.Machine.{field_at, put_record, abort_records, end_bytes}
use Rattle.log_machine.specs.Effect.{EachWritesBelow}
use Rattle.logged_pages.specs.State.{log_of, pages_in_memory}
use Rattle.txn_table.specs.Table.{TransactionState, transaction_of, with_ended}
use Rattle.object_locks.specs.Holdings.{without}
use Rattle.heap_engine.specs.declared.engine.Engine.{Engine}
use Rattle.heap_engine.proofs.Tables.{there, told, sound_same, sound_ended}
use Rattle.heap_engine.proofs.Room.{abort_room}
use Rattle.heap_engine.proofs.Carried.{abort_below, adds_carried, carried}
use Rattle.heap_engine.proofs.engine.Engine.abort.Goals as goal

-- The transaction that is aborted, the records that abort it, and what is kept for the others.
record IsAborted (s : Engine) (session others : ℕ) (records : List Record) : Type 0 where
  transaction : TransactionState
  was : transaction_of s.table session ≡ Some transaction
  kept : others + end_bytes (length transaction.undo) ≡ s.reserved
  is : records ≡ abort_records transaction.number transaction.undo

aborted : (s : Engine) (session others number : ℕ) (us : List UndoEntry) (records : List Record) → IsSome (transaction_of s.table session)
    → IfSome (transaction_of s.table session) (λ t. others + end_bytes (length t.undo) ≡ s.reserved) → IfSome (transaction_of s.table session) (λ t. number ≡ t.number)
    → IfSome (transaction_of s.table session) (λ t. reverse us ≡ t.undo) → records ≡ abort_records number (reverse us) → IsAborted s session others records
aborted s session others number us records some kept numbered undo is =
    let o = transaction_of s.table session in
    let t = there o some in
    let as_number = told o t.0 (λ v. number ≡ v.number) t.1 numbered in
    let as_undo = told o t.0 (λ v. reverse us ≡ v.undo) t.1 undo in
    record {
      transaction = t.0;
      was = t.1;
      kept = told o t.0 (λ v. others + end_bytes (length v.undo) ≡ s.reserved) t.1 kept;
      is = is ∙ (λ i. abort_records (as_number i) (as_undo i));
    }

fits : (s : Engine) (session others : ℕ) (records : List Record) → IsAborted s session others records → log_used_with (log_of s.pages) (length (spellings records)) + others ≤ log_room (log_of s.pages)
fits s session others records a =
    let t = a.transaction in
    let room = abort_room (log_of s.pages) t.number others t.undo (omega (arith, s.room, a.kept)) in
    subst (λ (rs : List Record). log_used_with (log_of s.pages) (length (spellings rs)) + others ≤ log_room (log_of s.pages)) (sym a.is) room

-- each write that is taken back lies in the words
below : (s : Engine) (session others : ℕ) (records : List Record) → IsAborted s session others records → EachWritesBelow (length (pages_in_memory s.pages).words) records
below s session others records a =
    let t = a.transaction in
    let size = length (pages_in_memory s.pages).words in
    let wrote = recursion_from_All (λ (u : UndoEntry). field_at u.object u.field < size) t.undo (s.sound.each session t a.was).inside in
    subst (λ (rs : List Record). EachWritesBelow size rs) (sym a.is) (abort_below size t.number t.undo wrote)

-- there is memory for the records, and for what is kept for the others
spare : (s : Engine) (session others : ℕ) (records : List Record) → IsAborted s session others records → HasSpare (log_of s.pages) (length (spellings records) + others)
spare s session others records a =
    let long : length (spellings records) + 5 ≡ end_bytes (length a.transaction.undo) =
    ap (λ (rs : List Record). length (spellings rs) + 5) a.is ∙ abort_length a.transaction.number a.transaction.undo in
    omega (arith, long, a.kept, s.spare)

pub carry_out-requires-clause-memory : goal.carry_out-requires-clause-memory
carry_out-requires-clause-memory g c =
    let s = c.args.self.now in
    let others = c.reserved_without-others.result in
    let records = abort_records c.number-t.result (reverse c.undo-undo.result.now) in
    let a = aborted s c.args.session others c.number-t.result c.undo-undo.result.now records (c.active.ensures.0 c.if-not-active.false) c.reserved_without-others.ensures.kept c.number-t.ensures c.undo-undo.ensures refl in
    omega (arith, spare s c.args.session others records a)

pub carry_out-requires-clause-room : goal.carry_out-requires-clause-room
carry_out-requires-clause-room g c =
    let s = c.args.self.now in
    let others = c.reserved_without-others.result in
    let records = abort_records c.number-t.result (reverse c.undo-undo.result.now) in
    let a = aborted s c.args.session others c.number-t.result c.undo-undo.result.now records (c.active.ensures.0 c.if-not-active.false) c.reserved_without-others.ensures.kept c.number-t.ensures c.undo-undo.ensures refl in
    omega (arith, fits s c.args.session others records a)

pub carry_out-requires-clause-inside : goal.carry_out-requires-clause-inside
carry_out-requires-clause-inside g c =
    let s = c.args.self.now in
    let others = c.reserved_without-others.result in
    let records = abort_records c.number-t.result (reverse c.undo-undo.result.now) in
    let a = aborted s c.args.session others c.number-t.result c.undo-undo.result.now records (c.active.ensures.0 c.if-not-active.false) c.reserved_without-others.ensures.kept c.number-t.ensures c.undo-undo.ensures refl in
    below s c.args.session others records a

pub invariant_of-self-2-clause-room : goal.invariant_of-self-2-clause-room
invariant_of-self-2-clause-room g c =
    let s = c.args.self.now in
    let others = c.reserved_without-others.result in
    let records = abort_records c.number-t.result (reverse c.undo-undo.result.now) in
    let a = aborted s c.args.session others c.number-t.result c.undo-undo.result.now records (c.active.ensures.0 c.if-not-active.false) c.reserved_without-others.ensures.kept c.number-t.ensures c.undo-undo.ensures refl in
    omega (arith, (carried c.carry_out.result c.carry_out.ensures.still.1 c.carry_out.ensures.carries).used, fits s c.args.session others records a, (carried c.carry_out.result c.carry_out.ensures.still.1 c.carry_out.ensures.carries).log.place.room)

pub invariant_of-self-2-clause-spare : goal.invariant_of-self-2-clause-spare
invariant_of-self-2-clause-spare g c =
    let s = c.args.self.now in
    let others = c.reserved_without-others.result in
    let records = abort_records c.number-t.result (reverse c.undo-undo.result.now) in
    let a = aborted s c.args.session others c.number-t.result c.undo-undo.result.now records (c.active.ensures.0 c.if-not-active.false) c.reserved_without-others.ensures.kept c.number-t.ensures c.undo-undo.ensures refl in
    (carried c.carry_out.result c.carry_out.ensures.still.1 c.carry_out.ensures.carries).spare others (spare s c.args.session others records a)

pub invariant_of-self-2-clause-sound : goal.invariant_of-self-2-clause-sound
invariant_of-self-2-clause-sound g c =
    let s = c.args.self.now in
    let others = c.reserved_without-others.result in
    let records = abort_records c.number-t.result (reverse c.undo-undo.result.now) in
    let a = aborted s c.args.session others c.number-t.result c.undo-undo.result.now records (c.active.ensures.0 c.if-not-active.false) c.reserved_without-others.ensures.kept c.number-t.ensures c.undo-undo.ensures refl in
    let ended = sound_ended s.table (length (pages_in_memory s.pages).words) s.reserved others s.sealed s.sealed c.args.session a.transaction s.sound a.was a.kept (omega arith) in
    sound_same (with_ended s.table c.args.session) c.end.new.self (length (pages_in_memory s.pages).words) (length (pages_in_memory c.carry_out.new.pages).words) others others s.sealed ended c.end.ensures (carried c.carry_out.result c.carry_out.ensures.still.1 c.carry_out.ensures.carries).size refl

pub returns-clause-aborted : goal.returns-clause-aborted
returns-clause-aborted g c is =
    let s = c.args.self.now in
    let o = transaction_of s.table c.args.session in
    let others = c.reserved_without-others.result in
    let records = abort_records c.number-t.result (reverse c.undo-undo.result.now) in
    let a = aborted s c.args.session others c.number-t.result c.undo-undo.result.now records (c.active.ensures.0 c.if-not-active.false) c.reserved_without-others.ensures.kept c.number-t.ensures c.undo-undo.ensures refl in
    let t = a.transaction in
    let number = told o t (λ v. c.number-t.result ≡ v.number) a.was c.number-t.ensures in
    record {
      transaction = t;
      was = a.was;
      left = record {
        log = subst (λ (rs : List Record). Adds (log_of s.pages) (log_of c.carry_out.new.pages) rs) a.is (adds_carried _ _ _ c.in_ok-carry_out.ensures.carries);
        words = c.in_ok-carry_out.ensures.carries.words ∙ ap (λ (rs : List Record). fold put_record (pages_in_memory s.pages).words rs) a.is;
        lsns = c.in_ok-carry_out.ensures.carries.lsns ∙ ap (λ (rs : List Record). (redo_all (log_next_lsn (log_of s.pages)) (pages_in_memory s.pages) rs).lsns) a.is;
        store = c.in_ok-carry_out.ensures.carries.store;
        table = c.end.ensures;
        locks = c.release.ensures ∙ ap (without s.locks) number;
        spaces = refl;
        collection = refl;
        sealed = refl;
      };
    }
