use Rattle.std.proofs.Common.{◌≡◌, ℕ, ◌+◌, ◌≤◌, List, length, Some, refl, sym, ap, ◌∙◌, subst, arith}
use Rattle.std.specs.Prelude.{IsSome, IfSome, fold}
use Rattle.gated_log.specs.LogState.{log_room, log_used_with, HasSpare}
use Rattle.logged_pages.specs.State.{log_of, pages_in_memory}
use Rattle.heap_model.specs.Lsns.{log_next_lsn}
use Rattle.heap_spaces.specs.Spaces.{SpacesState, with_taken}
use Rattle.log_records.specs.declared.Record.{Record}
use Rattle.log_records.specs.Record.{spellings}
use Rattle.log_machine.specs.Machine.{words_in, put_record, end_bytes}
use Rattle.object_locks.specs.Holdings.{without}
use Rattle.page_redo.specs.Redo.{redo_all}
use Rattle.txn_table.specs.Table.{TransactionState, transaction_of, with_ended}
use Rattle.heap_memory.specs.Leaves.{Adds}
use Rattle.heap_memory.specs.Refusals.{reserved_without}
use Rattle.heap_engine.specs.Seal.{IsSealOf}
use Rattle.heap_engine.specs.EngineState.{memory}
use Rattle.heap_engine.specs.declared.engine.Engine.{Engine}
use Rattle.heap_engine.proofs.Carried.{adds_carried, carried}
use Rattle.heap_engine.proofs.Tables.{there, told, sound_same, sound_ended}
use Rattle.heap_engine.proofs.Room.{taken_is}
use Rattle.heap_engine.proofs.engine.Engine.append_seal.Goals as goal

-- The transaction that is sealed, and what its seal asks for.
record IsSealed (s : Engine) (session need others : ℕ) (records : List Record) : Type 0 where
  transaction : TransactionState
  was : transaction_of s.table session ≡ Some transaction
  seals : IsSealOf (memory s) transaction need records
  kept : others + end_bytes (length transaction.undo) ≡ s.reserved
  fits : log_used_with (log_of s.pages) (length (spellings records)) + others ≤ log_room (log_of s.pages)
  spare : HasSpare (log_of s.pages) (length (spellings records) + others)

sealed : (s : Engine) (session need others : ℕ) (records : List Record) → IsSome (transaction_of s.table session) → IfSome (transaction_of s.table session) (λ t. IsSealOf (memory s) t need records)
    → IfSome (transaction_of s.table session) (λ t. others ≡ reserved_without s.table t) → IfSome (transaction_of s.table session) (λ t. others + end_bytes (length t.undo) ≡ s.reserved)
    → IfSome (transaction_of s.table session) (λ t. log_used_with (log_of s.pages) (length (spellings records)) + reserved_without s.table t ≤ log_room (log_of s.pages))
    → IfSome (transaction_of s.table session) (λ t. HasSpare (log_of s.pages) (length (spellings records) + reserved_without s.table t))
    → IsSealed s session need others records
sealed s session need others records some seals is kept fits spare =
    let o = transaction_of s.table session in
    let t = there o some in
    let same = told o t.0 (λ v. others ≡ reserved_without s.table v) t.1 is in
    record {
      transaction = t.0;
      was = t.1;
      seals = told o t.0 (λ v. IsSealOf (memory s) v need records) t.1 seals;
      kept = told o t.0 (λ v. others + end_bytes (length v.undo) ≡ s.reserved) t.1 kept;
      fits = omega (arith, same, told o t.0 (λ v. log_used_with (log_of s.pages) (length (spellings records)) + reserved_without s.table v ≤ log_room (log_of s.pages)) t.1 fits);
      spare = omega (arith, same, told o t.0 (λ v. HasSpare (log_of s.pages) (length (spellings records) + reserved_without s.table v)) t.1 spare);
    }

pub overflow_add-self : goal.overflow_add-self
overflow_add-self g c =
    let s = c.args.self.now in
    omega (arith, s.sound.counted, s.sound.numbered)

pub carry_out-requires-clause-memory : goal.carry_out-requires-clause-memory
carry_out-requires-clause-memory g c =
    let s = c.args.self.now in
    let is = sealed s c.args.session c.args.need c.reserved_without-others.result c.args.records.now c.requires.active c.requires.seals c.reserved_without-others.ensures.without c.reserved_without-others.ensures.kept c.requires.room c.requires.memory in
    omega (arith, is.spare)

pub carry_out-requires-clause-room : goal.carry_out-requires-clause-room
carry_out-requires-clause-room g c =
    let s = c.args.self.now in
    let is = sealed s c.args.session c.args.need c.reserved_without-others.result c.args.records.now c.requires.active c.requires.seals c.reserved_without-others.ensures.without c.reserved_without-others.ensures.kept c.requires.room c.requires.memory in
    omega (arith, is.fits)

pub invariant_of-self-2-clause-room : goal.invariant_of-self-2-clause-room
invariant_of-self-2-clause-room g c =
    let s = c.args.self.now in
    let is = sealed s c.args.session c.args.need c.reserved_without-others.result c.args.records.now c.requires.active c.requires.seals c.reserved_without-others.ensures.without c.reserved_without-others.ensures.kept c.requires.room c.requires.memory in
    omega (arith, (carried c.carry_out.result c.carry_out.ensures.still.1 c.carry_out.ensures.carries).used, is.fits, (carried c.carry_out.result c.carry_out.ensures.still.1 c.carry_out.ensures.carries).log.place.room)

pub invariant_of-self-2-clause-spare : goal.invariant_of-self-2-clause-spare
invariant_of-self-2-clause-spare g c =
    let s = c.args.self.now in
    let is = sealed s c.args.session c.args.need c.reserved_without-others.result c.args.records.now c.requires.active c.requires.seals c.reserved_without-others.ensures.without c.reserved_without-others.ensures.kept c.requires.room c.requires.memory in
    (carried c.carry_out.result c.carry_out.ensures.still.1 c.carry_out.ensures.carries).spare c.reserved_without-others.result is.spare

pub invariant_of-self-2-clause-sound : goal.invariant_of-self-2-clause-sound
invariant_of-self-2-clause-sound g c =
    let s = c.args.self.now in
    let others = c.reserved_without-others.result in
    let is = sealed s c.args.session c.args.need others c.args.records.now c.requires.active c.requires.seals c.reserved_without-others.ensures.without c.reserved_without-others.ensures.kept c.requires.room c.requires.memory in
    let ended = sound_ended s.table (length (pages_in_memory s.pages).words) s.reserved others s.sealed (s.sealed + 1) c.args.session is.transaction s.sound is.was is.kept (omega arith) in
    sound_same (with_ended s.table c.args.session) c.end.new.self (length (pages_in_memory s.pages).words) (length (pages_in_memory c.carry_out.new.pages).words) others others (s.sealed + 1) ended c.end.ensures (carried c.carry_out.result c.carry_out.ensures.still.1 c.carry_out.ensures.carries).size refl

pub invariant_of-self-2-clause-sized : goal.invariant_of-self-2-clause-sized
invariant_of-self-2-clause-sized g c =
    let s = c.args.self.now in
    let taken = taken_is c.take-taken.result s.spaces c.take-taken.new.self c.args.need c.args.need c.take-taken.ensures.exhausted c.take-taken.ensures.taken refl c.requires.space in
    (carried c.carry_out.result c.carry_out.ensures.still.1 c.carry_out.ensures.carries).size ∙ s.sized ∙ sym (ap (λ (spaces : SpacesState). words_in spaces.pages) taken)

pub returns-clause-sealed : goal.returns-clause-sealed
returns-clause-sealed g c =
    let s = c.args.self.now in
    let others = c.reserved_without-others.result in
    let is = sealed s c.args.session c.args.need others c.args.records.now c.requires.active c.requires.seals c.reserved_without-others.ensures.without c.reserved_without-others.ensures.kept c.requires.room c.requires.memory in
    let as_number = told (transaction_of s.table c.args.session) is.transaction (λ v. c.number.result ≡ v.number) is.was c.number.ensures in
    let taken = taken_is c.take-taken.result s.spaces c.take-taken.new.self c.args.need c.args.need c.take-taken.ensures.exhausted c.take-taken.ensures.taken refl c.requires.space in
    record {
      transaction = is.transaction;
      was = is.was;
      left = record {
        log = subst (λ (rs : List Record). Adds (log_of s.pages) (log_of c.carry_out.new.pages) rs) is.seals.appends (adds_carried _ _ _ c.in_ok-carry_out.ensures.carries);
        words = c.in_ok-carry_out.ensures.carries.words ∙ ap (λ (rs : List Record). fold put_record (pages_in_memory s.pages).words rs) is.seals.appends;
        lsns = c.in_ok-carry_out.ensures.carries.lsns ∙ ap (λ (rs : List Record). (redo_all (log_next_lsn (log_of s.pages)) (pages_in_memory s.pages) rs).lsns) is.seals.appends;
        store = c.in_ok-carry_out.ensures.carries.store;
        table = c.end.ensures;
        locks = c.release.ensures ∙ ap (without s.locks) as_number;
        spaces = taken ∙ ap (with_taken s.spaces) is.seals.takes;
        collection = refl;
        sealed = refl;
      };
    }
