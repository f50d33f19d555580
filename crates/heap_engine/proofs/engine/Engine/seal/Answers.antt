use Rattle.std.specs.Prelude.{IfOk}
use Rattle.std.proofs.Common.{[], ◌∷◌, ◌≡◌, ◌+◌, ◌≤◌, List, Result, length, sym, ap, ◌∙◌, subst, arith}
use Rattle.gated_log.specs.LogState.{log_room, log_used_with}
use Rattle.log_records.specs.declared.Record.{Record}
use Rattle.log_records.specs.Record.{spellings}
use Rattle.log_machine.specs.Machine.{end_bytes}
use Rattle.txn_table.specs.Table.{transaction_of}
use Rattle.graph_model.specs.Plain.{reply_of}
use Rattle.graph_model.specs.declared.reply.Reply.TheVariants.{Sealed}
use Rattle.log_records.specs.declared.Record.TheVariants.{Commit}
use Rattle.gated_log.specs.LogState.{HasSpare}
use Rattle.volatile_area.specs.Area.{AreaState}
use Rattle.graph_model.specs.declared.reply.Reply.{Reply}
use Rattle.logged_pages.specs.State.{log_of}
use Rattle.heap_memory.specs.Refusals.{reserved_without, seal_refusal}
use Rattle.heap_engine.specs.declared.step_error.StepError.{StepError}
use Rattle.heap_engine.specs.Ending.{SealsAlone}
use Rattle.heap_engine.specs.Seal.{IsSealOf}
use Rattle.heap_engine.specs.EngineState.{memory}
use Rattle.heap_engine.proofs.Alone.{alone_need, alone_room, alone_spare, alone_granted}
use Rattle.heap_engine.proofs.Tables.{there, told, say}
use Rattle.heap_engine.proofs.engine.Engine.seal.Goals as goal

pub bytes_of-bytes-requires : goal.bytes_of-bytes-requires
bytes_of-bytes-requires g c = omega (arith, c.in_ok-records.ensures.few, ap (λ (rs : List Record). length (spellings rs)) c.deref.ensures.value)

pub reserve_room-requires-clause-few : goal.reserve_room-requires-clause-few
reserve_room-requires-clause-few g c = omega (arith, c.bytes_of-bytes.ensures, c.in_ok-records.ensures.few, ap (λ (rs : List Record). length (spellings rs)) c.deref.ensures.value)

pub reserve_room-requires-clause-kept : goal.reserve_room-requires-clause-kept
reserve_room-requires-clause-kept g c =
    let s = c.args.self.now in
    let o = transaction_of s.table c.args.session in
    let t = there o (c.active.ensures.0 c.if-not-active.false) in
    let kept = told o t.0 (λ v. c.reserved_without-others.result + end_bytes (length v.undo) ≡ s.reserved) t.1 c.reserved_without-others.ensures.kept in
    omega (arith, kept, s.room, (log_of s.pages).small)

-- A seal that promotes nothing.

pub append_seal-requires-clause-seals : goal.append_seal-requires-clause-seals
append_seal-requires-clause-seals g c =
    let s = c.args.self.now in
    let o = transaction_of s.table c.args.session in
    let t = there o (c.active.ensures.0 c.if-not-active.false) in
    let alone = subst (SealsAlone (memory s)) t.1 (c.seals_alone.ensures.0 c.if-seals_alone.true) in
    let area = told o t.0 (λ v. c.area.result.now ≡ v.area) t.1 c.area.ensures in
    say o t.0 (λ v. IsSealOf (memory s) v 0 (Commit c.transaction-t.result ∷ [])) t.1
    (record { takes = sym (alone_need (memory s) t.0 alone); appends = ap (λ n. Commit n ∷ []) (c.transaction-t.ensures ∙ ap (λ (a : AreaState). a.transaction) area) ∙ sym alone })

pub append_seal-requires-clause-room : goal.append_seal-requires-clause-room
append_seal-requires-clause-room g c =
    let s = c.args.self.now in
    let o = transaction_of s.table c.args.session in
    let t = there o (c.active.ensures.0 c.if-not-active.false) in
    say o t.0 (λ v. log_used_with (log_of s.pages) 5 + reserved_without s.table v ≤ log_room (log_of s.pages)) t.1 (alone_room s c.args.session t.0 t.1)

pub append_seal-requires-clause-memory : goal.append_seal-requires-clause-memory
append_seal-requires-clause-memory g c =
    let s = c.args.self.now in
    let o = transaction_of s.table c.args.session in
    let t = there o (c.active.ensures.0 c.if-not-active.false) in
    say o t.0 (λ v. HasSpare (log_of s.pages) (5 + reserved_without s.table v)) t.1 (alone_spare s c.args.session t.0 t.1)

pub returns-then-seals_alone-clause-reply : goal.returns-then-seals_alone-clause-reply
returns-then-seals_alone-clause-reply g c =
    let s = c.args.self.now in
    let t = there (transaction_of s.table c.args.session) (c.active.ensures.0 c.if-not-active.false) in
    let none = alone_granted s c.args.session t.0 t.1 (c.seals_alone.ensures.0 c.if-seals_alone.true) in
    let P : Result Reply StepError → Type 0 = λ r. IfOk r (λ reply. reply ≡ reply_of (seal_refusal (memory s) c.args.session) (Sealed (s.sealed + 1))) in
    subst P (sym c.append_seal.ensures.reply) (sym (ap (λ o. reply_of o (Sealed (s.sealed + 1))) none))
