-- A transaction that ends is one fewer.
use Rattle.std.proofs.Common.{◌≡◌, ℕ, Option, None, Some, ap, arith}
use Rattle.std.specs.Prelude.{IsSome}
use Rattle.graph_model.specs.Plain.{reply_of}
use Rattle.graph_model.specs.declared.reply.Reply.{Reply}
use Rattle.graph_model.specs.declared.reply.Reply.TheVariants.{Aborted}
use Rattle.txn_table.specs.Table.{TransactionState, TableState}
use Rattle.heap_memory.specs.Leaves.{Seals, Aborts}
use Rattle.heap_memory.specs.Refusals.{end_refusal}
use Rattle.heap_engine.specs.declared.engine.Engine.{Engine}
use Rattle.heap_engine.specs.Ending.{EndsOne}
use Rattle.heap_engine.specs.EngineState.{memory}
use Rattle.heap_engine.specs.Reserve.{active_count}
use Rattle.heap_engine.proofs.ReserveLaws.{count_ended}

pub ends_sealed : (old new : Engine) (s : ℕ) → Seals (memory old) (memory new) s → EndsOne (memory old) (memory new) 1
ends_sealed old new s sealed = record {
  active = omega (arith, count_ended old.table s sealed.transaction (old.sound.each s sealed.transaction sealed.was).session sealed.was, ap (λ (t : TableState). active_count t) sealed.left.table);
  sealed = sealed.left.sealed;
}

pub ends_aborted : (old new : Engine) (s : ℕ) → Aborts (memory old) (memory new) s → EndsOne (memory old) (memory new) 0
ends_aborted old new s aborted = record {
  active = omega (arith, count_ended old.table s aborted.transaction (old.sound.each s aborted.transaction aborted.was).session aborted.was, ap (λ (t : TableState). active_count t) aborted.left.table);
  sealed = omega (arith, aborted.left.sealed);
}

-- the end of an active transaction is granted
pub ends_granted : (o : Option TransactionState) (reply : Reply) → IsSome o → reply ≡ reply_of (end_refusal o) Aborted → reply ≡ Aborted
ends_granted None reply some is = absurd (cc some)
ends_granted (Some t) reply some is = is
