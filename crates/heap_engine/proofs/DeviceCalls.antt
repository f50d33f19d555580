-- How many device calls an event makes.
use Rattle.std.proofs.Common.{◌≡◌, ℕ, ◌+◌, cond, List, [], ◌∷◌, length, Option, Some, None, Result, Ok, Err, refl, sym, ap, ◌∙◌, subst, arith}
use Rattle.std.specs.Prelude.{OnOk, nat_lt, if◌then◌else◌}
use Rattle.std.proofs.lemmas.Bool.{lt-ltb}
use Rattle.counts.specs.Count.{counted}
use Rattle.disk_model.specs.Moments.{LeavesOnly}
use Rattle.disk_model.proofs.MomentLaws.{begins}
use Rattle.disk_model.specs.declared.disk.DiskError.{DiskError}
use Rattle.gate_slot.specs.Passing.{Passes}
use Rattle.gated_log.specs.declared.log.Log.{Log}
use Rattle.gated_log.proofs.LogLaws.{buffer_size-Keeps}
use Rattle.gated_log.specs.LogState.{buffer_size, is_waiting, IsBufferEmpty, Keeps}
use Rattle.graph_model.specs.declared.event.Event.{Event}
use Rattle.graph_model.specs.declared.event.Event.TheVariants.{Force}
use Rattle.graph_model.specs.declared.reply.Refusal.{Refusal}
use Rattle.log_records.specs.declared.Record.{Record}
use Rattle.log_records.specs.Record.{spellings}
use Rattle.heap_model.specs.Core.{Core, core_refusal, noted, transfers, force_calls, calls_of, calls_if, calls}
use Rattle.core_laws.proofs.Run.Events.{calls-forced}
use Rattle.core_laws.specs.Valid.{IsValid}
use Rattle.memory_laws.proofs.Kept.Log.{some_spellings}

-- an event that asks nothing of the disk
pub stays : {D : Type 0} (moment : D → ℕ) (left_since : D → ℕ → List ℕ → Type 0) (disk : D) (may_leave P : List ℕ → Type 0)
    → ((d : List ℕ) → left_since disk (moment disk) d → may_leave d) → ((d : List ℕ) → may_leave d → P d) → LeavesOnly moment left_since disk disk P
stays moment left_since disk may_leave P now here = begins moment left_since disk P (λ d left. here d (now d left))

all_of_none : (before : ℕ) (result : Result (Unit {0}) DiskError) → OnOk result (before ≡ counted 0 before)
all_of_none before (Ok nothing) = refl
all_of_none before (Err e) = tt

-- no calls are all of none
pub none_pass : (n before : ℕ) (result : Result (Unit {0}) DiskError) → n ≡ 0 → Passes n before before result
none_pass n before result none = subst (λ (k : ℕ). Passes k before before result) (sym none) (record {
  ok = all_of_none before result;
  some = (0, (omega arith), refl);
  stopped = λ same any. absurd (omega (arith, any));
})

quiet_calls : (o : Option Refusal) (c : Core) (event : Event) → transfers c event ≡ [] → calls_if o c event ≡ 0
quiet_calls (Some why) c event none = refl
quiet_calls None c event none = ap (calls_of (noted c event)) none

pub quiet_passes : (c : Core) (event : Event) (before : ℕ) (result : Result (Unit {0}) DiskError) → transfers c event ≡ [] → Passes (calls c event) before before result
quiet_passes c event before result none = none_pass (calls c event) before result (quiet_calls (core_refusal c event) c event none)

-- what a log says of its buffer, says whether a force makes calls
pub hand_calls : (n : ℕ) (p : List Record) → n ≡ 4 + length (spellings p) → (if nat_lt 4 n then 4 else 0) ≡ force_calls p
hand_calls n [] is = ap (λ (k : ℕ). if nat_lt 4 k then 4 else 0) is
hand_calls n (r ∷ rs) is = ap (λ b. cond b 4 0) (lt-ltb 4 n (omega (arith, is, some_spellings r rs)))

-- a force makes four calls if something is pending
pub force_passes : (c : Core) (log : Log) (before now : ℕ) (result : Result (Unit {0}) DiskError) → IsValid c → Keeps log c.batches c.pending
    → Passes (if is_waiting log then 4 else 0) before now result → Passes (calls c Force) before now result
force_passes c log before now result valid keeps passes =
    subst (λ (n : ℕ). Passes n before now result) (hand_calls (buffer_size log) c.pending (buffer_size-Keeps log c.batches c.pending keeps) ∙ sym (calls-forced c valid)) passes

nothing_pending : (p : List Record) → force_calls p ≡ 0 → p ≡ []
nothing_pending [] none = refl
nothing_pending (r ∷ rs) none = absurd (omega (arith, none))

-- and finds an empty buffer where it makes none
pub no_calls_empty : (c : Core) (log : Log) → IsValid c → Keeps log c.batches c.pending → calls c Force ≡ 0 → IsBufferEmpty log
no_calls_empty c log valid keeps none =
    buffer_size-Keeps log c.batches c.pending keeps ∙ ap (λ (p : List Record). 4 + length (spellings p)) (nothing_pending c.pending (sym (calls-forced c valid) ∙ none))
