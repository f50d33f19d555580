-- The bytes of a log that are pending after an append, and the memory that it has left after a force.
use Rattle.std.proofs.Common.{◌≡◌, ℕ, ◌+◌, ◌<◌, ◌≤◌, Result, Ok, Err, sym, ap, ◌∙◌, arith}
use Rattle.std.specs.Prelude.{OnOk, OnErr}
use Rattle.std.proofs.lemmas.Bool.Decides.{nat_tests}
use Rattle.gated_log.specs.declared.log.Log.{Log}
use Rattle.gated_log.specs.LogRoom.{used_bytes, need_bytes}
use Rattle.gated_log.specs.LogState.{log_tail, buffer_size, log_need, log_used, IsBufferEmpty, HasSpare, KeepsMemory}

less_used : (tail a b : ℕ) → 4 ≤ a → 4 ≤ b → used_bytes tail a ≤ used_bytes tail b → a ≤ b
less_used tail a b one two is = grind (arith, nat_tests)

need_tells : (tail a b n : ℕ) → 4 ≤ a → 4 ≤ b → 0 < n → used_bytes tail b ≡ used_bytes tail a + need_bytes a n → b ≡ a + n
need_tells tail a b n one two some is = grind (arith, nat_tests)

-- the pending bytes after one record was appended
pub size_after : (old new : Log) (n : ℕ) → 0 < n → log_tail new ≡ log_tail old → log_used new ≡ log_used old + log_need old n → buffer_size new ≡ buffer_size old + n
size_after old new n some tail used =
    need_tells (log_tail old) (buffer_size old) (buffer_size new) n old.has_head new.has_head some (ap (λ t. used_bytes t (buffer_size new)) (sym tail) ∙ used)

-- a force drops what was pending, or nothing
pub spare_forced : {A E : Type 0} (r : Result A E) (old new : Log) (more : ℕ) → OnOk r (IsBufferEmpty new) → OnErr r (log_tail new ≡ log_tail old) → log_used new ≤ log_used old → KeepsMemory old new
    → HasSpare old more → HasSpare new more
spare_forced (Ok a) old new more empty tail used memory spare = omega (arith, empty, old.has_head, memory, spare)
spare_forced (Err e) old new more empty tail used memory spare =
    let same = ap (λ t. used_bytes t (buffer_size new)) (sym tail) in
    omega (arith, less_used (log_tail old) (buffer_size new) (buffer_size old) new.has_head old.has_head (omega (arith, used, same)), memory, spare)
