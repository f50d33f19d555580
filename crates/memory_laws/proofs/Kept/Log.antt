-- The log in memory and a core's: what is used of it, and the bytes that records take.
use Rattle.std.proofs.Common.{◌≡◌, ◌≢◌, ℕ, ◌+◌, ◌<◌, ◌≤◌, Bool, true, false, cond, List, [], ◌∷◌, ◌++◌, length, refl, ap, ◌∙◌, arith, length-append}
use Rattle.std.specs.Prelude.{◌↔◌, IsTrue, nat_lt}
use Rattle.std.proofs.lemmas.Bool.{lt-ltb, ltb-true}
use Rattle.std.proofs.lemmas.Grind.{flat_map-append}
use Rattle.gated_log.specs.declared.log.Log.{Log}
use Rattle.gated_log.specs.Log.{batches_bytes, pending_batch}
use Rattle.gated_log.specs.LogRoom.{used_bytes, need_bytes}
use Rattle.gated_log.proofs.LogLaws.{buffer_size-Keeps}
use Rattle.gated_log.specs.LogState.{log_tail, buffer_size, is_waiting, log_used, log_need, Keeps, IsSameLog}
use Rattle.log_records.specs.declared.Record.{Record}
use Rattle.log_records.specs.Record.{spelling, spellings}
use Rattle.log_records.proofs.RecordLaws.{some_spelling}
use Rattle.heap_model.specs.Core.{need}
use Rattle.heap_model.proofs.Step.Room.{length-pending_batch-append}

-- records take some bytes
pub some_spellings : (r : Record) (rs : List Record) → 0 < length (spellings (r ∷ rs))
some_spellings r rs = omega (arith, some_spelling r, length-append (spelling r) (spellings rs))

used_plain : (tail n : ℕ) (p : List Record) → n ≡ 4 + length (spellings p) → used_bytes tail n ≡ tail + 1 + length (pending_batch p)
used_plain tail n [] e = ap (used_bytes tail) e ∙ omega arith
used_plain tail n (r ∷ rs) e =
    ap (λ b. cond b (tail + 2 + n) (tail + 1)) (lt-ltb 4 n (omega (arith, e, some_spellings r rs)))
    ∙ omega (arith, e, length-pending_batch-append [] (r ∷ rs))

-- the bytes that are used
pub used_same : (log : Log) (bs : List (List Record)) (p : List Record) → Keeps log bs p → log_used log ≡ length (batches_bytes bs) + 1 + length (pending_batch p)
used_same log bs p keeps = used_plain (log_tail log) (buffer_size log) p (buffer_size-Keeps log bs p keeps) ∙ ap (λ (k : ℕ). k + 1 + length (pending_batch p)) keeps.tail

need_plain : (n own : ℕ) (p : List Record) (r : Record) (rs : List Record) → n ≡ 4 + length (spellings p) → own ≡ length (spellings (r ∷ rs)) → need_bytes n own ≡ need p (r ∷ rs)
need_plain n own [] r rs e is = ap (λ (k : ℕ). need_bytes k own) e ∙ omega (arith, is)
need_plain n own (q ∷ qs) r rs e is = ap (λ b. cond b own (own + 5)) (lt-ltb 4 n (omega (arith, e, some_spellings q qs))) ∙ is

-- the bytes that records take
pub need_all : (log : Log) (bs : List (List Record)) (p : List Record) (r : Record) (rs : List Record) → Keeps log bs p → log_need log (length (spellings (r ∷ rs))) ≡ need p (r ∷ rs)
need_all log bs p r rs keeps = need_plain (buffer_size log) (length (spellings (r ∷ rs))) p r rs (buffer_size-Keeps log bs p keeps) (omega arith)

-- those that one takes
pub need_same : (log : Log) (bs : List (List Record)) (p : List Record) (r : Record) → Keeps log bs p → log_need log (length (spelling r)) ≡ need p (r ∷ [])
need_same log bs p r keeps = need_plain (buffer_size log) (length (spelling r)) p r [] (buffer_size-Keeps log bs p keeps) (omega (arith, length-append (spelling r) []))

-- those that several take after others
pub length_spellings : (rs more : List Record) → length (spellings (rs ++ more)) ≡ length (spellings rs) + length (spellings more)
length_spellings rs more = ap (λ (l : List ℕ). length l) (flat_map-append spelling rs more) ∙ length-append (spellings rs) (spellings more)

-- and with one at their end
pub need_records : (log : Log) (bs : List (List Record)) (p rs : List Record) (last : Record) → Keeps log bs p → log_need log (length (spellings (rs ++ last ∷ []))) ≡ need p (rs ++ last ∷ [])
need_records log bs p [] last keeps = need_all log bs p last [] keeps
need_records log bs p (r ∷ rs) last keeps = need_all log bs p r (rs ++ last ∷ []) keeps

more_plain : (b : Bool) (n m : ℕ) → n ≤ m → cond b n (n + 5) ≤ cond b m (m + 5)
more_plain true n m le = le
more_plain false n m le = omega (arith, le)

-- more bytes need no less
pub need_more : (log : Log) (n m : ℕ) → n ≤ m → log_need log n ≤ log_need log m
need_more log n m le = more_plain (nat_lt 4 (buffer_size log)) n m le

waits_plain : (n : ℕ) (p : List Record) → n ≡ 4 + length (spellings p) → IsTrue (nat_lt 4 n) ↔ (p ≢ [])
waits_plain n [] e = (λ more none. omega (arith, e, ltb-true 4 n more), λ some. absurd (some refl))
waits_plain n (r ∷ rs) e = (λ more none. cc, λ some. lt-ltb 4 n (omega (arith, e, some_spellings r rs)))

-- whether records are pending
pub some_waits : (log : Log) (bs : List (List Record)) (p : List Record) → Keeps log bs p → IsTrue (is_waiting log) ↔ (p ≢ [])
some_waits log bs p keeps = waits_plain (buffer_size log) p (buffer_size-Keeps log bs p keeps)

-- a log that is the same keeps the same
pub keeps_same : (old new : Log) (bs : List (List Record)) (p : List Record) → IsSameLog old new → Keeps old bs p → Keeps new bs p
keeps_same old new bs p same keeps = record {
  tail = same.place.tail ∙ keeps.tail;
  head = keeps.head;
  four = keeps.four;
  items = same.buffer ∙ keeps.items;
  forced = same.place.forced ∙ keeps.forced;
  count = same.count ∙ keeps.count;
}
