-- A force, from the log in memory to the image.
use Rattle.std.proofs.Common.{◌≡◌, ◌⊎◌, inl, inr, ℕ, ◌+◌, ◌-◌, ◌^◌, ◌<◌, ◌≤◌, List, [], ◌∷◌, ◌++◌, length, take, drop, true, nat_lt, vec_len, refl, sym, ◌∙◌, ap, subst, arith, length-append}
use Rattle.std.proofs.lemmas.Bool.Decides.{nat_tests}
use Rattle.std.proofs.lemmas.Bool.{cases_lt}
use Rattle.std.proofs.lemmas.List.{append-nil, take_at, drop_at, length-take-le}
use Rattle.std.proofs.lemmas.Grind.{flat_map-append}
use Rattle.std.specs.Int.{w32, to_le_bytes}
use Rattle.disk_model.specs.Disk.{part, Only}
use Rattle.disk_model.specs.Moments.{LeavesOnly}
use Rattle.disk_model.proofs.MomentLaws.{weaker}
use Rattle.disk_model.specs.Disk.{SameOutside}
use Rattle.gate_slot.specs.Gate.{IsGateClosed, IsClosedInEach, IsFilling, filled}
use Rattle.log_records.specs.declared.Record.{Record}
use Rattle.log_records.specs.Record.{spellings}
use Rattle.gated_log.specs.declared.log.Log.{Log}
use Rattle.gated_log.specs.Log.{framed, batch, batches_bytes, records_of, with_batch, HoldsBatches}
use Rattle.gated_log.specs.LogRoom.{used_bytes}
use Rattle.gated_log.proofs.LogLaws.{buffer_size-Keeps}
use Rattle.gated_log.specs.LogState.{Keeps}
use Rattle.gated_log.proofs.LogBytes.{batches_bytes-push, closed_gate, holds_forced, holds_in_force}

-- if records are pending there is one more batch
with_some : (batches : List (List Record)) (pending : List Record) → 0 < length (spellings pending) → with_batch batches pending ≡ batches ++ pending ∷ []
with_some batches [] some = absurd (omega arith)
with_some batches (r ∷ rs) some = refl

pub waiting : (buffer : ℕ) → nat_lt 4 buffer ≡ true → 4 < buffer
waiting buffer is = grind (arith, nat_tests)

pub used_waiting : (tail buffer : ℕ) → nat_lt 4 buffer ≡ true → used_bytes tail buffer ≡ tail + 2 + buffer
used_waiting tail buffer is = rw is refl

-- few bytes are used, so few records are there
pub few_bytes : (tail buffer room : ℕ) → used_bytes tail buffer ≤ room → room < 2 ^ 32 → tail + buffer < 2 ^ 33
few_bytes tail buffer room fits small = elim (cases_lt 4 buffer) [
  | inl waits ↦ grind (arith, nat_tests)
  | inr none ↦ grind (arith, nat_tests)
]

pub few_records : (log : Log) → log.forced + log.waiting < 2 ^ 33
few_records log = omega (arith, few_bytes log.tail (vec_len log.buffer) log.room log.fits log.small, log.few_forced, log.few_waiting)

module _ (log : Log) (image buffer : List ℕ) (batches : List (List Record)) (pending : List Record) (waits : nat_lt 4 (vec_len log.buffer) ≡ true)
    (closes : buffer ≡ to_le_bytes w32 (vec_len log.buffer - 4) ++ drop 4 log.buffer.items ++ 0 ∷ []) (keeps : Keeps log batches pending) where
  size : vec_len log.buffer ≡ 4 + length (spellings pending)
  size = buffer_size-Keeps log batches pending keeps

  with_more : with_batch batches pending ≡ batches ++ pending ∷ []
  with_more = with_some batches pending (omega (arith, size, waiting (vec_len log.buffer) waits))

  closed_buffer : buffer ≡ framed pending ++ 0 ∷ []
  closed_buffer =
      let length_is : vec_len log.buffer - 4 ≡ length (spellings pending) = omega (arith, size) in
      closes ∙ ap (λ (l : List ℕ). to_le_bytes w32 (vec_len log.buffer - 4) ++ l ++ 0 ∷ []) (ap (λ (l : List ℕ). drop 4 l) keeps.items ∙ drop_at keeps.head (spellings pending) 4 keeps.four)
      ∙ ap (λ (k : ℕ). to_le_bytes w32 k ++ spellings pending ++ 0 ∷ []) length_is

  batch_length : length (framed pending ++ 0 ∷ []) ≡ 5 + length (spellings pending)
  batch_length = length-append (framed pending) (0 ∷ []) ∙ ap (λ (k : ℕ). k + 1) (length-append (to_le_bytes w32 (length (spellings pending))) (spellings pending)) ∙ omega arith

  fits : log.tail + 1 + length (framed pending ++ 0 ∷ []) ≤ log.room
  fits = omega (arith, log.fits, used_waiting log.tail (vec_len log.buffer) waits, size, batch_length)

  -- without the next gate, the pending records
  pub keeps_still : (new : Log) (n : ℕ) → n + 1 ≡ length buffer → new.tail ≡ log.tail → new.buffer.items ≡ take n buffer → new.forced ≡ log.forced → new.waiting ≡ log.waiting → Keeps new batches pending
  keeps_still new n end tail items forced waiting =
      let whole : n ≡ length (framed pending) = omega (arith, end, ap length closed_buffer, length-append (framed pending) (0 ∷ [])) in
      record {
        tail = tail ∙ keeps.tail;
        head = to_le_bytes w32 (length (spellings pending));
        four = refl;
        items = items ∙ ap (take n) closed_buffer ∙ take_at (framed pending) (0 ∷ []) n (sym whole);
        forced = forced ∙ keeps.forced;
        count = omega (arith, forced, waiting, keeps.count);
      }

  -- the log in memory, after the new batch
  pub keeps_forced : (new : Log) → new.tail ≡ log.tail + length buffer → new.buffer.items ≡ take 4 buffer → new.forced ≡ log.forced + log.waiting → new.waiting ≡ 0 → Keeps new (with_batch batches pending) []
  keeps_forced new tail items forced waiting =
      rw with_more record {
        tail = tail ∙ ap (λ (l : List ℕ). log.tail + length l) closed_buffer ∙ longer;
        head = take 4 buffer;
        four = length-take-le 4 buffer (omega (arith, ap length closed_buffer, batch_length));
        items = items ∙ sym (append-nil (take 4 buffer));
        forced = forced ∙ keeps.count ∙ sym counted;
        count = omega (arith, forced, waiting, keeps.count, counted);
      }
    where
      counted : length (records_of (batches ++ pending ∷ [])) ≡ length (records_of batches) + length pending
      counted = ap length (flat_map-append (λ (l : List Record). l) batches (pending ∷ []) ∙ ap (λ (l : List Record). records_of batches ++ l) (append-nil pending)) ∙ length-append (records_of batches) pending

      longer : log.tail + length (framed pending ++ 0 ∷ []) ≡ length (batches_bytes (batches ++ pending ∷ []))
      longer = omega (arith, keeps.tail, ap length (batches_bytes-push batches pending), length-append (batches_bytes batches) (batch pending), length-append (framed pending) (0 ∷ []))

  module _ (tail : ℕ) (same : tail ≡ log.tail) (inside : log.at + log.room ≤ length image) (holds : HoldsBatches (part image log.at log.room) batches) where
    abbrev gate : ℕ
    gate = log.at + tail

    end : tail ≡ length (batches_bytes batches)
    end = same ∙ keeps.tail

    room_left : tail + 1 + length (framed pending ++ 0 ∷ []) ≤ log.room
    room_left = omega (arith, fits, same)

    closed : IsGateClosed gate image
    closed = closed_gate log.at log.room tail image batches pending end inside room_left holds

    pub forced : HoldsBatches (part (filled gate (gate + 1) buffer image) log.at log.room) (with_batch batches pending)
    forced = rw (with_more, closed_buffer) (holds_forced log.at log.room tail image batches pending end inside room_left holds)

    in_force : (new : List ℕ) → IsFilling gate (gate + 1) buffer image image new
        → SameOutside log.at (log.at + log.room) image new × (HoldsBatches (part new log.at log.room) batches ⊎ HoldsBatches (part new log.at log.room) (with_batch batches pending))
    in_force new filling = rw with_more (holds_in_force log.at log.room tail image batches pending end inside room_left holds new (rw closed_buffer at filling))

    -- each moment of a force
    pub moments : {D : Type 0} (moment : D → ℕ) (left_since : D → ℕ → List ℕ → Type 0) (may_leave : List ℕ → Type 0) (old new : D) → Only image may_leave
        → (IsClosedInEach gate may_leave → LeavesOnly moment left_since old new (λ c. (d : List ℕ) × may_leave d × IsFilling gate (gate + 1) buffer image d c))
        → LeavesOnly moment left_since old new (λ c. SameOutside log.at (log.at + log.room) image c × (HoldsBatches (part c log.at log.room) batches ⊎ HoldsBatches (part c log.at log.room) (with_batch batches pending)))
    moments moment left_since may_leave old new only run =
        weaker moment left_since old new _ _ (run (λ c left. subst (λ (d : List ℕ). IsGateClosed gate d) (sym (only c left)) closed))
        (λ c from. in_force c (subst (λ (d : List ℕ). IsFilling gate (gate + 1) buffer image d c) (only from.0 from.1) from.2))
