-- Bytes begin with a whole batch, or they do not; so the bytes of a log hold batches, or break off at an offset.
use Rattle.std.proofs.Common.{◌≡◌, inl, inr, ℕ, zero, suc, ◌≤◌, ◌<◌, ◌^◌, List, [], ◌∷◌, ◌++◌, length, length-append, length-drop, get_or, take, drop, refl, sym, ap, ◌∙◌, arith}
use Rattle.std.proofs.lemmas.Bool.{cases_lt}
use Rattle.std.proofs.lemmas.List.{take-append-drop, length-take-le, take_at}
use Rattle.std.specs.Int.{w32, to_le_bytes}
use Rattle.std.specs.List.{AllByRecursion}
use Rattle.log_records.specs.declared.Record.{Record}
use Rattle.log_records.specs.Record.{spelling, spellings, IsRecord}
use Rattle.log_records.proofs.RecordLaws.{some_spelling}
use Rattle.gated_log.specs.Log.{HasBatch}
use Rattle.image_laws.proofs.Bytes.{IsBytes, Test, BeginsThen, begins_then, Fits32, readable_32, behind_bytes, front_bytes}
use Rattle.image_laws.proofs.Decode.{readable_record}
use Rattle.image_laws.proofs.Log.{HoldsOrBreaks, holds_or_breaks_off}
use Rattle.image_laws.proofs.Walk.{same_or_not}

-- Bytes are the spellings of records, and of nothing else.
record AreSpelled (body : List ℕ) : Type 0 where
  records : List Record
  good : AllByRecursion IsRecord records
  are : body ≡ spellings records

spelled_behind : (body : List ℕ) (records : List Record) → 0 < length body → AllByRecursion IsRecord records → body ≡ spellings records → BeginsThen spelling IsRecord (λ r rest. AreSpelled rest) body
spelled_behind body [] some good are = absurd (omega (arith, some, ap (λ (l : List ℕ). length l) are))
spelled_behind body (r ∷ rs) some good are = record { what = r; rest = spellings rs; good = good.0; here = are; more = record { records = rs; good = good.1; are = refl } }

spelled_or_not : (left : ℕ) (body : List ℕ) → length body ≤ left → IsBytes body → Test (AreSpelled body)
spelled_or_not left [] few fits = inl (record { records = []; good = tt; are = refl })
spelled_or_not zero (b ∷ bs) few fits = absurd (omega (arith, few))
spelled_or_not (suc left) (b ∷ bs) few fits =
    elim (begins_then spelling IsRecord (λ r rest. AreSpelled rest) readable_record (b ∷ bs) fits (λ r rest here good.
    let sizes = ap (λ (l : List ℕ). length l) here in
    let fewer : length rest ≤ left = omega (arith, few, sizes, length-append (spelling r) rest, some_spelling r) in
    spelled_or_not left rest fewer good)) [
      | inl s ↦ inl (record { records = s.what ∷ s.more.records; good = (s.good, s.more.good); are = s.here ∙ ap (λ (l : List ℕ). spelling s.what ++ l) s.more.are })
      | inr none ↦ inr (λ s. none (spelled_behind (b ∷ bs) s.records (omega arith) s.good s.are))
    ]

-- The bytes behind an open gate that state their size are those of records, and a gate follows them.
record IsFilledBy (size : ℕ) (rest : List ℕ) : Type 0 where
  inside : size < length rest
  body : AreSpelled (take size rest)

filled_by_or_not : (size : ℕ) (rest : List ℕ) → IsBytes rest → Test (IsFilledBy size rest)
filled_by_or_not size rest fits = elim (cases_lt size (length rest)) [
  | inr past ↦ inr (λ f. omega (arith, past, f.inside))
  | inl inside ↦ elim (spelled_or_not (length (take size rest)) (take size rest) (omega arith) (front_bytes size rest fits)) [
    | inl body ↦ inl (record { inside = inside; body = body })
    | inr none ↦ inr (λ f. none f.body)
  ]
]

-- a whole batch stands behind an open gate
abbrev IsSized : List ℕ → Type 0
IsSized bytes = BeginsThen (to_le_bytes w32) Fits32 IsFilledBy bytes

sized_or_not : (bytes : List ℕ) → IsBytes bytes → Test (IsSized bytes)
sized_or_not bytes fits = begins_then (to_le_bytes w32) Fits32 IsFilledBy readable_32 bytes fits (λ size rest here good. filled_by_or_not size rest good)

batch_of : (gate : ℕ) (bytes : List ℕ) → gate ≡ 1 → IsSized bytes → HasBatch (gate ∷ bytes)
batch_of gate bytes is_open sized =
    let size = sized.what in
    let rest = sized.rest in
    let body = sized.more.body in
    let long : size ≡ length (spellings body.records) = sym (length-take-le size rest (omega (arith, sized.more.inside))) ∙ ap (λ (l : List ℕ). length l) body.are in
    let parts : rest ≡ spellings body.records ++ drop size rest = sym (take-append-drop size rest) ∙ ap (λ (l : List ℕ). l ++ drop size rest) body.are in
    record {
      records = body.records;
      behind = drop size rest;
      front = ap (λ (g : ℕ). g ∷ bytes) is_open ∙ ap (λ (l : List ℕ). 1 ∷ l) (sized.here ∙ ap (λ (n : ℕ). to_le_bytes w32 n ++ rest) long ∙ ap (λ (l : List ℕ). to_le_bytes w32 (length (spellings body.records)) ++ l) parts);
      next_gate = omega (arith, length-drop size rest, sized.more.inside);
      good = body.good;
    }

of_batch : (gate : ℕ) (bytes : List ℕ) → length (gate ∷ bytes) < 2 ^ 32 → HasBatch (gate ∷ bytes) → IsSized bytes
of_batch gate bytes short has =
    let spelled = spellings has.records in
    let sizes = ap (λ (l : List ℕ). length l) has.front in
    let parts = length-append spelled has.behind in
    record {
      what = length spelled;
      rest = spelled ++ has.behind;
      good = omega (arith, short, sizes, parts);
      here = ap (λ (l : List ℕ). drop 1 l) has.front;
      more = record {
        inside = omega (arith, parts, has.next_gate);
        body = record { records = has.records; good = has.good; are = take_at spelled has.behind (length spelled) refl };
      };
    }

-- bytes begin with a whole batch, or not
batch_or_not : (bytes : List ℕ) → IsBytes bytes × (length bytes < 2 ^ 32) → Test (HasBatch bytes)
batch_or_not [] (fits, short) = inr (λ has. let sizes = ap (λ (l : List ℕ). length l) has.front in omega arith)
batch_or_not (gate ∷ bytes) (fits, short) = elim (same_or_not gate 1) [
  | inr shut ↦ inr (λ has. shut (ap (λ (l : List ℕ). get_or l 0 0) has.front))
  | inl is_open ↦ elim (sized_or_not bytes (λ i. fits (suc i))) [
    | inl sized ↦ inl (batch_of gate bytes is_open sized)
    | inr none ↦ inr (λ has. none (of_batch gate bytes short has))
  ]
]

-- the bytes of a log hold batches, or they break off at an offset
pub log_or_breaks : (log : List ℕ) → IsBytes log → length log < 2 ^ 32 → 0 < length log → HoldsOrBreaks log
log_or_breaks log fits short some =
    let Bytes : List ℕ → Type 0 = λ l. IsBytes l × (length l < 2 ^ 32) in
    holds_or_breaks_off Bytes (λ front rest (all, few). (behind_bytes front rest all, omega (arith, few, length-append front rest))) batch_or_not log (fits, short) some
