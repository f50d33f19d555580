-- The bytes of a log hold batches, or they break off at an offset.
use Rattle.std.proofs.Common.{◌≡◌, ◌⊎◌, inl, inr, ℕ, zero, suc, ◌<◌, ◌≤◌, List, [], ◌∷◌, ◌++◌, length, length-append, append_assoc, refl, sym, ap, ◌∙◌, subst, arith}
use Rattle.std.specs.List.{AllByRecursion}
use Rattle.std.proofs.lemmas.List.{append-nil}
use Rattle.log_records.specs.declared.Record.{Record}
use Rattle.log_records.specs.Record.{IsRecord}
use Rattle.log_machine.proofs.ListLaws.{AllByRecursion-append}
use Rattle.gated_log.specs.Log.{batch, batches_bytes, records_of, HoldsBatches, HasBatch, BreaksAt}
use Rattle.image_laws.proofs.Walk.{same_or_not}

-- one batch after others
bytes_push : (batches : List (List Record)) (records : List Record) → batches_bytes (batches ++ records ∷ []) ≡ batches_bytes batches ++ batch records
bytes_push [] records = append-nil (batch records)
bytes_push (b ∷ bs) records = ap (λ (l : List ℕ). batch b ++ l) (bytes_push bs records) ∙ sym (append_assoc (batch b) (batches_bytes bs) (batch records))

records_push : (batches : List (List Record)) (records : List Record) → records_of (batches ++ records ∷ []) ≡ records_of batches ++ records
records_push [] records = append-nil records
records_push (b ∷ bs) records = ap (λ (l : List Record). b ++ l) (records_push bs records) ∙ sym (append_assoc b (records_of bs) records)

-- The bytes of a log hold batches of whole records, or they break off.
abbrev pub HoldsOrBreaks : List ℕ → Type 0
HoldsOrBreaks log = ((batches : List (List Record)) × AllByRecursion IsRecord (records_of batches) × HoldsBatches log batches) ⊎ ((offset : ℕ) × BreaksAt log offset)

module _ (Bytes : List ℕ → Type 0) (behind_bytes : (front rest : List ℕ) → Bytes (front ++ rest) → Bytes rest)
    (batch_or_not : (bytes : List ℕ) → Bytes bytes → HasBatch bytes ⊎ ¬ HasBatch bytes) (log : List ℕ) (is_bytes : Bytes log) where
  -- from the end of some batches on
  rest_or_breaks : (left : ℕ) (batches : List (List Record)) (rest : List ℕ) → length rest ≤ left → 0 < length rest → log ≡ batches_bytes batches ++ rest → AllByRecursion IsRecord (records_of batches) → HoldsOrBreaks log
  rest_or_breaks left batches [] few some is good = absurd (omega (arith, some))
  rest_or_breaks zero batches (gate ∷ rest) few some is good = absurd (omega (arith, few))
  rest_or_breaks (suc left) batches (gate ∷ rest) few some is good = elim (same_or_not gate 1) [
    | inr shut ↦ inl (batches, good, record { gate = gate; rest = rest; bytes = is; shut = shut })
    | inl is_open ↦ elim (batch_or_not (gate ∷ rest) (behind_bytes (batches_bytes batches) (gate ∷ rest) (subst Bytes is is_bytes))) [
      | inr none ↦ inr (length (batches_bytes batches), record { batches = batches; rest = gate ∷ rest; bytes = is; good = good; at = refl; is_open = is_open; none = none })
      | inl has ↦
          let more : log ≡ batches_bytes (batches ++ has.records ∷ []) ++ has.behind =
          is ∙ ap (λ (l : List ℕ). batches_bytes batches ++ l) has.front ∙ sym (append_assoc (batches_bytes batches) (batch has.records) has.behind)
          ∙ ap (λ (l : List ℕ). l ++ has.behind) (sym (bytes_push batches has.records)) in
          let fewer : length has.behind ≤ left = (let sizes = ap (λ (l : List ℕ). length l) has.front in let parts = length-append (batch has.records) has.behind in omega arith) in
          let whole : AllByRecursion IsRecord (records_of (batches ++ has.records ∷ [])) =
          subst (AllByRecursion IsRecord) (sym (records_push batches has.records)) (AllByRecursion-append IsRecord (records_of batches) has.records good has.good) in
          rest_or_breaks left (batches ++ has.records ∷ []) has.behind fewer has.next_gate more whole
    ]
  ]

  -- the bytes of a log hold batches, or break off somewhere
  pub holds_or_breaks_off : 0 < length log → HoldsOrBreaks log
  holds_or_breaks_off some = rest_or_breaks (length log) [] log (omega arith) some refl tt
