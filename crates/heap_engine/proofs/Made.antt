-- Whether a transaction's area has room for an object.
use Rattle.std.proofs.Common.{◌≡◌, ℕ, ◌+◌, ◌<◌, ◌≤◌, Bool, true, false, length, nat_lt, Option, None, Some, Result, Ok, Err, refl, sym, ap, ◌∙◌, subst}
use Rattle.std.specs.Prelude.{IsSomeAnd, ◌↔◌, if◌then◌else◌}
use Rattle.std.proofs.lemmas.Bool.{le-ltb, ltb-false, lt-ltb, ltb-true}
use Rattle.graph_model.specs.declared.reply.Refusal.TheVariants.{Range, VolatileFull}
use Rattle.graph_model.specs.Plain.{most_fields, first_of_two}
use Rattle.volatile_area.specs.declared.area_error.AreaError.{AreaError}
use Rattle.volatile_area.specs.declared.area_error.AreaError.TheVariants as area
use Rattle.txn_table.specs.declared.place.Place.TheVariants.{Volatile}
use Rattle.txn_table.specs.Table.{TransactionState}
use Rattle.heap_memory.specs.Refusals.{handle_refusal, area_refusal, new_refusal}
use Rattle.heap_engine.specs.Reserve.{can_refer}

-- what is reported of a full area
abbrev pub TellsFull : Option TransactionState → Result ℕ AreaError → ℕ → Type 0
TellsFull o r len = (used : ℕ) → (r ≡ Err (area.VolatileFull used)) ↔ IsSomeAnd o (λ t. (used ≡ length t.area.words) × (4096 < used + 2 + len))

-- an object that was made had room
pub area_room : (o : Option TransactionState) (t : TransactionState) (r : Result ℕ AreaError) (object len : ℕ) → o ≡ Some t → r ≡ Ok object → TellsFull o r len
    → length t.area.words + 2 + len ≤ 4096
area_room o t r object len is ok full = cases (nat_lt 4096 (length t.area.words + 2 + len)) refl
  where
    cases : (b : Bool) → nat_lt 4096 (length t.area.words + 2 + len) ≡ b → length t.area.words + 2 + len ≤ 4096
    cases false test = ltb-false 4096 (length t.area.words + 2 + len) test
    cases true test =
        let both : IsSomeAnd (Some t) (λ (v : TransactionState). (length t.area.words ≡ length v.area.words) × (4096 < length t.area.words + 2 + len)) = (refl, ltb-true 4096 (length t.area.words + 2 + len) test) in
        let some = subst (λ (p : Option TransactionState). IsSomeAnd p (λ v. (length t.area.words ≡ length v.area.words) × (4096 < length t.area.words + 2 + len))) (sym is) both in
        let err = (full (length t.area.words)).1 some in
        absurd (cc (ok, err))

-- a word can refer to it
pub can_refer_made : (at : ℕ) → at < 4096 → can_refer (Some (Volatile at)) ≡ true
can_refer_made at low = lt-ltb at 4096 low

-- nothing is refused then
pub new_granted : (o : Option TransactionState) (t : TransactionState) (h len : ℕ) → o ≡ Some t → handle_refusal o h ≡ None → len ≤ 510 → length t.area.words + 2 + len ≤ 4096
    → new_refusal o h len ≡ None
new_granted o t h len is handle small fits =
    let less : nat_lt most_fields len ≡ false = le-ltb most_fields len small in
    (λ i. first_of_two (handle i) (first_of_two (if less i then Some Range else None) (area_refusal (is i) len)))
    ∙ ap (λ (b : Bool). if b then Some (VolatileFull (length t.area.words)) else None) (le-ltb 4096 (length t.area.words + 2 + len) fits)

-- if there is no room it is reported
pub new_full : (o : Option TransactionState) (t : TransactionState) (h len : ℕ) → o ≡ Some t → handle_refusal o h ≡ None → len ≤ 510 → 4096 < length t.area.words + 2 + len
    → new_refusal o h len ≡ Some (VolatileFull (length t.area.words))
new_full o t h len is handle small full =
    let less : nat_lt most_fields len ≡ false = le-ltb most_fields len small in
    (λ i. first_of_two (handle i) (first_of_two (if less i then Some Range else None) (area_refusal (is i) len)))
    ∙ ap (λ (b : Bool). if b then Some (VolatileFull (length t.area.words)) else None) (lt-ltb 4096 (length t.area.words + 2 + len) full)
