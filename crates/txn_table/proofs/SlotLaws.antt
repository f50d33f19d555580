-- What the slots say of each session, and what a change of one does to the map that contracts see.
use Rattle.std.proofs.Common.{◌≡◌, ◌≢◌, ℕ, zero, suc, ◌+◌, ◌<◌, ◌≤◌, inl, inr, List, [], ◌∷◌, length, true, Option, None, Some, Result, Ok, Err, refl, sym, ap, ◌∙◌, subst, arith, get_or}
use Rattle.std.specs.Prelude.{slice_get, slice_set, replicate, unwrap_or, is_some, IsSome, IfSome, IsSomeAnd, IfOk, OnOk}
use Rattle.std.specs.Ordering.{nat_cmp}
use Rattle.std.specs.Cmp.{nat_cmp_total}
use Rattle.std.specs.FinMap.{empty, insert, remove, get, get-empty, same_map, nat_cmp-IsAntisymmetric}
use Rattle.std.proofs.lemmas.Bool.{cases_eq}
use Rattle.std.proofs.lemmas.List.{get_or_past, get_or_read}
use Rattle.std.proofs.lemmas.Option.{slice_get_within, unwrap_or-slice_get}
use Rattle.log_machine.proofs.MapLaws.{get_inserted, get_beside, get_removed, get_kept}
use Rattle.txn_table.specs.Table.{TransactionState, TableState, transaction_of, with_transaction, with_ended, Changes}
use Rattle.txn_table.specs.Slots.{by_session, table_of}

-- Lists.

got_set : {X : Type 0} (xs : List X) (i : ℕ) (x : X) → i < length xs → slice_get (slice_set xs i x) i ≡ Some x
got_set [] i x within = absurd (omega arith)
got_set (y ∷ xs) zero x within = refl
got_set (y ∷ xs) (suc i) x within = got_set xs i x (omega arith)

got_beside : {X : Type 0} (xs : List X) (i : ℕ) (x : X) (j : ℕ) → j ≢ i → slice_get (slice_set xs i x) j ≡ slice_get xs j
got_beside [] i x j other = refl
got_beside (y ∷ xs) zero x zero other = absurd (other refl)
got_beside (y ∷ xs) zero x (suc j) other = refl
got_beside (y ∷ xs) (suc i) x zero other = refl
got_beside (y ∷ xs) (suc i) x (suc j) other = got_beside xs i x j (λ same. other (ap suc same))

-- Sessions.

-- no session before the first has a transaction
before_first : (from : ℕ) (slots : List (Option TransactionState)) (q : ℕ) → q < from → get (by_session from slots) q ≡ None
before_first from [] q before = get-empty nat_cmp q
before_first from (None ∷ rest) q before = before_first (from + 1) rest q (omega arith)
before_first from (Some t ∷ rest) q before = get_beside (by_session (from + 1) rest) from t q (λ same. omega arith) ∙ before_first (from + 1) rest q (omega arith)

-- each of the others has what its slot has
at_slot : (from : ℕ) (slots : List (Option TransactionState)) (i : ℕ) → get (by_session from slots) (from + i) ≡ unwrap_or (slice_get slots i) None
at_slot from [] i = get-empty nat_cmp (from + i)
at_slot from (None ∷ rest) zero = before_first (from + 1) rest (from + 0) (omega arith)
at_slot from (None ∷ rest) (suc i) =
    let same : from + suc i ≡ from + 1 + i = omega arith in
    ap (get (by_session (from + 1) rest)) same ∙ at_slot (from + 1) rest i
at_slot from (Some t ∷ rest) zero =
    let m = by_session (from + 1) rest in
    let same : from + 0 ≡ from = omega arith in
    ap (get (insert m from t)) same ∙ get_inserted m from t
at_slot from (Some t ∷ rest) (suc i) =
    let m = by_session (from + 1) rest in
    let same : from + suc i ≡ from + 1 + i = omega arith in
    get_beside m from t (from + suc i) (λ clash. omega arith) ∙ ap (get m) same ∙ at_slot (from + 1) rest i

-- the map when a slot gets a transaction
slot_taken : (slots : List (Option TransactionState)) (i : ℕ) (t : TransactionState) → i < length slots → by_session 1 (slice_set slots i (Some t)) ≡ insert (by_session 1 slots) (1 + i) t
slot_taken slots i t within = same_map nat_cmp_total nat_cmp-IsAntisymmetric _ _ each
  where
    new : List (Option TransactionState)
    new = slice_set slots i (Some t)

    each : (q : ℕ) → get (by_session 1 (slice_set slots i (Some t))) q ≡ get (insert (by_session 1 slots) (1 + i) t) q
    each zero =
        before_first 1 (slice_set slots i (Some t)) 0 (omega arith) ∙ sym (get_beside (by_session 1 slots) (1 + i) t 0 (λ clash. omega arith) ∙ before_first 1 slots 0 (omega arith))
    each (suc j) =
        let next : suc j ≡ 1 + j = omega arith in
        ap (get (by_session 1 (slice_set slots i (Some t)))) next
        ∙ at_slot 1 (slice_set slots i (Some t)) j
        ∙ elim (cases_eq j i) [
          | inl same ↦
              let here : suc j ≡ 1 + i = omega arith in
              ap (λ k. unwrap_or (slice_get (slice_set slots i (Some t)) k) None) same
              ∙ ap (λ o. unwrap_or o None) (got_set slots i (Some t) within)
              ∙ sym (ap (get (insert (by_session 1 slots) (1 + i) t)) here ∙ get_inserted (by_session 1 slots) (1 + i) t)
          | inr other ↦
              ap (λ o. unwrap_or o None) (got_beside slots i (Some t) j other)
              ∙ sym (get_beside (by_session 1 slots) (1 + i) t (suc j) (λ clash. other (omega arith)) ∙ ap (get (by_session 1 slots)) next ∙ at_slot 1 slots j)
        ]

-- the map when a slot is emptied
slot_left : (slots : List (Option TransactionState)) (i : ℕ) → i < length slots → by_session 1 (slice_set slots i None) ≡ remove (by_session 1 slots) (1 + i)
slot_left slots i within = same_map nat_cmp_total nat_cmp-IsAntisymmetric _ _ each
  where
    each : (q : ℕ) → get (by_session 1 (slice_set slots i None)) q ≡ get (remove (by_session 1 slots) (1 + i)) q
    each zero =
        before_first 1 (slice_set slots i None) 0 (omega arith) ∙ sym (get_kept (by_session 1 slots) (1 + i) 0 (λ clash. omega arith) ∙ before_first 1 slots 0 (omega arith))
    each (suc j) =
        let next : suc j ≡ 1 + j = omega arith in
        ap (get (by_session 1 (slice_set slots i None))) next
        ∙ at_slot 1 (slice_set slots i None) j
        ∙ elim (cases_eq j i) [
          | inl same ↦
              let here : suc j ≡ 1 + i = omega arith in
              ap (λ k. unwrap_or (slice_get (slice_set slots i None) k) None) same
              ∙ ap (λ o. unwrap_or o None) (got_set slots i None within)
              ∙ sym (ap (get (remove (by_session 1 slots) (1 + i))) here ∙ get_removed (by_session 1 slots) (1 + i))
          | inr other ↦
              ap (λ o. unwrap_or o None) (got_beside slots i None j other)
              ∙ sym (get_kept (by_session 1 slots) (1 + i) (suc j) (λ clash. other (omega arith)) ∙ ap (get (by_session 1 slots)) next ∙ at_slot 1 slots j)
        ]

-- no session has a transaction if no slot has one
pub all_idle : (from n : ℕ) → by_session from (replicate n None) ≡ empty
all_idle from zero = refl
all_idle from (suc n) = all_idle (from + 1) n

-- The table.

-- a session with a transaction has a slot
pub has_slot : (next : ℕ) (slots : List (Option TransactionState)) (now : TableState) (s : ℕ) → table_of next slots ≡ now → IsSome (transaction_of now s) → (i : ℕ) × (1 + i ≡ s) × (i < length slots)
has_slot next slots now s same active = slot_at s (ap (λ (table : TableState). is_some (transaction_of table s)) same ∙ active)
  where
    within : (i : ℕ) (o : Option (Option TransactionState)) → slice_get slots i ≡ o → is_some (unwrap_or o None) ≡ true → i < length slots
    within i None is some = absurd (cc some)
    within i (Some t) is some = slice_get_within slots i t is

    slot_at : (q : ℕ) → is_some (get (by_session 1 slots) q) ≡ true → (i : ℕ) × (1 + i ≡ q) × (i < length slots)
    slot_at zero some = let none = ap is_some (before_first 1 slots 0 (omega arith)) in absurd (cc none)
    slot_at (suc i) some =
        let next : suc i ≡ 1 + i = omega arith in
        (i, sym next, within i (slice_get slots i) refl (sym (ap is_some (ap (get (by_session 1 slots)) next ∙ at_slot 1 slots i)) ∙ some))

-- and what it has is its transaction
pub slot_says : (next : ℕ) (slots : List (Option TransactionState)) (now : TableState) (s i : ℕ) → table_of next slots ≡ now → i + 1 ≡ s → transaction_of now s ≡ get_or slots i None
slot_says next slots now s i same place =
    let session : s ≡ 1 + i = omega arith in
    ap (λ (table : TableState). transaction_of table s) (sym same) ∙ ap (get (by_session 1 slots)) session ∙ at_slot 1 slots i ∙ unwrap_or-slice_get slots i None

-- a session after the last slot has none
pub slot_past : (next : ℕ) (slots : List (Option TransactionState)) (now : TableState) (s i : ℕ) → table_of next slots ≡ now → i + 1 ≡ s → length slots ≤ i → transaction_of now s ≡ None
slot_past next slots now s i same place past = slot_says next slots now s i same place ∙ get_or_past slots i None past

-- nor has session 0
pub no_session : (next : ℕ) (slots : List (Option TransactionState)) (now : TableState) (s : ℕ) → table_of next slots ≡ now → s ≡ 0 → transaction_of now s ≡ None
no_session next slots now s same zero_is =
    ap (λ (table : TableState). transaction_of table s) (sym same) ∙ before_first 1 slots s (omega arith)

-- the table when a session's slot gets a transaction
pub taken : (next : ℕ) (slots : List (Option TransactionState)) (now : TableState) (s i later : ℕ) (t : TransactionState) → table_of next slots ≡ now → i + 1 ≡ s → i < length slots
    → table_of later (slice_set slots i (Some t)) ≡ record { next = later; active = insert now.active s t }
taken next slots now s i later t same place within =
    let session : 1 + i ≡ s = omega arith in
    ap (λ m. let table : TableState = record { next = later; active = m } in table) (slot_taken slots i t within ∙ ap (λ k. insert (by_session 1 slots) k t) session)
    ∙ ap (λ (table : TableState). let new : TableState = record { next = later; active = insert table.active s t } in new) same

-- and when it is emptied
pub left : (next : ℕ) (slots : List (Option TransactionState)) (now : TableState) (s i : ℕ) → table_of next slots ≡ now → i + 1 ≡ s → i < length slots
    → table_of next (slice_set slots i None) ≡ with_ended now s
left next slots now s i same place within =
    let session : 1 + i ≡ s = omega arith in
    ap (λ m. let table : TableState = record { next = next; active = m } in table) (slot_left slots i within ∙ ap (remove (by_session 1 slots)) session)
    ∙ ap (λ (table : TableState). with_ended table s) same

-- what was read of a session's slot is its transaction
pub read_slot : (next : ℕ) (slots : List (Option TransactionState)) (now : TableState) (s i : ℕ) (read o : Option TransactionState) → table_of next slots ≡ now → i + 1 ≡ s → i < length slots
    → read ≡ get_or slots i read → read ≡ o → transaction_of now s ≡ o
read_slot next slots now s i read o same place within got is =
    slot_says next slots now s i same place ∙ sym (get_or_read slots i read within got None) ∙ is

-- so it isn't empty if the session has one
pub not_empty : (next : ℕ) (slots : List (Option TransactionState)) (now : TableState) (s i : ℕ) (read : Option TransactionState) → table_of next slots ≡ now → i + 1 ≡ s → i < length slots
    → read ≡ get_or slots i read → read ≡ None → IsSome (transaction_of now s) → ⊥
not_empty next slots now s i read same place within got none active =
    let clash = sym active ∙ ap is_some (read_slot next slots now s i read None same place within got none) in cc

-- what is true of a session's transaction
pub of_transaction : (now : TableState) (s : ℕ) (t : TransactionState) (P : TransactionState → Type 0) → transaction_of now s ≡ Some t → P t → IfSome (transaction_of now s) P
of_transaction now s t P is holds = subst (λ (o : Option TransactionState). IfSome o P) (sym is) holds

-- a session's transaction was changed in its slot
pub changed : (next : ℕ) (slots : List (Option TransactionState)) (now : TableState) (s i : ℕ) (t u : TransactionState) (change : TransactionState → TransactionState)
    → table_of next slots ≡ now → i + 1 ≡ s → i < length slots → transaction_of now s ≡ Some t → u ≡ change t → Changes now (table_of next (slice_set slots i (Some u))) s change
changed next slots now s i t u change same place within there is =
    of_transaction now s t (λ v. table_of next (slice_set slots i (Some u)) ≡ with_transaction now s (change v)) there
    (taken next slots now s i next u same place within
    ∙ ap (λ n. let table : TableState = record { next = n; active = insert now.active s u } in table) (ap (λ (table : TableState). table.next) same)
    ∙ ap (with_transaction now s) is)

-- Answers.

pub if_ok : {X E : Type 0} (r : Result X E) {P Q : X → Type 0} → ((x : X) → P x → Q x) → IfOk r P → IfOk r Q
if_ok (Ok x) f h = f x h
if_ok (Err e) f h = tt

pub on_ok : {X E : Type 0} (r : Result X E) {P Q : Type 0} → (P → Q) → OnOk r P → OnOk r Q
on_ok (Ok x) f h = f h
on_ok (Err e) f h = tt

pub some_and : (o : Option TransactionState) (P : TransactionState → Type 0) → IsSomeAnd o P → IsSome o
some_and None P h = absurd h
some_and (Some t) P h = refl
