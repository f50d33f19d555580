-- How the sessions' transactions are updated when objects move, one session after another.
use Rattle.std.proofs.Common.{◌≡◌, ℕ, ◌+◌, ◌-◌, ◌<◌, ◌≤◌, inl, inr, List, [], ◌∷◌, ◌++◌, length, map, reverse, Option, None, Some, refl, sym, ap, ◌∙◌, subst, arith}
use Rattle.std.specs.Prelude.{slice_set}
use Rattle.std.proofs.lemmas.Bool.{cases_eq, cases_lt}
use Rattle.std.proofs.lemmas.Grind.{reverse_onto}
use Rattle.std.proofs.lemmas.List.{map-append}
use Rattle.log_machine.proofs.MapLaws.{get_inserted, get_beside, get_removed, get_kept}
use Rattle.txn_table.specs.Table.{TransactionState, TableState, transaction_of}
use Rattle.txn_table.specs.Slots.{table_of}
use Rattle.txn_table.specs.Translation.{HasGoneAlong, GoesAlong, HaveGoneAlong, HasGoneAlongAt}
use Rattle.txn_table.proofs.SlotLaws.{slot_past, no_session, taken, left}

-- a session without a transaction has none afterwards
none_goes : (pairs : List (ℕ × ℕ)) (o n : Option TransactionState) → o ≡ None → n ≡ None → GoesAlong pairs o n
none_goes pairs o n old new = subst (λ (x : Option TransactionState). GoesAlong pairs x n) (sym old) (subst (λ (x : Option TransactionState). GoesAlong pairs None x) (sym new) tt)

-- the session's slot got the updated transaction
pub gone_at : (pairs : List (ℕ × ℕ)) (next : ℕ) (slots : List (Option TransactionState)) (now : TableState) (s i : ℕ) (t u : TransactionState) → table_of next slots ≡ now → i + 1 ≡ s → i < length slots
    → transaction_of now s ≡ Some t → HasGoneAlong pairs t u → HasGoneAlongAt pairs s now (table_of next (slice_set slots i (Some u)))
gone_at pairs next slots now s i t u same place within there gone =
    let new = taken next slots now s i next u same place within in
    record {
      next = ap (λ (table : TableState). table.next) same;
      session =
          subst (λ (x : Option TransactionState). GoesAlong pairs x (transaction_of (table_of next (slice_set slots i (Some u))) s)) (sym there)
          (subst (λ (x : Option TransactionState). GoesAlong pairs (Some t) x) (sym (ap (λ (table : TableState). transaction_of table s) new ∙ get_inserted now.active s u)) gone);
      others = λ other differs. ap (λ (table : TableState). transaction_of table other) new ∙ get_beside now.active s u other differs;
    }

-- the session had none, and its slot stays empty
pub idle_at : (pairs : List (ℕ × ℕ)) (next : ℕ) (slots : List (Option TransactionState)) (now : TableState) (s i : ℕ) → table_of next slots ≡ now → i + 1 ≡ s → i < length slots → transaction_of now s ≡ None
    → HasGoneAlongAt pairs s now (table_of next (slice_set slots i None))
idle_at pairs next slots now s i same place within none =
    let new = left next slots now s i same place within in
    record {
      next = ap (λ (table : TableState). table.next) same;
      session =
          none_goes pairs (transaction_of now s) (transaction_of (table_of next (slice_set slots i None)) s) none
          (ap (λ (table : TableState). transaction_of table s) new ∙ get_removed now.active s);
      others = λ other differs. ap (λ (table : TableState). transaction_of table other) new ∙ get_kept now.active s other differs;
    }

-- Those of the first sessions are updated.
pub record GoneUpto (pairs : List (ℕ × ℕ)) (k : ℕ) (old now : TableState) : Type 0 where
  pub next : now.next ≡ old.next
  pub done : (s : ℕ) → 1 ≤ s → s ≤ k → GoesAlong pairs (transaction_of old s) (transaction_of now s)
  pub rest : (s : ℕ) → (1 ≤ s → k < s) → transaction_of now s ≡ transaction_of old s

pub gone_all : (pairs : List (ℕ × ℕ)) (k next : ℕ) (slots : List (Option TransactionState)) (old now : TableState) → table_of next slots ≡ old → length slots ≤ k → GoneUpto pairs k old now → HaveGoneAlong pairs old now
gone_all pairs k next slots old now same all upto = record {
  next = upto.next;
  sessions = λ s. elim (cases_lt s 1) [
    | inl first ↦
        let none = no_session next slots old s same (omega arith) in
        none_goes pairs (transaction_of old s) (transaction_of now s) none (upto.rest s (λ some. absurd (omega arith)) ∙ none)
    | inr some ↦ elim (cases_lt k s) [
      | inl behind ↦
          let place : s - 1 + 1 ≡ s = omega arith in
          let none = slot_past next slots old s (s - 1) same place (omega arith) in
          none_goes pairs (transaction_of old s) (transaction_of now s) none (upto.rest s (λ more. behind) ∙ none)
      | inr within ↦ upto.done s some within
    ]
  ];
}

-- reversing a list before mapping it is mapping it before reversing it
pub reverse_mapped : {X : Type 0} (f : X → X) (xs : List X) → reverse (map f xs) ≡ map f (reverse xs)
reverse_mapped f [] = refl
reverse_mapped f (x ∷ xs) =
    reverse_onto (map f xs) (f x) []
    ∙ ap (λ ys. ys ++ f x ∷ []) (reverse_mapped f xs)
    ∙ sym (ap (map f) (reverse_onto xs x []) ∙ map-append f (reverse xs) (x ∷ []))
