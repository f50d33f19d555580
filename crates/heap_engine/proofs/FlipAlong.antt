-- What transactions would take back, where objects have moved.
use Rattle.std.proofs.Common.{◌≡◌, ℕ, zero, suc, ◌+◌, ◌<◌, ◌≤◌, List, [], ◌∷◌, ◌++◌, length, take, reverse, get_or, Option, None, Some, refl, sym, ap, ◌∙◌, subst, arith, inl, inr}
use Rattle.std.specs.Prelude.{All, IsSome, IfSome}
use Rattle.std.specs.List.{AllByRecursion}
use Rattle.std.proofs.lemmas.Bool.{cases_eq}
use Rattle.std.proofs.lemmas.List.{map-append, reverse-append, reverse-reverse, take_more}
use Rattle.std.proofs.lemmas.List.Elements.{All-nil, All-cons, All-append, All-from_recursion, recursion_from_All}
use Rattle.log_machine.specs.declared.UndoEntry.{UndoEntry}
use Rattle.log_machine.specs.Machine.{field_at}
use Rattle.log_machine.specs.Translation.{translated_entry, translated_list}
use Rattle.log_machine.proofs.ListLaws.{AllByRecursion-reverse}
use Rattle.relocation.specs.Relocation.{moved_to}
use Rattle.txn_table.specs.Table.{TransactionState, TableState, transaction_of}
use Rattle.heap_engine.specs.Reserve.{undo_if, WroteBelow, GoAlongBelow, AreSound}
use Rattle.heap_engine.proofs.Tables.{told_undo}

abbrev LiesBelow : ℕ → UndoEntry → Type 0
LiesBelow end u = field_at u.object u.field < end

-- one more write
pub along_more : (end : ℕ) (pairs : List (ℕ × ℕ)) (us : List UndoEntry) (i : ℕ) (d : UndoEntry) → i < length us → WroteBelow end (translated_list pairs (take i us))
    → field_at (moved_to pairs (get_or us i d).object) (get_or us i d).field < end → WroteBelow end (translated_list pairs (take (i + 1) us))
along_more end pairs us i d within before here =
    let u = translated_entry pairs (get_or us i d) in
    let more : translated_list pairs (take (i + 1) us) ≡ translated_list pairs (take i us) ++ u ∷ [] =
    ap (translated_list pairs) (take_more us i d within) ∙ map-append (translated_entry pairs) (take i us) (get_or us i d ∷ []) in
    subst (All (LiesBelow end)) (sym more) (All-append (LiesBelow end) (translated_list pairs (take i us)) (u ∷ []) before (All-cons (LiesBelow end) u [] here (All-nil (LiesBelow end))))

below_at : (end : ℕ) (pairs : List (ℕ × ℕ)) (us : List UndoEntry) (i : ℕ) (d : UndoEntry) → i < length us → AllByRecursion (LiesBelow end) (translated_list pairs us)
    → field_at (moved_to pairs (get_or us i d).object) (get_or us i d).field < end
below_at end pairs [] i d within all = absurd (omega arith)
below_at end pairs (u ∷ us) zero d within all = all.0
below_at end pairs (u ∷ us) (suc i) d within all = below_at end pairs us i d (omega arith) all.1

-- each of them does
pub along_at : (end : ℕ) (pairs : List (ℕ × ℕ)) (us : List UndoEntry) (i : ℕ) (d : UndoEntry) → i < length us → WroteBelow end (translated_list pairs us)
    → field_at (moved_to pairs (get_or us i d).object) (get_or us i d).field < end
along_at end pairs us i d within below = below_at end pairs us i d within (recursion_from_All (LiesBelow end) (translated_list pairs us) below)

-- The sessions.

reverse_translated : (pairs : List (ℕ × ℕ)) (us : List UndoEntry) → reverse (translated_list pairs us) ≡ translated_list pairs (reverse us)
reverse_translated pairs [] = refl
reverse_translated pairs (u ∷ us) =
    reverse-append (translated_entry pairs u ∷ []) (translated_list pairs us)
    ∙ ap (λ l. l ++ translated_entry pairs u ∷ []) (reverse_translated pairs us)
    ∙ sym (map-append (translated_entry pairs) (reverse us) (u ∷ []))
    ∙ ap (translated_list pairs) (sym (reverse-append (u ∷ []) us))

-- the writes in the other order
turned_along : (end : ℕ) (pairs : List (ℕ × ℕ)) (us undo : List UndoEntry) → reverse us ≡ undo → WroteBelow end (translated_list pairs us) → WroteBelow end (translated_list pairs undo)
turned_along end pairs us undo is below =
    let P = LiesBelow end in
    let turned = All-from_recursion P (reverse (translated_list pairs us)) (AllByRecursion-reverse P (translated_list pairs us) (recursion_from_All P (translated_list pairs us) below)) in
    subst (All P) (reverse_translated pairs us ∙ ap (translated_list pairs) is) turned

-- so do those of a transaction that are listed the newest last
pub told_along : (end : ℕ) (pairs : List (ℕ × ℕ)) (table : TableState) (s : ℕ) (us : List UndoEntry) → GoAlongBelow end pairs table → IsSome (transaction_of table s)
    → IfSome (transaction_of table s) (λ t. reverse us ≡ t.undo) → WroteBelow end (translated_list pairs us)
told_along end pairs table s us along some is =
    let undo = undo_if (transaction_of table s) in
    turned_along end pairs undo us (ap reverse (sym (told_undo (transaction_of table s) us some is)) ∙ reverse-reverse us) (along s)

-- what the transactions of the first sessions wrote lies in that many words then
abbrev pub GoAlongUpto : ℕ → List (ℕ × ℕ) → TableState → ℕ → Type 0
GoAlongUpto end pairs table k = (s : ℕ) → 1 ≤ s → s < k → WroteBelow end (translated_list pairs (undo_if (transaction_of table s)))

upto_next : (end : ℕ) (pairs : List (ℕ × ℕ)) (table : TableState) (k : ℕ) → GoAlongUpto end pairs table k → WroteBelow end (translated_list pairs (undo_if (transaction_of table k)))
    → GoAlongUpto end pairs table (k + 1)
upto_next end pairs table k upto here = λ s low high. elim (cases_eq s k) [
  | inl same ↦ subst (λ (q : ℕ). WroteBelow end (translated_list pairs (undo_if (transaction_of table q)))) (sym same) here
  | inr other ↦ upto s low (omega arith)
]

-- one more session, whose transaction wrote this
pub upto_some : (end : ℕ) (pairs : List (ℕ × ℕ)) (table : TableState) (k : ℕ) (us : List UndoEntry) → GoAlongUpto end pairs table k → IsSome (transaction_of table k)
    → IfSome (transaction_of table k) (λ t. reverse us ≡ t.undo) → WroteBelow end (translated_list pairs us) → GoAlongUpto end pairs table (k + 1)
upto_some end pairs table k us upto some is below =
    upto_next end pairs table k upto (turned_along end pairs us (undo_if (transaction_of table k)) (told_undo (transaction_of table k) us some is) below)

nothing_along : (end : ℕ) (pairs : List (ℕ × ℕ)) (o : Option TransactionState) → o ≡ None → WroteBelow end (translated_list pairs (undo_if o))
nothing_along end pairs None is = All-nil (LiesBelow end)
nothing_along end pairs (Some t) is = absurd (cc is)

-- and one that has none
pub upto_idle : (end : ℕ) (pairs : List (ℕ × ℕ)) (table : TableState) (k : ℕ) → GoAlongUpto end pairs table k → transaction_of table k ≡ None → GoAlongUpto end pairs table (k + 1)
upto_idle end pairs table k upto none = upto_next end pairs table k upto (nothing_along end pairs (transaction_of table k) none)

-- no other session has one
pub upto_all : (end : ℕ) (pairs : List (ℕ × ℕ)) (table : TableState) (size bytes sealed : ℕ) → AreSound table size bytes sealed → GoAlongUpto end pairs table 33 → GoAlongBelow end pairs table
upto_all end pairs table size bytes sealed sound upto s = cases (transaction_of table s) refl
  where
    cases : (o : Option TransactionState) → transaction_of table s ≡ o → WroteBelow end (translated_list pairs (undo_if o))
    cases None is = All-nil (LiesBelow end)
    cases (Some t) is =
        let session = (sound.each s t is).session in
        subst (λ (o : Option TransactionState). WroteBelow end (translated_list pairs (undo_if o))) is (upto s session.0 (omega (arith, session.1)))
