-- Which writes may be taken back after records: those before them that are left, and those of updates.
use Rattle.std.proofs.Common.{◌≡◌, ℕ, List, [], ◌∷◌, Option, None, Some, refl, subst}
use Rattle.std.specs.Prelude.{option_and_then, unwrap_or}
use Rattle.std.specs.FinMap.{FinMap, get}
use Rattle.std.specs.List.{AllByRecursion}
use Rattle.std.specs.Ordering.{nat_cmp}
use Rattle.std.proofs.lemmas.Option.{cond_some, option_and_then_some, same_Some}
use Rattle.heap_spaces.specs.Collection.{Collection}
use Rattle.log_records.specs.declared.Record.{Record}
use Rattle.log_records.specs.declared.Record.TheVariants.{Update, Base, Fix, Undo, Commit, End, Copy, Scan, Flip, Collected}
use Rattle.log_machine.specs.declared.UndoEntry.{UndoEntry}
use Rattle.log_machine.specs.Collecting.{collected_in, scanned_in}
use Rattle.log_machine.specs.Entries.{EachKeyed}
use Rattle.log_machine.specs.Machine.{State, after, after_all, is_number_or_none, is_same_write, number_of, row_after, turned, undo_of, with_entries, without_newest}
use Rattle.log_machine.proofs.CopyRows.{copy_told}
use Rattle.log_machine.proofs.MapLaws.{each_insert, each_remove}
use Rattle.log_machine.specs.UndoEntry.{undo_entry}
use Rattle.limit_laws.proofs.Events.Kinds.{IsNoFlip}
use Rattle.limit_laws.proofs.Progress.Rows.{passed}

-- something holds of each write of each transaction
abbrev pub EachEntry : (ℕ → UndoEntry → Type 0) → State → Type 0
EachEntry P s = EachKeyed (λ q us. AllByRecursion (P q) us) s.undo

-- and of the write of an update
abbrev pub OfUpdate : (ℕ → UndoEntry → Type 0) → Record → Type 0
OfUpdate P (Update t object field was word) = P t (undo_entry object field was)
OfUpdate P rec = Unit {0}

module _ (P : ℕ → UndoEntry → Type 0) where
  abbrev All : ℕ → List UndoEntry → Type 0
  All q us = AllByRecursion (P q) us

  pub known : (s : State) (t : ℕ) → EachEntry P s → AllByRecursion (P t) (undo_of s t)
  known s t each = by (get s.undo t) refl
    where
      by : (o : Option (List UndoEntry)) → get s.undo t ≡ o → AllByRecursion (P t) (unwrap_or o [])
      by None none = tt
      by (Some us) is = each t us is

  kept : (undo : FinMap nat_cmp (List UndoEntry)) (t : ℕ) (us : List UndoEntry) → AllByRecursion (P t) us → EachKeyed (λ q vs. AllByRecursion (P q) vs) undo → EachKeyed (λ q vs. AllByRecursion (P q) vs) (with_entries undo t us)
  kept undo t [] all each = each_remove All undo t each
  kept undo t (u ∷ us) all each = each_insert All undo t (u ∷ us) all each

  rest_all : (t : ℕ) (us : List UndoEntry) (write : UndoEntry) (rest : List UndoEntry) → without_newest us write ≡ Some rest → AllByRecursion (P t) us → AllByRecursion (P t) rest
  rest_all t [] write rest is all = absurd (cc is)
  rest_all t (u ∷ us) write rest is all = subst (AllByRecursion (P t)) (cond_some (is_same_write u write) us rest is).1 all.1

  undone : (s n : State) (t : ℕ) (write : UndoEntry) (o : Option (List UndoEntry)) → without_newest (undo_of s t) write ≡ o → option_and_then (λ rest. Some (turned s t (with_entries s.undo t rest) 0)) o ≡ Some n → EachEntry P s → EachEntry P n
  undone s n t write None is e each = absurd (cc e)
  undone s n t write (Some rest) is e each =
      let m = turned s t (with_entries s.undo t rest) 0 in
      subst (EachEntry P) (same_Some m n e) (kept s.undo t rest (rest_all t (undo_of s t) write rest is (known s t each)) each)

  scanned : (s n : State) (page : ℕ) (writes : List (ℕ × ℕ)) (o : Option Collection) → scanned_in s page writes o ≡ Some n → EachEntry P s → EachEntry P n
  scanned s n page writes None e each = absurd (cc e)
  scanned s n page writes (Some k) e each = subst (EachEntry P) (cond_some _ _ _ e).1 each

  ended : (s n : State) (o : Option Collection) → collected_in s o ≡ Some n → EachEntry P s → EachEntry P n
  ended s n None e each = absurd (cc e)
  ended s n (Some k) e each = subst (EachEntry P) (cond_some _ _ _ e).1 each

  each_row : (s n : State) (rec : Record) → IsNoFlip rec → row_after s rec ≡ Some n → OfUpdate P rec → EachEntry P s → EachEntry P n
  each_row s n (Update t object field was word) plain e new each =
      let u : UndoEntry = undo_entry object field was in
      subst (EachEntry P) (cond_some _ _ _ e).1 (each_insert All s.undo t (u ∷ undo_of s t) (new, known s t each) each)
  each_row s n (Base t address words) plain e new each = subst (EachEntry P) (cond_some _ _ _ e).1 each
  each_row s n (Fix t object field word) plain e new each = subst (EachEntry P) (cond_some _ _ _ e).1 each
  each_row s n (Undo t object field word) plain e new each =
      undone s n t (undo_entry object field word) (without_newest (undo_of s t) (undo_entry object field word)) refl e each
  each_row s n (Commit t) plain e new each = subst (EachEntry P) (same_Some _ n e) (each_remove All s.undo t each)
  each_row s n (End t) plain e new each = subst (EachEntry P) (cond_some _ _ _ e).1 each
  each_row s n (Copy from to words) plain e new each = subst (EachEntry P) (copy_told s n (record { from = from; to = to; words = words }) e).is each
  each_row s n (Scan page writes) plain e new each = scanned s n page writes s.collection e each
  each_row s n (Flip copies) plain e new each = absurd plain
  each_row s n Collected plain e new each = ended s n s.collection e each

  -- what holds of each write, and of those of updates, holds of each after records other than flips
  pub each_after : (s n : State) (records : List Record) → AllByRecursion IsNoFlip records → after_all s records ≡ Some n → AllByRecursion (OfUpdate P) records → EachEntry P s → EachEntry P n
  each_after s n [] plain e new each = subst (EachEntry P) (same_Some s n e) each
  each_after s n (r ∷ rs) plain e new each =
      option_and_then_some (λ next. after_all next rs) (after s r) n e (λ next one rest.
      each_after next n rs plain.1 rest new.1 (each_row s next r plain.0 (passed (is_number_or_none (number_of r)) (row_after s r) next one) new.0 each))
