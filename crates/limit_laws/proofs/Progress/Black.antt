-- What is not gray stays so: a record other than a flip makes gray only where no word was used.
use Rattle.std.proofs.Common.{◌≡◌, ℕ, ◌+◌, ◌<◌, ◌≤◌, Bool, true, false, List, [], ◌∷◌, Option, None, Some, refl, sym, ap, ◌∙◌, subst, arith}
use Rattle.std.specs.Prelude.{option_and_then}
use Rattle.std.specs.List.{AllByRecursion}
use Rattle.std.specs.FinSet.{contains}
use Rattle.std.proofs.lemmas.Option.{cond_some, option_and_then_some, same_Some}
use Rattle.heap_spaces.specs.Collection.{Collection}
use Rattle.heap_spaces.specs.Copying.{with_scanned}
use Rattle.collection_words.proofs.Steps.Addresses.{contains-other}
use Rattle.log_records.specs.declared.Record.{Record}
use Rattle.log_records.specs.declared.Record.TheVariants.{Update, Base, Fix, Undo, Commit, End, Copy, Scan, Flip, Collected}
use Rattle.log_machine.specs.declared.UndoEntry.{UndoEntry}
use Rattle.log_machine.specs.Collecting.{collected_in, copy_after, scanned_in}
use Rattle.log_machine.specs.Machine.{State, after, after_all, is_number_or_none, number_of, row_after, turned, undo_of, with_entries, without_newest}
use Rattle.log_machine.proofs.CopyRows.{copy_told}
use Rattle.log_machine.specs.UndoEntry.{undo_entry}
use Rattle.limit_laws.proofs.Events.Kinds.{IsNoFlip}
use Rattle.limit_laws.proofs.Progress.Rows.{passed, retained}

-- an address of a used word is not gray
pub record IsBlack (at : ℕ) (s : State) : Type 0 where
  pub black : (k : Collection) → s.collection ≡ Some k → contains k.gray at ≡ false
  pub below : at < s.base + s.used

black_still : (at : ℕ) (s n : State) → n.collection ≡ s.collection → n.base ≡ s.base → s.used ≤ n.used → IsBlack at s → IsBlack at n
black_still at s n run base used is = let below = is.below in record { black = λ k runs. is.black k (sym run ∙ runs); below = omega arith }

undone_black : (at : ℕ) (s n : State) (t : ℕ) (o : Option (List UndoEntry)) → option_and_then (λ rest. Some (turned s t (with_entries s.undo t rest) 0)) o ≡ Some n → IsBlack at s → IsBlack at n
undone_black at s n t None e is = absurd (cc e)
undone_black at s n t (Some rest) e is = let m = turned s t (with_entries s.undo t rest) 0 in subst (IsBlack at) (same_Some m n e) (black_still at s m refl refl (omega arith) is)

copied_black : (at : ℕ) (s n : State) (from to : ℕ) (words : List ℕ) → copy_after s (record { from = from; to = to; words = words }) ≡ Some n → IsBlack at s → IsBlack at n
copied_black at s n from to words e is =
    let told = copy_told s n (record { from = from; to = to; words = words }) e in
    let below = is.below in
    let end = told.can.at in
    subst (IsBlack at) told.is (record {
      black = λ k runs.
          let same = same_Some _ k runs in
          ap (λ (c : Collection). contains c.gray at) (sym same) ∙ contains-other told.k.gray to at (λ here. omega arith) ∙ is.black told.k told.runs;
      below = omega arith;
    })

not_gray : (b d : Bool) → (b ≡ true → d ≡ true) → d ≡ false → b ≡ false
not_gray true d less off = let on = less refl in absurd (cc (on, off))
not_gray false d less off = refl

scanned_black : (at : ℕ) (s n : State) (page : ℕ) (writes : List (ℕ × ℕ)) (o : Option Collection) → s.collection ≡ o → scanned_in s page writes o ≡ Some n → IsBlack at s → IsBlack at n
scanned_black at s n page writes None run e is = absurd (cc e)
scanned_black at s n page writes (Some k) run e is =
    let below = is.below in
    subst (IsBlack at) (cond_some _ _ _ e).1 (record {
      black = λ c runs.
          let same = same_Some (with_scanned k page) c runs in
          ap (λ (d : Collection). contains d.gray at) (sym same) ∙ not_gray (contains (with_scanned k page).gray at) (contains k.gray at) (λ has. (retained k page at has).0) (is.black k run);
      below = below;
    })

ended_black : (at : ℕ) (s n : State) (o : Option Collection) → collected_in s o ≡ Some n → IsBlack at s → IsBlack at n
ended_black at s n None e is = absurd (cc e)
ended_black at s n (Some k) e is = let below = is.below in subst (IsBlack at) (cond_some _ _ _ e).1 (record { black = λ c runs. absurd (cc runs); below = below })

row_black : (at : ℕ) (s n : State) (rec : Record) → IsNoFlip rec → row_after s rec ≡ Some n → IsBlack at s → IsBlack at n
row_black at s n (Update t object field was word) plain e is = subst (IsBlack at) (cond_some _ _ _ e).1 (black_still at s _ refl refl (omega arith) is)
row_black at s n (Base t address words) plain e is = subst (IsBlack at) (cond_some _ _ _ e).1 (black_still at s _ refl refl (omega arith) is)
row_black at s n (Fix t object field word) plain e is = subst (IsBlack at) (cond_some _ _ _ e).1 (black_still at s _ refl refl (omega arith) is)
row_black at s n (Undo t object field word) plain e is = undone_black at s n t (without_newest (undo_of s t) (undo_entry object field word)) e is
row_black at s n (Commit t) plain e is = subst (IsBlack at) (same_Some _ n e) (black_still at s _ refl refl (omega arith) is)
row_black at s n (End t) plain e is = subst (IsBlack at) (cond_some _ _ _ e).1 (black_still at s _ refl refl (omega arith) is)
row_black at s n (Copy from to words) plain e is = copied_black at s n from to words e is
row_black at s n (Scan page writes) plain e is = scanned_black at s n page writes s.collection refl e is
row_black at s n (Flip copies) plain e is = absurd plain
row_black at s n Collected plain e is = ended_black at s n s.collection e is

-- so it stays after records
pub black_after_all : (at : ℕ) (s n : State) (records : List Record) → AllByRecursion IsNoFlip records → after_all s records ≡ Some n → IsBlack at s → IsBlack at n
black_after_all at s n [] plain e is = subst (IsBlack at) (same_Some s n e) is
black_after_all at s n (r ∷ rs) plain e is =
    option_and_then_some (λ next. after_all next rs) (after s r) n e (λ next one rest.
    black_after_all at next n rs plain.1 rest (row_black at s next r plain.0 (passed (is_number_or_none (number_of r)) (row_after s r) next one) is))
