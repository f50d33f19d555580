-- Laws of the state and the words after a list of records: with more records after it, record by record, and what holds of
-- every state that records reach.
use Rattle.std.proofs.Common.{◌≡◌, ◌≢◌, ℕ, ◌+◌, ◌≤◌, Bool, true, false, cond, List, [], ◌∷◌, ◌++◌, length, Option, None, Some, is_some, refl, ap, ◌∙◌}
use Rattle.std.specs.Prelude.{◌&&◌, option_and_then, unwrap_or}
use Rattle.std.specs.Ordering.{nat_cmp}
use Rattle.std.specs.FinMap.{FinMap, get, entries}
use Rattle.std.proofs.lemmas.Bool.{eq-eqb, eqb-true, lt-ltb, ltb-true, le-leb, leb-true, and_parts, and_from}
use Rattle.std.proofs.lemmas.Option.{cond_some}
use Rattle.std.proofs.lemmas.List.Sums.{sum_by-append}
use Rattle.log_records.specs.declared.Record.{Record}
use Rattle.log_records.specs.declared.Record.TheVariants.{Update, Base, Fix, Undo, Commit, End}
use Rattle.heap_words.specs.Word.{is_stable}
use Rattle.log_machine.specs.declared.UndoEntry.{UndoEntry}
use Rattle.log_machine.specs.UndoEntry.{LiesInside, undo_entry}
use Rattle.log_machine.specs.Machine.{State, undo_in, undo_of, with_entries, number_of, is_number, is_number_or_none, owed, lies_inside, is_same_write, without_newest, has_none, space_words, is_next_free, is_promoted_by, turned, promoted, row_after, after, after_all, is_commit, commits}
use Rattle.log_machine.proofs.MapLaws.{get_inserted, get_removed, get_beside, get_kept, insert_insert, remove_insert, insert_remove, remove_remove}

-- Records after records.

-- more records after these, where their first was taken or not
along_append : (o : Option State) (m : State) (rs more : List Record)
    → ((s : State) → after_all s rs ≡ Some m → after_all s (rs ++ more) ≡ after_all m more)
    → option_and_then (λ next. after_all next rs) o ≡ Some m → option_and_then (λ next. after_all next (rs ++ more)) o ≡ after_all m more
along_append None m rs more step e = cc
along_append (Some s) m rs more step e = step s e

-- what records say with more records after them
pub after_all-append2 : (s m : State) (rs more : List Record) → after_all s rs ≡ Some m → after_all s (rs ++ more) ≡ after_all m more
after_all-append2 s m [] more e = let same : s ≡ m = cc e in ap (λ (x : State). after_all x more) same
after_all-append2 s m (r ∷ rs) more e = along_append (after s r) m rs more (λ x. after_all-append2 x m rs more) e

-- a state stays where nothing follows it
one_after : (o : Option State) → option_and_then (λ next. Some next) o ≡ o
one_after None = refl
one_after (Some s) = refl

-- what records say with one more record
pub after_all-append : (s m : State) (rs : List Record) (r : Record) → after_all s rs ≡ Some m → after_all s (rs ++ r ∷ []) ≡ after m r
after_all-append s m rs r e = after_all-append2 s m rs (r ∷ []) e ∙ one_after (after m r)

-- and how many commits
pub commits-append : (rs more : List Record) → commits (rs ++ more) ≡ commits rs + commits more
commits-append rs more = sum_by-append (λ x. cond (is_commit x) 1 0) rs more

-- The writes of a transaction that may be taken back.

-- of the transaction that a record is of
pub undo_with : (undo : FinMap nat_cmp (List UndoEntry)) (t : ℕ) (us : List UndoEntry) → undo_in (with_entries undo t us) t ≡ us
undo_with undo t [] = ap (λ o. unwrap_or o []) (get_removed undo t)
undo_with undo t (u ∷ us) = ap (λ o. unwrap_or o []) (get_inserted undo t (u ∷ us))

-- and of every other
pub undo_beside : (undo : FinMap nat_cmp (List UndoEntry)) (t q : ℕ) (us : List UndoEntry) → q ≢ t → undo_in (with_entries undo t us) q ≡ undo_in undo q
undo_beside undo t q [] other = ap (λ o. unwrap_or o []) (get_kept undo t q other)
undo_beside undo t q (u ∷ us) other = ap (λ o. unwrap_or o []) (get_beside undo t (u ∷ us) q other)

-- the last change counts
pub with_with : (undo : FinMap nat_cmp (List UndoEntry)) (t : ℕ) (us vs : List UndoEntry) → with_entries (with_entries undo t us) t vs ≡ with_entries undo t vs
with_with undo t [] [] = remove_remove undo t
with_with undo t [] (v ∷ vs) = insert_remove undo t (v ∷ vs)
with_with undo t (u ∷ us) [] = remove_insert undo t (u ∷ us)
with_with undo t (u ∷ us) (v ∷ vs) = insert_insert undo t (u ∷ us) (v ∷ vs)

stands : (o : Option (List UndoEntry)) (u : UndoEntry) (us : List UndoEntry) → unwrap_or o [] ≡ u ∷ us → o ≡ Some (u ∷ us)
stands None u us e = absurd (cc e)
stands (Some vs) u us e = ap Some e

-- where a transaction has writes they stand in the map
pub standing : (undo : FinMap nat_cmp (List UndoEntry)) (t : ℕ) (u : UndoEntry) (us : List UndoEntry) → undo_in undo t ≡ u ∷ us → get undo t ≡ Some (u ∷ us)
standing undo t u us e = stands (get undo t) u us e

-- Rows.

-- the numbers that a transaction can have
pub number_in_range : (t : ℕ) → 1 ≤ t → t ≤ 4294967294 → is_number t ≡ true
number_in_range t some small = and_from _ _ (le-leb 1 t some) (le-leb t 4294967294 small)

pub number_small : (t : ℕ) → is_number t ≡ true → t ≤ 4294967294
number_small t e = leb-true t 4294967294 (and_parts _ _ e).1

-- a choice gives what it was made of
pub told_if : {X : Type 0} (b : Bool) (x : Option X) (y : X) → cond b x None ≡ Some y → (b ≡ true) × (x ≡ Some y)
told_if true x y e = (refl, e)
told_if false x y e = absurd (cc e)

-- a field that lies inside
pub inside_from : (s : State) (u : UndoEntry) → LiesInside s.base s.used u → lies_inside s u.object u.field ≡ true
inside_from s u inside = and_from _ _ (le-leb _ _ inside.above) (lt-ltb _ _ inside.below)

pub inside_told : (s : State) (object field was : ℕ) → lies_inside s object field ≡ true → LiesInside s.base s.used (undo_entry object field was)
inside_told s object field was e = let parts = and_parts _ _ e in record { above = leb-true _ _ parts.0; below = ltb-true _ _ parts.1 }

-- What it means that a number of words from an address on are the next ones that are not used.
pub record IsNextFree (s : State) (address size : ℕ) : Type 0 where
  pub at : address ≡ s.base + s.used
  pub room : s.used + size + owed s ≤ space_words s.pages

pub free_told : (s : State) (address size : ℕ) → is_next_free s address size ≡ true → IsNextFree s address size
free_told s address size e = let parts = and_parts _ _ e in record { at = eqb-true _ _ parts.0; room = leb-true _ _ parts.1 }

pub free_from : (s : State) (address size : ℕ) → IsNextFree s address size → is_next_free s address size ≡ true
free_from s address size free = and_from _ _ (eq-eqb _ _ free.at) (le-leb _ _ free.room)

-- a write is that write
same_write : (u : UndoEntry) → is_same_write u u ≡ true
same_write u = and_from _ _ (and_from _ _ (eq-eqb u.object u.object refl) (eq-eqb u.field u.field refl)) (eq-eqb u.was u.was refl)

-- one write is another, where each part is
same_entry : (u v : UndoEntry) → is_same_write u v ≡ true → u ≡ v
same_entry u v e =
    let parts = and_parts _ _ e in
    let first = and_parts _ _ parts.0 in
    ap (λ n. undo_entry n u.field u.was) (eqb-true u.object v.object first.0)
    ∙ ap (λ n. undo_entry v.object n u.was) (eqb-true u.field v.field first.1)
    ∙ ap (λ n. undo_entry v.object v.field n) (eqb-true u.was v.was parts.1)

-- an undo that can follow takes the newest write back
pub newest_told : (entries : List UndoEntry) (write : UndoEntry) (rest : List UndoEntry) → without_newest entries write ≡ Some rest → entries ≡ write ∷ rest
newest_told [] write rest e = absurd (cc e)
newest_told (u ∷ us) write rest e =
    let told = cond_some _ _ _ e in
    ap (λ (x : UndoEntry). x ∷ us) (same_entry u write told.0) ∙ ap (λ (x : List UndoEntry). write ∷ x) told.1

newest_taken : (entries : List UndoEntry) (u : UndoEntry) (us : List UndoEntry) → entries ≡ u ∷ us → without_newest entries u ≡ Some us
newest_taken entries u us e = ap (λ l. without_newest l u) e ∙ ap (λ b. cond b (Some us) None) (same_write u)

-- the state after a record of a transaction with a number
of_number : (s : State) (r : Record) → is_number_or_none (number_of r) ≡ true → after s r ≡ row_after s r
of_number s r number = ap (λ b. cond b (row_after s r) None) number

-- the state after a write that can follow
pub after-Update : (s : State) (t object field was word : ℕ) → is_number t ≡ true → lies_inside s object field ≡ true
    → after s (Update t object field was word) ≡ Some (turned s t (with_entries s.undo t (undo_entry object field was ∷ undo_of s t)) 0)
after-Update s t object field was word number inside =
    of_number s (Update t object field was word) number
    ∙ ap (λ b. cond b (Some (turned s t (with_entries s.undo t (undo_entry object field was ∷ undo_of s t)) 0)) None) inside

-- after an object that becomes stable
pub after-Base : (s : State) (t address : ℕ) (words : List ℕ) → is_number t ≡ true → IsNextFree s address (length words) → is_promoted_by t words ≡ true
    → after s (Base t address words) ≡ Some (promoted s t (length words))
after-Base s t address words number free own =
    of_number s (Base t address words) number
    ∙ ap (λ b. cond b (Some (promoted s t (length words))) None) (and_from _ _ (free_from s address (length words) free) own)

-- what is chosen is there where both hold
told_both : {X : Type 0} (a b : Bool) (x : X) → is_some (cond a (cond b (Some x) None) None) ≡ true → (a ≡ true) × (b ≡ true)
told_both true true x e = (refl, refl)
told_both true false x e = absurd (cc e)
told_both false b x e = absurd (cc e)

-- such an object takes the next words that are not used
pub follows_Base : (s : State) (t address : ℕ) (words : List ℕ) → is_some (after s (Base t address words)) ≡ true → (is_number t ≡ true) × IsNextFree s address (length words)
follows_Base s t address words e =
    let both = told_both (is_number t) (is_next_free s address (length words) && is_promoted_by t words) (promoted s t (length words)) e in
    (both.0, free_told s address (length words) (and_parts _ _ both.1).0)

-- after a field that comes to refer to one
pub after-Fix : (s : State) (t object field word : ℕ) → is_number t ≡ true → lies_inside s object field ≡ true → is_stable word ≡ true
    → after s (Fix t object field word) ≡ Some (turned s t s.undo 0)
after-Fix s t object field word number inside stable =
    of_number s (Fix t object field word) number
    ∙ ap (λ b. cond b (Some (turned s t s.undo 0)) None) (and_from _ _ inside stable)

-- after one that takes the newest write back
pub after-Undo : (s : State) (t : ℕ) (u : UndoEntry) (us : List UndoEntry) → is_number t ≡ true → undo_of s t ≡ u ∷ us
    → after s (Undo t u.object u.field u.was) ≡ Some (turned s t (with_entries s.undo t us) 0)
after-Undo s t u us number newest =
    of_number s (Undo t u.object u.field u.was) number
    ∙ ap (λ (x : Option (List UndoEntry)). option_and_then (λ rest. Some (turned s t (with_entries s.undo t rest) 0)) x) (newest_taken (undo_of s t) u us newest)

-- after a commit
pub after-Commit : (s : State) (t : ℕ) → is_number t ≡ true → after s (Commit t) ≡ Some (turned s t (with_entries s.undo t []) 1)
after-Commit s t number = of_number s (Commit t) number

-- and after an end
pub after-End : (s : State) (t : ℕ) → is_number t ≡ true → undo_of s t ≡ [] → after s (End t) ≡ Some (turned s t s.undo 0)
after-End s t number none = of_number s (End t) number ∙ ap (λ l. cond (has_none l) (Some (turned s t s.undo 0)) None) none
