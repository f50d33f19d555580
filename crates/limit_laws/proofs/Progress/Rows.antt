-- What a record other than a flip does to gray addresses: they stay at or above one, if the next free word is.
use Rattle.std.proofs.Common.{◌≡◌, ℕ, ◌+◌, ◌≤◌, Bool, true, false, List, [], ◌∷◌, Option, None, Some, refl, sym, ap, ◌∙◌, subst, arith}
use Rattle.std.specs.Prelude.{if◌then◌else◌, ◌||◌, ◌==◌, not, option_and_then}
use Rattle.std.specs.List.{AllByRecursion}
use Rattle.std.specs.Cmp.{nat_cmp_total, unsigned_tied}
use Rattle.std.specs.Ordering.{eq_by_cmp, nat_cmp}
use Rattle.std.specs.FinSet.{contains, contains-insert, contains-retain, nat_cmp-IsAntisymmetric}
use Rattle.std.proofs.lemmas.Bool.{and_parts, eqb-true}
use Rattle.std.proofs.lemmas.Option.{cond_some, option_and_then_some, same_Some}
use Rattle.heap_spaces.specs.Collection.{Collection, page_of}
use Rattle.heap_spaces.specs.Copying.{with_scanned}
use Rattle.log_records.specs.declared.Record.{Record}
use Rattle.log_records.specs.declared.Record.TheVariants.{Update, Base, Fix, Undo, Commit, End, Copy, Scan, Flip, Collected}
use Rattle.log_machine.specs.declared.UndoEntry.{UndoEntry}
use Rattle.log_machine.specs.Collecting.{collected_in, copy_after, scanned_in}
use Rattle.log_machine.specs.Machine.{State, after, after_all, is_number_or_none, number_of, row_after, turned, undo_of, with_entries, without_newest}
use Rattle.log_machine.proofs.CopyRows.{copy_told}
use Rattle.log_machine.specs.UndoEntry.{undo_entry}
use Rattle.limit_laws.proofs.Events.Kinds.{IsNoCopy, IsNoFlip}

-- all gray addresses are this one or greater
abbrev pub GrayFrom : ℕ → State → Type 0
GrayFrom x s = (k : Collection) (at : ℕ) → s.collection ≡ Some k → contains k.gray at ≡ true → x ≤ at

-- So they are, and the next free word is there or past it.
pub record IsFrom (x : ℕ) (s : State) : Type 0 where
  pub gray : GrayFrom x s
  pub next : x ≤ s.base + s.used

-- the collection is as it was, and no fewer words are used
from_still : (x : ℕ) (s n : State) → n.collection ≡ s.collection → n.base ≡ s.base → s.used ≤ n.used → IsFrom x s → IsFrom x n
from_still x s n run base used from =
    let next = from.next in
    record { gray = λ k at runs gray. from.gray k at (sym run ∙ runs) gray; next = omega arith }

from_turned : (x : ℕ) (s n : State) (b : Bool) (t more : ℕ) → (m : State) → m.collection ≡ s.collection → m.base ≡ s.base → s.used ≤ m.used → m ≡ n → IsFrom x s → IsFrom x n
from_turned x s n b t more m run base used is from = subst (IsFrom x) is (from_still x s m run base used from)

undone : (x : ℕ) (s n : State) (t : ℕ) (o : Option (List UndoEntry)) → option_and_then (λ rest. Some (turned s t (with_entries s.undo t rest) 0)) o ≡ Some n → IsFrom x s → IsFrom x n
undone x s n t None e from = absurd (cc e)
undone x s n t (Some rest) e from =
    let m = turned s t (with_entries s.undo t rest) 0 in
    subst (IsFrom x) (same_Some m n e) (from_still x s m refl refl (omega arith) from)

gray_insert : (b d : Bool) → (b || d) ≡ true → (P : Type 0) → (b ≡ true → P) → (d ≡ true → P) → P
gray_insert true d is P first second = first refl
gray_insert false d is P first second = second is

copied_from : (x : ℕ) (s n : State) (from to : ℕ) (words : List ℕ) → copy_after s (record { from = from; to = to; words = words }) ≡ Some n → IsFrom x s → IsFrom x n
copied_from x s n from to words e is =
    let told = copy_told s n (record { from = from; to = to; words = words }) e in
    let next = is.next in
    let at_end = told.can.at in
    subst (IsFrom x) told.is (record {
      gray = λ k at runs gray.
          let same = same_Some _ k runs in
          let there = ap (λ (c : Collection). contains c.gray at) same ∙ gray in
          gray_insert (eq_by_cmp nat_cmp at to) (contains told.k.gray at) (sym (contains-insert nat_cmp_total told.k.gray to at) ∙ there) (x ≤ at)
          (λ tie. let here = eqb-true at to (sym (unsigned_tied at to) ∙ tie) in omega (arith, here))
          (λ was. is.gray told.k at told.runs was);
      next = omega arith;
    })

not_true : (b : Bool) → not b ≡ true → b ≡ false
not_true true is = cc is
not_true false is = refl

-- what is gray after the scan of a page was gray, and does not start there
pub retained : (k : Collection) (page at : ℕ) → contains (with_scanned k page).gray at ≡ true → (contains k.gray at ≡ true) × ((page_of at == page) ≡ false)
retained k page at is =
    let both = and_parts (contains k.gray at) (not (page_of at == page))
    (sym (contains-retain k.gray (λ x. not (page_of x == page)) at (λ x tie. ap (λ y. not (page_of y == page)) (sym (nat_cmp-IsAntisymmetric at x tie)))) ∙ is) in
    (both.0, not_true (page_of at == page) both.1)

scanned_from : (x : ℕ) (s n : State) (page : ℕ) (writes : List (ℕ × ℕ)) (o : Option Collection) → s.collection ≡ o → scanned_in s page writes o ≡ Some n → IsFrom x s → IsFrom x n
scanned_from x s n page writes None run e from = absurd (cc e)
scanned_from x s n page writes (Some k) run e from =
    let told = cond_some _ _ _ e in
    let next = from.next in
    subst (IsFrom x) told.1 (record {
      gray = λ c at runs gray. let same = same_Some (with_scanned k page) c runs in from.gray k at run (retained k page at (ap (λ (d : Collection). contains d.gray at) same ∙ gray)).0;
      next = next;
    })

ended_from : (x : ℕ) (s n : State) (o : Option Collection) → collected_in s o ≡ Some n → IsFrom x s → IsFrom x n
ended_from x s n None e from = absurd (cc e)
ended_from x s n (Some k) e from =
    let told = cond_some _ _ _ e in
    let next = from.next in
    subst (IsFrom x) told.1 (record { gray = λ c at runs gray. absurd (cc runs); next = next })

row_from : (x : ℕ) (s n : State) (rec : Record) → IsNoFlip rec → row_after s rec ≡ Some n → IsFrom x s → IsFrom x n
row_from x s n (Update t object field was word) plain e from = let told = cond_some _ _ _ e in subst (IsFrom x) told.1 (from_still x s _ refl refl (omega arith) from)
row_from x s n (Base t address words) plain e from = let told = cond_some _ _ _ e in subst (IsFrom x) told.1 (from_still x s _ refl refl (omega arith) from)
row_from x s n (Fix t object field word) plain e from = let told = cond_some _ _ _ e in subst (IsFrom x) told.1 (from_still x s _ refl refl (omega arith) from)
row_from x s n (Undo t object field word) plain e from = undone x s n t (without_newest (undo_of s t) (undo_entry object field word)) e from
row_from x s n (Commit t) plain e from = subst (IsFrom x) (same_Some _ n e) (from_still x s _ refl refl (omega arith) from)
row_from x s n (End t) plain e from = let told = cond_some _ _ _ e in subst (IsFrom x) told.1 (from_still x s _ refl refl (omega arith) from)
row_from x s n (Copy from to words) plain e is = copied_from x s n from to words e is
row_from x s n (Scan page writes) plain e from = scanned_from x s n page writes s.collection refl e from
row_from x s n (Flip copies) plain e from = absurd plain
row_from x s n Collected plain e from = ended_from x s n s.collection e from

pub passed : (b : Bool) (o : Option State) (n : State) → (if b then o else None) ≡ Some n → o ≡ Some n
passed true o n e = e
passed false o n e = cc e

-- a record keeps it
pub from_after : (x : ℕ) (s n : State) (rec : Record) → IsNoFlip rec → after s rec ≡ Some n → IsFrom x s → IsFrom x n
from_after x s n rec plain e from = row_from x s n rec plain (passed (is_number_or_none (number_of rec)) (row_after s rec) n e) from

-- and so do records
pub from_after_all : (x : ℕ) (s n : State) (records : List Record) → AllByRecursion IsNoFlip records → after_all s records ≡ Some n → IsFrom x s → IsFrom x n
from_after_all x s n [] plain e from = subst (IsFrom x) (same_Some s n e) from
from_after_all x s n (r ∷ rs) plain e from =
    option_and_then_some (λ next. after_all next rs) (after s r) n e (λ next one rest. from_after_all x next n rs plain.1 rest (from_after x s next r plain.0 one from))

-- A record that copies nothing makes nothing gray.

undone_gray : (x : ℕ) (s n : State) (t : ℕ) (o : Option (List UndoEntry)) → option_and_then (λ rest. Some (turned s t (with_entries s.undo t rest) 0)) o ≡ Some n → GrayFrom x s → GrayFrom x n
undone_gray x s n t None e gray = absurd (cc e)
undone_gray x s n t (Some rest) e gray = let m = turned s t (with_entries s.undo t rest) 0 in subst (GrayFrom x) (same_Some m n e) gray

scanned_gray : (x : ℕ) (s n : State) (page : ℕ) (writes : List (ℕ × ℕ)) (o : Option Collection) → s.collection ≡ o → scanned_in s page writes o ≡ Some n → GrayFrom x s → GrayFrom x n
scanned_gray x s n page writes None run e gray = absurd (cc e)
scanned_gray x s n page writes (Some k) run e gray =
    let told = cond_some _ _ _ e in
    subst (GrayFrom x) told.1 (λ c at runs has. let same = same_Some (with_scanned k page) c runs in gray k at run (retained k page at (ap (λ (d : Collection). contains d.gray at) same ∙ has)).0)

ended_gray : (x : ℕ) (s n : State) (o : Option Collection) → collected_in s o ≡ Some n → GrayFrom x n
ended_gray x s n None e = absurd (cc e)
ended_gray x s n (Some k) e = subst (GrayFrom x) (cond_some _ _ _ e).1 (λ c at runs has. absurd (cc runs))

row_gray : (x : ℕ) (s n : State) (rec : Record) → IsNoCopy rec → row_after s rec ≡ Some n → GrayFrom x s → GrayFrom x n
row_gray x s n (Update t object field was word) plain e gray = subst (GrayFrom x) (cond_some _ _ _ e).1 gray
row_gray x s n (Base t address words) plain e gray = subst (GrayFrom x) (cond_some _ _ _ e).1 gray
row_gray x s n (Fix t object field word) plain e gray = subst (GrayFrom x) (cond_some _ _ _ e).1 gray
row_gray x s n (Undo t object field word) plain e gray = undone_gray x s n t (without_newest (undo_of s t) (undo_entry object field word)) e gray
row_gray x s n (Commit t) plain e gray = subst (GrayFrom x) (same_Some _ n e) gray
row_gray x s n (End t) plain e gray = subst (GrayFrom x) (cond_some _ _ _ e).1 gray
row_gray x s n (Copy from to words) plain e gray = absurd plain
row_gray x s n (Scan page writes) plain e gray = scanned_gray x s n page writes s.collection refl e gray
row_gray x s n (Flip copies) plain e gray = absurd plain
row_gray x s n Collected plain e gray = ended_gray x s n s.collection e

-- nor do records
pub gray_after_all : (x : ℕ) (s n : State) (records : List Record) → AllByRecursion IsNoCopy records → after_all s records ≡ Some n → GrayFrom x s → GrayFrom x n
gray_after_all x s n [] plain e gray = subst (GrayFrom x) (same_Some s n e) gray
gray_after_all x s n (r ∷ rs) plain e gray =
    option_and_then_some (λ next. after_all next rs) (after s r) n e (λ next one rest.
    gray_after_all x next n rs plain.1 rest (row_gray x s next r plain.0 (passed (is_number_or_none (number_of r)) (row_after s r) next one) gray))

-- A record other than a flip leaves the current space.

undone_base : (s n : State) (t : ℕ) (o : Option (List UndoEntry)) → option_and_then (λ rest. Some (turned s t (with_entries s.undo t rest) 0)) o ≡ Some n → n.base ≡ s.base
undone_base s n t None e = absurd (cc e)
undone_base s n t (Some rest) e = let m = turned s t (with_entries s.undo t rest) 0 in ap (λ (x : State). x.base) (sym (same_Some m n e))

scanned_base : (s n : State) (page : ℕ) (writes : List (ℕ × ℕ)) (o : Option Collection) → scanned_in s page writes o ≡ Some n → n.base ≡ s.base
scanned_base s n page writes None e = absurd (cc e)
scanned_base s n page writes (Some k) e = ap (λ (x : State). x.base) (sym (cond_some _ _ _ e).1)

ended_base : (s n : State) (o : Option Collection) → collected_in s o ≡ Some n → n.base ≡ s.base
ended_base s n None e = absurd (cc e)
ended_base s n (Some k) e = ap (λ (x : State). x.base) (sym (cond_some _ _ _ e).1)

row_base : (s n : State) (rec : Record) → IsNoFlip rec → row_after s rec ≡ Some n → n.base ≡ s.base
row_base s n (Update t object field was word) plain e = ap (λ (x : State). x.base) (sym (cond_some _ _ _ e).1)
row_base s n (Base t address words) plain e = ap (λ (x : State). x.base) (sym (cond_some _ _ _ e).1)
row_base s n (Fix t object field word) plain e = ap (λ (x : State). x.base) (sym (cond_some _ _ _ e).1)
row_base s n (Undo t object field word) plain e = undone_base s n t (without_newest (undo_of s t) (undo_entry object field word)) e
row_base s n (Commit t) plain e = ap (λ (x : State). x.base) (sym (same_Some _ n e))
row_base s n (End t) plain e = ap (λ (x : State). x.base) (sym (cond_some _ _ _ e).1)
row_base s n (Copy from to words) plain e = ap (λ (x : State). x.base) (sym (copy_told s n (record { from = from; to = to; words = words }) e).is)
row_base s n (Scan page writes) plain e = scanned_base s n page writes s.collection e
row_base s n (Flip copies) plain e = absurd plain
row_base s n Collected plain e = ended_base s n s.collection e

-- and so do records
pub base_after_all : (s n : State) (records : List Record) → AllByRecursion IsNoFlip records → after_all s records ≡ Some n → n.base ≡ s.base
base_after_all s n [] plain e = ap (λ (x : State). x.base) (sym (same_Some s n e))
base_after_all s n (r ∷ rs) plain e =
    option_and_then_some (λ next. after_all next rs) (after s r) n e (λ next one rest.
    base_after_all next n rs plain.1 rest ∙ row_base s next r plain.0 (passed (is_number_or_none (number_of r)) (row_after s r) next one))
