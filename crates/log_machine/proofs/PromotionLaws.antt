-- The state after the records of a promotion: only the number of used words and the next number may be others.
use Rattle.std.proofs.Common.{◌≡◌, ℕ, ◌+◌, ◌<◌, ◌≤◌, max, true, List, [], ◌∷◌, ◌++◌, length, Some, refl, sym, ap, ◌∙◌, subst, arith, length-append}
use Rattle.std.specs.Prelude.{option_and_then}
use Rattle.std.specs.List.{AllByRecursion}
use Rattle.std.proofs.lemmas.Option.{option_and_then_some, cond_some}
use Rattle.log_records.specs.declared.Record.{Record}
use Rattle.log_records.specs.declared.Record.TheVariants.{Update, Base, Fix, Undo, Commit, End, Copy, Scan, Flip, Collected}
use Rattle.log_machine.specs.Machine.{State, space_words, owed, is_number, is_promoted_by, turned, promoted, row_after, after, after_all, commits, reserve}
use Rattle.log_machine.proofs.MachineLaws.{after-Base, after-Fix, after_all-append2, told_if}
use Rattle.log_machine.proofs.Promotion.{IsPromotion, end_to_end, base_records, FieldWord, fix_records, CanFix, with_used}

-- What a promotion keeps.

-- What the records of a promotion of transaction t keep of a state.
pub record KeepsWrites (t : ℕ) (s n : State) : Type 0 where
  pub undo : n.undo ≡ s.undo
  pub commits : n.commits ≡ s.commits
  pub next : t < s.next → n.next ≡ s.next

keeps_row : (t : ℕ) (s n : State) (r : Record) → IsPromotion t r → row_after s r ≡ Some n → KeepsWrites t s n
keeps_row t s n (Update q object field was word) is e = absurd is
keeps_row t s n (Base q address words) is e =
    let told = cond_some _ _ _ e in
    let same : promoted s q (length words) ≡ n = told.1 in
    subst (KeepsWrites t s) same (record { undo = refl; commits = refl; next = λ known. omega (arith, is, known) })
keeps_row t s n (Fix q object field word) is e =
    let told = cond_some _ _ _ e in
    let same : turned s q s.undo 0 ≡ n = told.1 in
    subst (KeepsWrites t s) same (record { undo = refl; commits = omega arith; next = λ known. omega (arith, is, known) })
keeps_row t s n (Undo q object field word) is e = absurd is
keeps_row t s n (Commit q) is e = absurd is
keeps_row t s n (End q) is e = absurd is
keeps_row t s n (Copy from to words) is e = absurd is
keeps_row t s n (Scan page writes) is e = absurd is
keeps_row t s n (Flip copies) is e = absurd is
keeps_row t s n Collected is e = absurd is

-- what one of them keeps
pub keeps_after : (t : ℕ) (s n : State) (r : Record) → IsPromotion t r → after s r ≡ Some n → KeepsWrites t s n
keeps_after t s n r is e = let told = told_if _ _ _ e in keeps_row t s n r is told.1

-- what all of them keep
pub keeps_after_all : (t : ℕ) (s m : State) (ps : List Record) → AllByRecursion (IsPromotion t) ps → after_all s ps ≡ Some m → KeepsWrites t s m
keeps_after_all t s m [] all e = let same : s ≡ m = cc e in subst (KeepsWrites t s) same (record { undo = refl; commits = refl; next = λ known. refl })
keeps_after_all t s m (p ∷ ps) all e = option_and_then_some (λ next. after_all next ps) (after s p) m e (λ next first rest.
    let one = keeps_after t s next p all.0 first in
    let others = keeps_after_all t next m ps all.1 rest in
    record { undo = others.undo ∙ one.undo; commits = others.commits ∙ one.commits; next = λ known. others.next (omega (arith, known, one.next known)) ∙ one.next known })

-- the log's bytes that are kept are as many
pub reserve-promotion : (t : ℕ) (s n : State) → KeepsWrites t s n → reserve n ≡ reserve s
reserve-promotion t s n keeps = ap (λ undo. reserve (record s { undo = undo })) keeps.undo

-- no commit is among them
pub commits-promotion : (t : ℕ) (ps : List Record) → AllByRecursion (IsPromotion t) ps → commits ps ≡ 0
commits-promotion t [] all = refl
commits-promotion t (Update q object field was word ∷ ps) all = absurd all.0
commits-promotion t (Base q address words ∷ ps) all = commits-promotion t ps all.1
commits-promotion t (Fix q object field word ∷ ps) all = commits-promotion t ps all.1
commits-promotion t (Undo q object field word ∷ ps) all = absurd all.0
commits-promotion t (Commit q ∷ ps) all = absurd all.0
commits-promotion t (End q ∷ ps) all = absurd all.0
commits-promotion t (Copy from to words ∷ ps) all = absurd all.0
commits-promotion t (Scan page writes ∷ ps) all = absurd all.0
commits-promotion t (Flip copies ∷ ps) all = absurd all.0
commits-promotion t (Collected ∷ ps) all = absurd all.0

-- Objects that a transaction made.

-- Objects end to end, and fields.

-- where the transaction is known, an object that becomes stable changes only the number of used words
promoted_known : (s : State) (t size : ℕ) → t < s.next → promoted s t size ≡ with_used s size
promoted_known s t size known = ap (λ n. record s { used = s.used + size; next = n }) (omega arith)

turned_known : (s : State) (t : ℕ) → t < s.next → turned s t s.undo 0 ≡ s
turned_known s t known =
    ap (λ k. record s { commits = k; next = max s.next (t + 1) }) (omega arith)
    ∙ ap (λ n. record s { next = n }) (omega arith)

used_twice : (s : State) (a b : ℕ) → with_used (with_used s a) b ≡ with_used s (a + b)
used_twice s a b = ap (λ n. record s { used = n }) (omega arith)

used_none : (s : State) → s ≡ with_used s 0
used_none s = ap (λ n. record s { used = n }) (omega arith)

-- the state after objects that become stable, the first at the first word that is not used
pub bases_reach : (s : State) (t address : ℕ) (os : List (List ℕ)) → is_number t ≡ true → t < s.next → address ≡ s.base + s.used → s.used + length (end_to_end os) + owed s ≤ space_words s.pages
    → AllByRecursion (λ o. is_promoted_by t o ≡ true) os → after_all s (base_records t address os) ≡ Some (with_used s (length (end_to_end os)))
bases_reach s t address [] number known at room own = ap Some (used_none s)
bases_reach s t address (o ∷ os) number known at room own =
    let size = length-append o (end_to_end os) in
    let first = after-Base s t address o number (record { at = at; room = omega arith }) own.0 ∙ ap Some (promoted_known s t (length o) known) in
    ap (λ x. option_and_then (λ next. after_all next (base_records t (address + length o) os)) x) first
    ∙ bases_reach (with_used s (length o)) t (address + length o) os number known (omega arith) (omega arith) own.1
    ∙ ap Some (used_twice s (length o) (length (end_to_end os)) ∙ ap (with_used s) (sym size))

-- the state after fields that come to refer to them
pub fixes_reach : (s : State) (t : ℕ) (fs : List FieldWord) → is_number t ≡ true → t < s.next → AllByRecursion (CanFix s) fs → after_all s (fix_records t fs) ≡ Some s
fixes_reach s t [] number known can = refl
fixes_reach s t (f ∷ fs) number known can =
    let first = after-Fix s t f.0 f.1 f.2 number can.0.0 can.0.1 ∙ ap Some (turned_known s t known) in
    ap (λ x. option_and_then (λ next. after_all next (fix_records t fs)) x) first ∙ fixes_reach s t fs number known can.1

-- the state after both
pub promotion_reaches : (s : State) (t address : ℕ) (os : List (List ℕ)) (fs : List FieldWord) → is_number t ≡ true → t < s.next → address ≡ s.base + s.used → s.used + length (end_to_end os) + owed s ≤ space_words s.pages
    → AllByRecursion (λ o. is_promoted_by t o ≡ true) os → AllByRecursion (CanFix (with_used s (length (end_to_end os)))) fs
    → after_all s (base_records t address os ++ fix_records t fs) ≡ Some (with_used s (length (end_to_end os)))
promotion_reaches s t address os fs number known at room own can =
    after_all-append2 s (with_used s (length (end_to_end os))) (base_records t address os) (fix_records t fs) (bases_reach s t address os number known at room own)
    ∙ fixes_reach (with_used s (length (end_to_end os))) t fs number known can

-- Their spellings.
