-- Laws of the records that take writes back: one transaction's, and at an opening those of every transaction that has not ended.
use Rattle.std.proofs.Common.{◌≡◌, ◌≢◌, ℕ, ◌+◌, ◌*◌, ◌<◌, ◌≤◌, max, true, List, [], ◌∷◌, length, Option, None, Some, refl, sym, ap, ◌∙◌, arith, length-append}
use Rattle.std.specs.Prelude.{◌^◌, fold, sum_by, option_and_then, unwrap_or}
use Rattle.std.specs.List.{AllByRecursion}
use Rattle.std.specs.Ordering.{nat_cmp}
use Rattle.std.specs.FinMap.{FinMap, empty, get, remove, entries}
use Rattle.std.proofs.lemmas.Grind.{flat_map-append}
use Rattle.std.proofs.lemmas.List.Sums.{fold-append, sum_by-cons}
use Rattle.log_records.specs.declared.Record.TheVariants.{Undo}
use Rattle.log_records.specs.Record.{spelling, spellings, IsRecord}
use Rattle.log_machine.specs.declared.UndoEntry.{UndoEntry}
use Rattle.log_machine.proofs.Entries.{IsEntry}
use Rattle.log_machine.specs.Machine.{State, Loser, undo_in, undo_of, with_entries, with_word, is_number, turned, after_all, put_record, taken_back, each_taken_back, settled, losing, commits, abort_records, abort_each, rollback, undo_bytes, reserve}
use Rattle.log_machine.proofs.ListLaws.{AllByRecursion-append}
use Rattle.log_machine.specs.Entries.{EachKeyed}
use Rattle.log_machine.proofs.MapLaws.{each_remove, get_first, remove_first, remove_absent, empty_of_entries}
use Rattle.log_machine.proofs.MachineLaws.{after_all-append2, undo_with, with_with, after-Undo, after-End, number_small, commits-append}
use Rattle.log_machine.specs.Sound.{IsLoser, NoneEmpty, AreLosers}
use Rattle.log_machine.proofs.Bounds.{HaveSpellings, CanRollBack}
use Rattle.log_machine.proofs.StateLaws.{sound_after, sound_after_all}

-- One transaction.

no_list : (undo : FinMap nat_cmp (List UndoEntry)) (t : ℕ) (o : Option (List UndoEntry)) → get undo t ≡ o → NoneEmpty undo → unwrap_or o [] ≡ [] → get undo t ≡ None
no_list undo t None is some none = is
no_list undo t (Some us) is some none = absurd (some t us is none)

-- a transaction without writes has no list of them
pub none_standing : (undo : FinMap nat_cmp (List UndoEntry)) (t : ℕ) → NoneEmpty undo → undo_in undo t ≡ [] → get undo t ≡ None
none_standing undo t some none = no_list undo t (get undo t) refl some none

-- in a sound state no list is empty
pub none_empty : (s : State) → AreLosers s → NoneEmpty s.undo
none_empty s sound t us is = (sound t us is).some

-- of two records of one transaction the last one's writes are left
turned_turned : (s : State) (t : ℕ) (first last : FinMap nat_cmp (List UndoEntry)) → turned (turned s t first 0) t last 0 ≡ turned s t last 0
turned_turned s t first last =
    ap (λ k. record s { undo = last; commits = k; next = max (max s.next (t + 1)) (t + 1) }) (omega arith)
    ∙ ap (λ n. record s { undo = last; commits = s.commits + 0; next = n }) (omega arith)

-- a transaction's writes are taken back one after another
abort_on : (s : State) (t : ℕ) (us : List UndoEntry) → is_number t ≡ true → AreLosers s → undo_of s t ≡ us → after_all s (abort_records t us) ≡ Some (turned s t (with_entries s.undo t []) 0)
abort_on s t [] number sound own =
    ap (λ (x : Option State). option_and_then (λ next. Some next) x) (after-End s t number own)
    ∙ ap (λ undo. Some (turned s t undo 0)) (sym (remove_absent s.undo t (none_standing s.undo t (none_empty s sound) own)))
abort_on s t (u ∷ us) number sound own =
    let first = after-Undo s t u us number own in
    ap (λ (x : Option State). option_and_then (λ next. after_all next (abort_records t us)) x) first
    ∙ abort_on (turned s t (with_entries s.undo t us) 0) t us number (sound_after s _ (Undo t u.object u.field u.was) sound first) (undo_with s.undo t us)
    ∙ ap Some (turned_turned s t (with_entries s.undo t us) (with_entries (with_entries s.undo t us) t []))
    ∙ ap (λ undo. Some (turned s t undo 0)) (with_with s.undo t us [])

-- the state when a transaction's writes are taken back and it has ended
pub abort_reaches : (s : State) (t : ℕ) → is_number t ≡ true → AreLosers s → after_all s (abort_records t (undo_of s t)) ≡ Some (turned s t (with_entries s.undo t []) 0)
abort_reaches s t number sound = abort_on s t (undo_of s t) number sound refl

-- the words when they are taken back
pub abort_words : (t : ℕ) (us : List UndoEntry) (now : List ℕ) → fold put_record now (abort_records t us) ≡ taken_back us now
abort_words t [] now = refl
abort_words t (u ∷ us) now = abort_words t us (with_word now u.object u.field u.was)

-- no commit takes them back
pub abort_commits : (t : ℕ) (us : List UndoEntry) → commits (abort_records t us) ≡ 0
abort_commits t [] = refl
abort_commits t (u ∷ us) = abort_commits t us

-- the bytes that take them back, and those of a batch, are kept
pub abort_length : (t : ℕ) (us : List UndoEntry) → length (spellings (abort_records t us)) + 5 ≡ undo_bytes us
abort_length t [] = refl
abort_length t (u ∷ us) =
    let others = abort_length t us in
    omega (arith, length-append (spelling (Undo t u.object u.field u.was)) (spellings (abort_records t us)))

-- the records that take them back have spellings
pub abort_good : (t : ℕ) (us : List UndoEntry) → t < 2 ^ 32 → AllByRecursion IsEntry us → AllByRecursion IsRecord (abort_records t us)
abort_good t [] fits good = (fits, tt)
abort_good t (u ∷ us) fits good = (record { t_fits = fits; object_fits = good.0.object_fits; field_fits = good.0.field_fits; put_word = good.0.was_word }, abort_good t us fits good.1)

-- Every transaction that has not ended.

-- the records of a transaction that has begun change nothing but its writes
known_turned : (s : State) (t : ℕ) (undo : FinMap nat_cmp (List UndoEntry)) → t < s.next → settled (turned s t undo 0) ≡ settled s
known_turned s t undo known =
    ap (λ k. record s { undo = empty; commits = k; next = max s.next (t + 1) }) (omega arith)
    ∙ ap (λ n. record s { undo = empty; next = n }) (omega arith)

rollback_on : (es : List Loser) (s : State) → AreLosers s → losing s ≡ es → after_all s (abort_each es) ≡ Some (settled s)
rollback_on [] s sound is =
    ap (λ undo. Some (record s { undo = undo })) (empty_of_entries s.undo is)
rollback_on (e ∷ es) s sound is =
    let found = get_first s.undo e.0 e.1 es is in
    let loser = sound e.0 e.1 found in
    let own : undo_of s e.0 ≡ e.1 = ap (λ o. unwrap_or o []) found in
    let aborted = abort_on s e.0 e.1 loser.number sound own in
    let known = loser.known in
    after_all-append2 s (turned s e.0 (with_entries s.undo e.0 []) 0) (abort_records e.0 e.1) (abort_each es) aborted
    ∙ rollback_on es (turned s e.0 (with_entries s.undo e.0 []) 0) (sound_after_all s _ (abort_records e.0 e.1) sound aborted) (remove_first s.undo e.0 e.1 es is)
    ∙ ap Some (known_turned s e.0 (with_entries s.undo e.0 []) known)

-- the state when an opening has taken them back
pub rollback_reaches : (s : State) → AreLosers s → after_all s (rollback s) ≡ Some (settled s)
rollback_reaches s sound = rollback_on (losing s) s sound refl

-- the words that it leaves
each_words : (es : List Loser) (now : List ℕ) → fold put_record now (abort_each es) ≡ each_taken_back es now
each_words [] now = refl
each_words (e ∷ es) now =
    fold-append put_record now (abort_records e.0 e.1) (abort_each es)
    ∙ ap (λ (x : List ℕ). fold put_record x (abort_each es)) (abort_words e.0 e.1 now)
    ∙ each_words es (taken_back e.1 now)

pub rollback_words : (s : State) (now : List ℕ) → fold put_record now (rollback s) ≡ each_taken_back (losing s) now
rollback_words s now = each_words (losing s) now

-- it commits nothing
each_commits : (es : List Loser) → commits (abort_each es) ≡ 0
each_commits [] = refl
each_commits (e ∷ es) =
    let first = abort_commits e.0 e.1 in
    let rest = each_commits es in
    let both = commits-append (abort_records e.0 e.1) (abort_each es) in
    omega arith

pub rollback_commits : (s : State) → commits (rollback s) ≡ 0
rollback_commits s = each_commits (losing s)

-- its bytes, and those of a batch for each transaction, are kept
each_length : (es : List Loser) → length (spellings (abort_each es)) + 5 * length es ≡ sum_by (λ e. undo_bytes e.1) es
each_length [] = refl
each_length (e ∷ es) =
    let first = abort_length e.0 e.1 in
    let rest = each_length es in
    let more = sum_by-cons (λ (x : Loser). undo_bytes x.1) e es in
    let both = ap length (flat_map-append spelling (abort_records e.0 e.1) (abort_each es)) in
    let long = length-append (spellings (abort_records e.0 e.1)) (spellings (abort_each es)) in
    omega arith

pub rollback_length : (s : State) → length (spellings (rollback s)) + 5 * length (losing s) ≡ reserve s
rollback_length s = each_length (losing s)

some_of : {A : Type 0} (xs : List A) → xs ≢ [] → 1 ≤ length xs
some_of [] some = absurd (some refl)
some_of (x ∷ xs) some = omega arith

-- so one batch with them has room in what is kept
pub rollback_fits : (s : State) → losing s ≢ [] → length (spellings (rollback s)) + 5 ≤ reserve s
rollback_fits s some = let all = rollback_length s in let one = some_of (losing s) some in omega arith

-- its records have spellings
each_good : (es : List Loser) (s : State) → (undo : FinMap nat_cmp (List UndoEntry)) → EachKeyed (IsLoser s) undo → HaveSpellings undo → entries undo ≡ es → AllByRecursion IsRecord (abort_each es)
each_good [] s undo each good is = tt
each_good (e ∷ es) s undo each good is =
    let found = get_first undo e.0 e.1 es is in
    let small = number_small e.0 (each e.0 e.1 found).number in
    AllByRecursion-append IsRecord (abort_records e.0 e.1) (abort_each es)
    (abort_good e.0 e.1 (omega arith) (good e.0 e.1 found))
    (each_good es s (remove undo e.0) (each_remove (IsLoser s) undo e.0 each) (each_remove (λ t us. AllByRecursion IsEntry us) undo e.0 good) (remove_first undo e.0 e.1 es is))

pub rollback_good : (s : State) → CanRollBack s → AllByRecursion IsRecord (rollback s)
rollback_good s can = each_good (losing s) s s.undo can.sound can.entries refl
