-- Every state that records reach is sound, and what its fields are.
use Rattle.std.proofs.Common.{◌≡◌, ℕ, ◌+◌, true, cond, List, [], ◌∷◌, length, Option, None, Some, refl, sym, ap, ◌∙◌, subst, arith, Bool, false, ◌≤◌}
use Rattle.std.specs.Prelude.{unwrap_or}
use Rattle.std.specs.List.{AllByRecursion}
use Rattle.std.specs.Ordering.{nat_cmp}
use Rattle.std.specs.FinMap.{FinMap, get, entries}
use Rattle.std.proofs.lemmas.Bool.{and_parts}
use Rattle.std.proofs.lemmas.Option.{option_and_then_some, cond_some}
use Rattle.std.proofs.lemmas.List.Sums.{sum_by-cons}
use Rattle.log_records.specs.declared.Record.{Record}
use Rattle.log_records.specs.declared.Record.TheVariants.{Update, Base, Fix, Undo, Commit, End, Copy, Scan, Flip, Collected}
use Rattle.log_records.specs.Record.{IsRecord}
use Rattle.log_machine.specs.declared.UndoEntry.{UndoEntry}
use Rattle.log_machine.proofs.Entries.{IsEntry}
use Rattle.log_machine.specs.UndoEntry.{LiesInside, undo_entry}
use Rattle.log_machine.specs.Machine.{State, start, undo_in, undo_of, with_entries, number_of, is_number, is_number_or_none, next_with, owed, turned, promoted, row_after, after, after_all, is_commit, commits, space_words, words_in}
use Rattle.log_machine.specs.Replay.{commits_in}
use Rattle.log_machine.specs.Entries.{EachKeyed}
use Rattle.log_machine.proofs.MapLaws.{each_empty, each_insert, each_remove}
use Rattle.log_machine.proofs.MachineLaws.{told_if, free_told, newest_told, inside_told, number_small}
use Rattle.log_machine.specs.Sound.{IsLoser, AreLosers, IsSpaced}
use Rattle.log_machine.proofs.Bounds.{HaveSpellings, CanRollBack, Turns, Leads}
use Rattle.log_machine.proofs.CollectingLaws.{Collects, collects}
pub use Rattle.log_machine.proofs.Spaced.{spaced_start, spaced_ends, spaced_more, inside_on}

-- What one record does.

-- a record that uses no more words
turned_turns : (s n : State) (r : Record) (t : ℕ) (undo : FinMap nat_cmp (List UndoEntry)) → number_of r ≡ Some t → is_number t ≡ true → turned s t undo (cond (is_commit r) 1 0) ≡ n → Turns s r n
turned_turns s n r t undo own number is =
    subst (Turns s r) is
    (record { number = ap is_number_or_none own ∙ number; pages = refl; spaced = λ spaced. record { first = spaced.first; room = spaced.room; within = spaced.within }; commits = refl; next = sym (ap (next_with s.next) own) })

-- where an object has become stable, which took none of the words that are owed
spaced_on : (s : State) (t size : ℕ) → IsSpaced s → s.used + size + owed s ≤ space_words s.pages → IsSpaced (promoted s t size)
spaced_on s t size spaced room = record { first = spaced.first; room = room; within = spaced.within }

no_more : (b : Bool) → b ≡ false → cond b 1 0 ≤ 0
no_more true e = absurd (cc e)
no_more false e = omega arith

-- a record of a collection, which is no transaction's
collects_turns : (s n : State) (r : Record) → number_of r ≡ None → is_commit r ≡ false → Collects s n → Turns s r n
collects_turns s n r none plain is =
    let commits = is.commits in
    let none_more = no_more (is_commit r) plain in
    record { number = ap is_number_or_none none; pages = is.pages; spaced = is.spaced; commits = omega arith; next = is.next ∙ sym (ap (next_with s.next) none) }

-- what one row does
row_turns : (s n : State) (r : Record) → is_number_or_none (number_of r) ≡ true → row_after s r ≡ Some n → Turns s r n
row_turns s n (Update t object field was word) number e =
    let told = cond_some _ _ _ e in
    turned_turns s n (Update t object field was word) t (with_entries s.undo t (undo_entry object field was ∷ undo_of s t)) refl number told.1
row_turns s n (Base t address words) number e =
    let told = cond_some _ _ _ e in
    let free = free_told s address (length words) (and_parts _ _ told.0).0 in
    subst (Turns s (Base t address words)) told.1
    (record { number = number; pages = refl; spaced = λ spaced. spaced_on s t (length words) spaced free.room; commits = omega arith; next = refl })
row_turns s n (Fix t object field word) number e = let told = cond_some _ _ _ e in turned_turns s n (Fix t object field word) t s.undo refl number told.1
row_turns s n (Undo t object field word) number e =
    option_and_then_some (λ rest. Some (turned s t (with_entries s.undo t rest) 0)) _ n e (λ rest newest is. turned_turns s n (Undo t object field word) t (with_entries s.undo t rest) refl number (cc is))
row_turns s n (Commit t) number e = turned_turns s n (Commit t) t (with_entries s.undo t []) refl number (cc e)
row_turns s n (End t) number e = let told = cond_some _ _ _ e in turned_turns s n (End t) t s.undo refl number told.1
row_turns s n (Copy from to words) number e = collects_turns s n (Copy from to words) refl refl (collects s n (Copy from to words) e)
row_turns s n (Scan page writes) number e = collects_turns s n (Scan page writes) refl refl (collects s n (Scan page writes) e)
row_turns s n (Flip copies) number e = collects_turns s n (Flip copies) refl refl (collects s n (Flip copies) e)
row_turns s n Collected number e = collects_turns s n Collected refl refl (collects s n Collected e)

-- what one record does
pub turns : (s n : State) (r : Record) → after s r ≡ Some n → Turns s r n
turns s n r e = let told = told_if _ _ _ e in row_turns s n r told.0 told.1

-- Sound states.

-- a loser is still one after one more record
pub grown : (s : State) (t : ℕ) (undo : FinMap nat_cmp (List UndoEntry)) (more q : ℕ) (entries : List UndoEntry) → IsLoser s q entries → IsLoser (turned s t undo more) q entries
grown s t undo more q entries is = record { some = is.some; number = is.number; known = omega (arith, is.known); inside = is.inside }

-- and where an object has become stable
pub grown_on : (s : State) (t size q : ℕ) (entries : List UndoEntry) → IsLoser s q entries → IsLoser (promoted s t size) q entries
grown_on s t size q entries is =
    record { some = is.some; number = is.number; known = omega (arith, is.known); inside = inside_on s.base s.used (s.used + size) entries (omega arith) is.inside }

at_option : (P : ℕ → List UndoEntry → Type 0) (o : Option (List UndoEntry)) (t : ℕ) → P t [] → ((v : List UndoEntry) → o ≡ Some v → P t v) → P t (unwrap_or o [])
at_option P None t none each = none
at_option P (Some v) t none each = each v refl

-- what a transaction's writes are, where all of a map's are so
pub each_at : (P : ℕ → List UndoEntry → Type 0) (undo : FinMap nat_cmp (List UndoEntry)) (t : ℕ) → P t [] → EachKeyed P undo → P t (undo_in undo t)
each_at P undo t none each = at_option P (get undo t) t none (λ v some. each t v some)

-- the writes of each transaction lie inside
pub all_inside : (s : State) (t : ℕ) → AreLosers s → AllByRecursion (LiesInside s.base s.used) (undo_of s t)
all_inside s t sound = each_at (λ q us. AllByRecursion (LiesInside s.base s.used) us) s.undo t tt (λ q us some. (sound q us some).inside)

-- and have spellings
pub all_spelled : (undo : FinMap nat_cmp (List UndoEntry)) (t : ℕ) → HaveSpellings undo → AllByRecursion IsEntry (undo_in undo t)
all_spelled undo t good = each_at (λ q us. AllByRecursion IsEntry us) undo t tt good

-- with other writes of one transaction
pub sound_with : (s : State) (t : ℕ) (us : List UndoEntry) (more : ℕ) → is_number t ≡ true → AllByRecursion (LiesInside s.base s.used) us → AreLosers s → AreLosers (turned s t (with_entries s.undo t us) more)
sound_with s t [] more number inside sound =
    each_remove (IsLoser (turned s t (with_entries s.undo t []) more)) s.undo t (λ q w some. grown s t (with_entries s.undo t []) more q w (sound q w some))
sound_with s t (u ∷ us) more number inside sound =
    let here : IsLoser (turned s t (with_entries s.undo t (u ∷ us)) more) t (u ∷ us) = record { some = λ none. absurd (cc none); number = number; known = omega arith; inside = inside } in
    each_insert (IsLoser (turned s t (with_entries s.undo t (u ∷ us)) more)) s.undo t (u ∷ us) here (λ q w some. grown s t (with_entries s.undo t (u ∷ us)) more q w (sound q w some))

spelled_with : (undo : FinMap nat_cmp (List UndoEntry)) (t : ℕ) (us : List UndoEntry) → AllByRecursion IsEntry us → HaveSpellings undo → HaveSpellings (with_entries undo t us)
spelled_with undo t [] good each = each_remove (λ q us. AllByRecursion IsEntry us) undo t each
spelled_with undo t (u ∷ us) good each = each_insert (λ q us. AllByRecursion IsEntry us) undo t (u ∷ us) good each

-- nothing may be taken back before the first record
pub sound_start : (pages first : ℕ) → AreLosers (start pages first)
sound_start pages first = each_empty (IsLoser (start pages first))

sound_row : (s n : State) (r : Record) → is_number_or_none (number_of r) ≡ true → AreLosers s → row_after s r ≡ Some n → AreLosers n
sound_row s n (Update t object field was word) number sound e =
    let told = cond_some _ _ _ e in
    let write : UndoEntry = undo_entry object field was in
    let is : turned s t (with_entries s.undo t (write ∷ undo_of s t)) 0 ≡ n = told.1 in
    subst AreLosers is (sound_with s t (write ∷ undo_of s t) 0 number (inside_told s object field was told.0, all_inside s t sound) sound)
sound_row s n (Base t address words) number sound e =
    let told = cond_some _ _ _ e in
    let is : promoted s t (length words) ≡ n = told.1 in
    subst AreLosers is (λ q w some. grown_on s t (length words) q w (sound q w some))
sound_row s n (Fix t object field word) number sound e =
    let told = cond_some _ _ _ e in
    let is : turned s t s.undo 0 ≡ n = told.1 in
    subst AreLosers is (λ q w some. grown s t s.undo 0 q w (sound q w some))
sound_row s n (Undo t object field word) number sound e =
    let write : UndoEntry = undo_entry object field word in
    option_and_then_some (λ rest. Some (turned s t (with_entries s.undo t rest) 0)) _ n e (λ rest newest is.
    let same : turned s t (with_entries s.undo t rest) 0 ≡ n = cc is in
    let inside = subst (λ (l : List UndoEntry). AllByRecursion (LiesInside s.base s.used) l) (newest_told (undo_of s t) write rest newest) (all_inside s t sound) in
    subst AreLosers same (sound_with s t rest 0 number inside.1 sound))
sound_row s n (Commit t) number sound e =
    let is : turned s t (with_entries s.undo t []) 1 ≡ n = cc e in
    subst AreLosers is (sound_with s t [] 1 number tt sound)
sound_row s n (End t) number sound e =
    let told = cond_some _ _ _ e in
    let is : turned s t s.undo 0 ≡ n = told.1 in
    subst AreLosers is (λ q w some. grown s t s.undo 0 q w (sound q w some))
sound_row s n (Copy from to words) number sound e = (collects s n (Copy from to words) e).sound sound
sound_row s n (Scan page writes) number sound e = (collects s n (Scan page writes) e).sound sound
sound_row s n (Flip copies) number sound e = (collects s n (Flip copies) e).sound sound
sound_row s n Collected number sound e = (collects s n Collected e).sound sound

spelled_row : (s n : State) (r : Record) → IsRecord r → IsSpaced s → words_in s.pages ≤ 2097152 → HaveSpellings s.undo → row_after s r ≡ Some n → HaveSpellings n.undo
spelled_row s n (Update t object field was word) good spaced few each e =
    let told = cond_some _ _ _ e in
    let write : UndoEntry = undo_entry object field was in
    let is : turned s t (with_entries s.undo t (write ∷ undo_of s t)) 0 ≡ n = told.1 in
    let entry : IsEntry write = record { object_fits = good.object_fits; field_fits = good.field_fits; was_word = good.was_word } in
    subst (λ (x : State). HaveSpellings x.undo) is (spelled_with s.undo t (write ∷ undo_of s t) (entry, all_spelled s.undo t each) each)
spelled_row s n (Base t address words) good spaced few each e =
    let told = cond_some _ _ _ e in
    let is : promoted s t (length words) ≡ n = told.1 in
    subst (λ (x : State). HaveSpellings x.undo) is each
spelled_row s n (Fix t object field word) good spaced few each e =
    let told = cond_some _ _ _ e in
    let is : turned s t s.undo 0 ≡ n = told.1 in
    subst (λ (x : State). HaveSpellings x.undo) is each
spelled_row s n (Undo t object field word) good spaced few each e =
    let write : UndoEntry = undo_entry object field word in
    option_and_then_some (λ rest. Some (turned s t (with_entries s.undo t rest) 0)) _ n e (λ rest newest is.
    let same : turned s t (with_entries s.undo t rest) 0 ≡ n = cc is in
    let entries = subst (λ (l : List UndoEntry). AllByRecursion IsEntry l) (newest_told (undo_of s t) write rest newest) (all_spelled s.undo t each) in
    subst (λ (x : State). HaveSpellings x.undo) same (spelled_with s.undo t rest entries.1 each))
spelled_row s n (Commit t) good spaced few each e =
    let is : turned s t (with_entries s.undo t []) 1 ≡ n = cc e in
    subst (λ (x : State). HaveSpellings x.undo) is (spelled_with s.undo t [] tt each)
spelled_row s n (End t) good spaced few each e =
    let told = cond_some _ _ _ e in
    let is : turned s t s.undo 0 ≡ n = told.1 in
    subst (λ (x : State). HaveSpellings x.undo) is each
spelled_row s n (Copy from to words) good spaced few each e = (collects s n (Copy from to words) e).spelled spaced few each
spelled_row s n (Scan page writes) good spaced few each e = (collects s n (Scan page writes) e).spelled spaced few each
spelled_row s n (Flip copies) good spaced few each e = (collects s n (Flip copies) e).spelled spaced few each
spelled_row s n Collected good spaced few each e = (collects s n Collected e).spelled spaced few each

-- one more record leaves a sound state
pub sound_after : (s n : State) (r : Record) → AreLosers s → after s r ≡ Some n → AreLosers n
sound_after s n r sound e = let told = told_if _ _ _ e in sound_row s n r told.0 sound told.1

-- so do these records
pub sound_after_all : (s m : State) (rs : List Record) → AreLosers s → after_all s rs ≡ Some m → AreLosers m
sound_after_all s m [] sound e = let same : s ≡ m = cc e in subst AreLosers same sound
sound_after_all s m (r ∷ rs) sound e = option_and_then_some (λ next. after_all next rs) (after s r) m e (λ next first rest. sound_after_all next m rs (sound_after s next r sound first) rest)

-- Where records lead.

-- the next number after a record grows, and stays in range
next_later : (next : ℕ) (number : Option ℕ) → is_number_or_none number ≡ true → (next ≤ next_with next number) × (next ≤ 4294967295 → next_with next number ≤ 4294967295)
next_later next None is = (omega arith, λ fits. fits)
next_later next (Some t) is = let small = number_small t is in (omega arith, λ fits. omega arith)

-- where one more record leads
leads_turned : (s n : State) (r : Record) → Turns s r n → Leads s n
leads_turned s n r is =
    let later = next_later s.next (number_of r) is.number in
    record { pages = is.pages; spaced = is.spaced; grows = omega (arith, is.next, later.0); next_in_range = λ fits. omega (arith, is.next, later.1 fits) }

pub leads_after : (s n : State) (r : Record) → after s r ≡ Some n → Leads s n
leads_after s n r e = leads_turned s n r (turns s n r e)

leads_on : (s n m : State) → Leads s n → Leads n m → Leads s m
leads_on s n m first rest = record {
  pages = rest.pages ∙ first.pages;
  spaced = λ spaced. rest.spaced (first.spaced spaced);
  grows = omega (arith, first.grows, rest.grows);
  next_in_range = λ fits. rest.next_in_range (first.next_in_range fits);
}

-- where these records lead
pub leads_after_all : (s m : State) (rs : List Record) → after_all s rs ≡ Some m → Leads s m
leads_after_all s m [] e =
    let same : s ≡ m = cc e in
    subst (Leads s) same (record { pages = refl; spaced = λ spaced. spaced; grows = omega arith; next_in_range = λ fits. fits })
leads_after_all s m (r ∷ rs) e = option_and_then_some (λ next. after_all next rs) (after s r) m e (λ next first rest. leads_on s next m (leads_after s next r first) (leads_after_all next m rs rest))

-- What records can take back.

-- one more record leaves undos that have spellings
pub spelled_after : (s n : State) (r : Record) → IsRecord r → IsSpaced s → words_in s.pages ≤ 2097152 → HaveSpellings s.undo → after s r ≡ Some n → HaveSpellings n.undo
spelled_after s n r good spaced few each e = let told = told_if _ _ _ e in spelled_row s n r good spaced few each told.1

pub spelled_after_all : (s m : State) (rs : List Record) → AllByRecursion IsRecord rs → IsSpaced s → words_in s.pages ≤ 2097152 → HaveSpellings s.undo → after_all s rs ≡ Some m → HaveSpellings m.undo
spelled_after_all s m [] good spaced few each e = let same : s ≡ m = cc e in subst (λ (x : State). HaveSpellings x.undo) same each
spelled_after_all s m (r ∷ rs) good spaced few each e = option_and_then_some (λ next. after_all next rs) (after s r) m e (λ next first rest.
    let leads = leads_after s next r first in
    let fits = subst (λ (p : ℕ). words_in p ≤ 2097152) (sym leads.pages) few in
    spelled_after_all next m rs good.1 (leads.spaced spaced) fits (spelled_after s next r good.0 spaced few each first) rest)

-- records that have spellings leave writes that records can take back
pub can_after_all : (s m : State) (rs : List Record) → AllByRecursion IsRecord rs → IsSpaced s → words_in s.pages ≤ 2097152 → CanRollBack s → after_all s rs ≡ Some m → CanRollBack m
can_after_all s m rs good spaced few can e = record { sound = sound_after_all s m rs can.sound e; entries = spelled_after_all s m rs good spaced few can.entries e }

pub can_start : (pages first : ℕ) → CanRollBack (start pages first)
can_start pages first = record { sound = sound_start pages first; entries = each_empty (λ q us. AllByRecursion IsEntry us) }

-- where a reference has room for each address of the pages
pub can_roll_back : (pages first : ℕ) (s : State) (rs : List Record) → 1 ≤ pages → pages ≤ 16384 → AllByRecursion IsRecord rs → after_all (start pages first) rs ≡ Some s → CanRollBack s
can_roll_back pages first s rs some few good e = can_after_all (start pages first) s rs good (spaced_start pages first some) (omega arith) (can_start pages first) e

-- The other fields.

-- records leave the spaces so
pub spaced_after_all : (pages first : ℕ) (s : State) (rs : List Record) → 1 ≤ pages → after_all (start pages first) rs ≡ Some s → (s.pages ≡ pages) × IsSpaced s
spaced_after_all pages first s rs some e =
    let leads = leads_after_all (start pages first) s rs e in
    (leads.pages, leads.spaced (spaced_start pages first some))

-- one record is a commit or none
pub commits_after : (s n : State) (r : Record) → after s r ≡ Some n → n.commits ≡ cond (is_commit r) 1 0 + s.commits
commits_after s n r e = omega (arith, (turns s n r e).commits)

-- records say how many of them are commits
pub commits-after_all : (s m : State) (rs : List Record) → after_all s rs ≡ Some m → m.commits ≡ commits rs + s.commits
commits-after_all s m [] e = let same : s.commits ≡ m.commits = cc in omega arith
commits-after_all s m (r ∷ rs) e = option_and_then_some (λ next. after_all next rs) (after s r) m e (λ next first rest.
    let one = commits_after s next r first in
    let others = commits-after_all next m rs rest in
    let more = sum_by-cons (λ x. cond (is_commit x) 1 0) r rs in
    omega arith)

-- so the commits of the state that they leave are those before them and their own
pub commits-from : (s m : State) (rs : List Record) → after_all s rs ≡ Some m → commits_in (after_all s rs) ≡ s.commits + commits rs
commits-from s m rs e = let all = commits-after_all s m rs e in let same = ap commits_in e in omega arith

-- from a new heap on they are their own
pub commits-start : (pages first : ℕ) (m : State) (rs : List Record) → after_all (start pages first) rs ≡ Some m → m.commits ≡ commits rs
commits-start pages first m rs e = let all = commits-after_all (start pages first) m rs e in omega arith

one_at_most : (b : Bool) → cond b 1 0 ≤ 1
one_at_most true = omega arith
one_at_most false = omega arith

-- one record is at most one commit
pub commits_few : (s n : State) (r : Record) → after s r ≡ Some n → n.commits ≤ s.commits + 1
commits_few s n r e = let one = commits_after s n r e in let few = one_at_most (is_commit r) in omega arith
