-- The state in memory stays consistent, and its records write within the pages.
use Rattle.std.proofs.Common.{◌≡◌, ℕ, ◌+◌, ◌^◌, ◌<◌, ◌≤◌, max, Bool, true, false, cond, List, [], ◌∷◌, reverse, drop, None, Some, is_some, refl, sym, ap, ◌∙◌, subst, arith, Result, Ok, Err}
use Rattle.std.specs.Prelude.{IfOk}
use Rattle.std.specs.List.{AllByRecursion}
use Rattle.std.specs.Ordering.{nat_cmp}
use Rattle.std.specs.FinMap.{FinMap, empty, remove, entries}
use Rattle.std.specs.Global.{Vec}
use Rattle.log_records.specs.declared.Record.{Record}
use Rattle.log_machine.specs.declared.UndoEntry.{UndoEntry}
use Rattle.log_machine.specs.UndoEntry.{LiesInside}
use Rattle.log_machine.specs.Machine.{State, Loser, start, undo_of, with_entries, space_words, words_in, owed, field_at, is_number, lies_inside, is_same_write, without_newest, losing, abort_records, abort_each, rollback}
use Rattle.log_machine.proofs.ListLaws.{AllByRecursion-append}
use Rattle.log_machine.specs.Entries.{EachKeyed}
use Rattle.log_machine.proofs.MapLaws.{each_empty, each_remove, get_first, remove_first}
use Rattle.log_machine.proofs.MachineLaws.{inside_told, newest_told}
use Rattle.log_machine.specs.Sound.{IsLoser, IsSpaced, IsConsistent}
use Rattle.log_machine.proofs.Spaced.{inside_on, spaced_start, spaced_ends}
use Rattle.log_machine.proofs.StateLaws.{all_inside, sound_with}
use Rattle.log_machine.specs.Effect.{WritesBelow, EachWritesBelow}

-- the used words are words of the pages
fits_in : (s : State) → IsConsistent s → s.base + s.used ≤ words_in s.pages
fits_in s is = spaced_ends s is.spaced

-- before the first record
pub consistent_start : (pages first : ℕ) (undo : FinMap nat_cmp (List UndoEntry)) → 1 ≤ pages → words_in pages ≤ 2097152 → undo ≡ empty → IsConsistent (record (start pages first) { undo = undo })
consistent_start pages first undo some addresses none =
    subst (λ u. IsConsistent (record (start pages first) { undo = u })) (sym none)
    (record { sound = each_empty (IsLoser (start pages first)); addresses = addresses; spaced = spaced_start pages first some })

-- the spaces are the same whatever may be taken back
spaced_as : (s : State) (undo : FinMap nat_cmp (List UndoEntry)) (commits next : ℕ) → IsSpaced s → IsSpaced (record s { undo = undo; commits = commits; next = next })
spaced_as s undo commits next spaced = record { first = spaced.first; room = spaced.room; within = spaced.within }

-- with other writes of one transaction
pub consistent_with : (s : State) (t : ℕ) (us : List UndoEntry) (undo : FinMap nat_cmp (List UndoEntry)) (commits next : ℕ) → is_number t ≡ true → AllByRecursion (LiesInside s.base s.used) us → IsConsistent s
    → undo ≡ with_entries s.undo t us → next ≡ max s.next (t + 1) → IsConsistent (record s { undo = undo; commits = commits; next = next })
consistent_with s t us undo commits next number inside is with_them later =
    let sound = sound_with s t us 0 number inside is.sound in
    let whole : IsConsistent (record s { undo = with_entries s.undo t us; commits = commits; next = max s.next (t + 1) }) =
    record { sound = λ q w some. let loser = sound q w some in record { some = loser.some; number = loser.number; known = loser.known; inside = loser.inside }; addresses = is.addresses; spaced = spaced_as s _ commits _ is.spaced } in
    subst (λ u. IsConsistent (record s { undo = u; commits = commits; next = next })) (sym with_them)
    (subst (λ n. IsConsistent (record s { undo = with_entries s.undo t us; commits = commits; next = n })) (sym later) whole)

-- at the end of one
pub consistent_end : (s : State) (t next : ℕ) → IsConsistent s → next ≡ max s.next (t + 1) → IsConsistent (record s { next = next })
consistent_end s t next is later =
    record { sound = λ q w some. let loser = is.sound q w some in record { some = loser.some; number = loser.number; known = omega (arith, loser.known); inside = loser.inside }; addresses = is.addresses; spaced = spaced_as s s.undo s.commits next is.spaced }

-- if nothing may be taken back any more
pub consistent_settled : (s : State) (undo : FinMap nat_cmp (List UndoEntry)) → IsConsistent s → undo ≡ empty → IsConsistent (record s { undo = undo })
consistent_settled s undo is none =
    subst (λ u. IsConsistent (record s { undo = u })) (sym none)
    (record { sound = each_empty (IsLoser (record s { undo = empty })); addresses = is.addresses; spaced = spaced_as s empty s.commits s.next is.spaced })

-- where an object has become stable
pub consistent_on : (s : State) (t size used next : ℕ) → IsConsistent s → s.used + size + owed s ≤ space_words s.pages → used ≡ s.used + size → next ≡ max s.next (t + 1) → IsConsistent (record s { used = used; next = next })
consistent_on s t size used next is room more later = record {
  sound = λ q w some.
      let loser = is.sound q w some in
      record { some = loser.some; number = loser.number; known = omega (arith, loser.known, later); inside = inside_on s.base s.used used w (omega (arith, more)) loser.inside };
  addresses = is.addresses;
  spaced = record { first = is.spaced.first; room = omega (arith, room, more); within = is.spaced.within };
}

-- one more write
pub inside_more : (s : State) (now : State) (t : ℕ) (write : UndoEntry) → IsConsistent s → s ≡ now → lies_inside now write.object write.field ≡ true → AllByRecursion (LiesInside s.base s.used) (write ∷ undo_of s t)
inside_more s now t write is same inside =
    (inside_told s write.object write.field write.was (ap (λ (x : State). lies_inside x write.object write.field) same ∙ inside), all_inside s t is.sound)

-- one less
inside_less_of : (s : State) (us : List UndoEntry) → AllByRecursion (LiesInside s.base s.used) us → AllByRecursion (LiesInside s.base s.used) (drop 1 us)
inside_less_of s [] all = tt
inside_less_of s (u ∷ us) all = all.1

pub inside_less : (s : State) (t : ℕ) → IsConsistent s → AllByRecursion (LiesInside s.base s.used) (drop 1 (undo_of s t))
inside_less s t is = inside_less_of s (undo_of s t) (all_inside s t is.sound)

-- The words that are written.

-- a field inside is one of the pages' words
pub below_pages : (s : State) (u : UndoEntry) → IsConsistent s → LiesInside s.base s.used u → field_at u.object u.field < words_in s.pages
below_pages s u is inside = let fits = fits_in s is in let below = inside.below in omega arith

chosen : {X : Type 0} (b : Bool) (x : X) → is_some (cond b (Some x) None) ≡ true → cond b (Some x) None ≡ Some x
chosen true x e = refl
chosen false x e = absurd (cc e)

newest_of : (s : State) (us : List UndoEntry) (write : UndoEntry) → AllByRecursion (LiesInside s.base s.used) us → is_some (without_newest us write) ≡ true → LiesInside s.base s.used write
newest_of s [] write all e = absurd (cc e)
newest_of s (u ∷ us) write all e = let told = newest_told (u ∷ us) write us (chosen (is_same_write u write) us e) in (subst (λ l. AllByRecursion (LiesInside s.base s.used) l) told all).0

-- the newest write's field too
pub newest_below : (s now : State) (t : ℕ) (write : UndoEntry) → IsConsistent s → s ≡ now → is_some (without_newest (undo_of now t) write) ≡ true → field_at write.object write.field < words_in now.pages
newest_below s now t write is same e =
    let here = ap (λ (x : State). is_some (without_newest (undo_of x t) write)) same ∙ e in
    subst (λ (x : State). field_at write.object write.field < words_in x.pages) same (below_pages s write is (newest_of s (undo_of s t) write (all_inside s t is.sound) here))

abort_below : (s : State) (t : ℕ) (us : List UndoEntry) → IsConsistent s → AllByRecursion (LiesInside s.base s.used) us → EachWritesBelow (words_in s.pages) (abort_records t us)
abort_below s t [] is all = (tt, tt)
abort_below s t (u ∷ us) is all = ((below_pages s u is all.0, tt), abort_below s t us is all.1)

each_below : (es : List Loser) (s : State) (undo : FinMap nat_cmp (List UndoEntry)) → IsConsistent s → EachKeyed (IsLoser s) undo → entries undo ≡ es → EachWritesBelow (words_in s.pages) (abort_each es)
each_below [] s undo is each e = tt
each_below (l ∷ ls) s undo is each e =
    let found = get_first undo l.0 l.1 ls e in
    AllByRecursion-append (WritesBelow (words_in s.pages)) (abort_records l.0 l.1) (abort_each ls)
    (abort_below s l.0 l.1 is (each l.0 l.1 found).inside)
    (each_below ls s (remove undo l.0) is (each_remove (IsLoser s) undo l.0 each) (remove_first undo l.0 l.1 ls e))

-- so do the records that an opening appends
pub rollback_below : (s now : State) → IsConsistent s → s ≡ now → EachWritesBelow (words_in now.pages) (rollback now)
rollback_below s now is same = subst (λ (x : State). EachWritesBelow (words_in x.pages) (rollback x)) same (each_below (losing s) s s.undo is is.sound refl)

pub told_below : {E : Type 0} (now : State) (r : Result (Vec Record) E) → EachWritesBelow (words_in now.pages) (rollback now) → IfOk r (λ records. records.items ≡ rollback now)
    → IfOk r (λ records. EachWritesBelow (words_in now.pages) records.items)
told_below now (Ok records) below is = subst (λ l. EachWritesBelow (words_in now.pages) l) (sym is) below
told_below now (Err e) below is = tt

-- the used words are words of the pages
pub fits_now : (s now : State) → IsConsistent s → s ≡ now → now.base + now.used ≤ words_in now.pages
fits_now s now is same = subst (λ (x : State). x.base + x.used ≤ words_in x.pages) same (fits_in s is)

-- what has room in the space has a size of 32 bits
pub short_now : (s now : State) (size : ℕ) → IsConsistent s → s ≡ now → now.used + size + owed now ≤ space_words now.pages → size < 2 ^ 32
short_now s now size is same room =
    let here = subst (λ (x : State). x.used + size + owed x ≤ space_words x.pages) (sym same) room in
    omega (arith, here, is.addresses)
