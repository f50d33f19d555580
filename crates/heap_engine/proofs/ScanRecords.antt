-- The records of a planned scan are copies of objects, and the scan after them, with few writes.
use Rattle.std.proofs.Common.{◌≡◌, ℕ, zero, suc, ◌+◌, ◌*◌, ◌<◌, ◌≤◌, ◌==◌, ◌&&◌, Bool, true, false, List, [], ◌∷◌, ◌++◌, length, drop, Option, None, Some, nat_le, nat_lt, refl, ap, subst, arith, length-append, length-take}
use Rattle.std.specs.Prelude.{slice_index, option_and_then, if◌then◌else◌}
use Rattle.std.specs.List.{AllByRecursion}
use Rattle.std.proofs.lemmas.Bool.{le-leb, lt-ltb}
use Rattle.std.proofs.lemmas.Option.{same_Some}
use Rattle.std.specs.Cmp.{nat_eq_equiv}
use Rattle.heap_words.specs.declared.Header.{Header}
use Rattle.heap_words.specs.declared.Header.TheVariants.{Length, Forward}
use Rattle.heap_words.specs.declared.Word.{Word}
use Rattle.heap_words.specs.declared.Word.TheVariants as word
use Rattle.heap_words.specs.Header.{header}
use Rattle.heap_words.specs.Word.{meaning}
use Rattle.heap_spaces.specs.Collection.{Collection}
use Rattle.heap_spaces.specs.Spaces.{SpacesState}
use Rattle.log_records.specs.declared.Record.{Record}
use Rattle.log_records.specs.declared.Record.TheVariants.{Copy, Scan}
use Rattle.log_machine.proofs.ListLaws.{AllByRecursion-append}
use Rattle.object_layout.specs.Layout.{whole_length, object_at, field_words}
use Rattle.object_layout.proofs.LayoutLaws.{object_small}
use Rattle.page_scanner.specs.Scan.{Planned, nothing, copied_to, in_from_space, next_free, object_words, can_copy, with_copy, copied, can_write, written, led, led_on, follow, follow_all, is_gray, source, visit, visit_all, is_current, scan, scan_records}
use Rattle.page_scanner.proofs.Steps.{two_steps, tested, planned_parts, IsKept, kept_scan}
use Rattle.heap_engine.specs.Barrier.{is_page_scan}
use Rattle.heap_engine.proofs.ObjectFields.{fields_few}

-- a record is a copy of an object
abbrev pub IsSmallCopy : Record → Type 0
IsSmallCopy (Copy from to words) = length words ≤ 512
IsSmallCopy rec = ⊥

abbrev AreSmallCopies : Planned → Type 0
AreSmallCopies q = AllByRecursion IsSmallCopy q.copies

few_words : (words : List ℕ) (b n : ℕ) → object_at words b ≡ Some n → length (object_words words b n) ≤ 512
few_words words b n is = let small = object_small words b n is in omega (arith, small, length-take (2 + n) (drop b words))

small_kept : (spaces : SpacesState) (k : Collection) (words : List ℕ) → IsKept AreSmallCopies spaces k words
small_kept spaces k words = record {
  write = λ q r at to all is. subst AreSmallCopies (tested (can_write spaces q at to) _ r is).1 all;
  copy = λ q b n all within none object can. AllByRecursion-append IsSmallCopy q.copies (Copy b (next_free spaces q) (object_words words b n) ∷ []) all (few_words words b n object, tt);
}

-- How many writes there are.

abbrev Adds : ℕ → Planned → Planned → Type 0
Adds n q r = length r.writes ≤ length q.writes + n

module _ (spaces : SpacesState) (k : Collection) (words : List ℕ) where
  adds_written : (q r : Planned) (at to : ℕ) → written spaces q at to ≡ Some r → Adds 1 q r
  adds_written q r at to is =
      let one = tested (can_write spaces q at to) _ r is in
      subst (Adds 1 q) one.1 (omega (arith, length-append q.writes ((at, 4 * to + 2) ∷ [])))

  adds_copied : (q r : Planned) (at b : ℕ) (o : Option ℕ) → option_and_then (λ next. written spaces next at (next_free spaces q)) (copied spaces k words q b o) ≡ Some r → Adds 1 q r
  adds_copied q r at b None is = absurd (cc is)
  adds_copied q r at b (Some n) is =
      let step = two_steps (λ next. written spaces next at (next_free spaces q)) (copied spaces k words q b (Some n)) r is in
      let one = tested (can_copy spaces k q b (2 + n)) (with_copy spaces words q b n) step.0 step.1 in
      let more = adds_written step.0 r at (next_free spaces q) step.2 in
      let same = ap (λ (p : Planned). length p.writes) one.1 in
      omega (arith, more, same)

  adds_led : (q r : Planned) (at b : ℕ) (h : Option Header) → led spaces k words q at b h ≡ Some r → Adds 1 q r
  adds_led q r at b None is = adds_copied q r at b (whole_length words b None) is
  adds_led q r at b (Some (Forward to)) is = adds_written q r at to is
  adds_led q r at b (Some (Length n)) is = adds_copied q r at b (whole_length words b (Some (Length n))) is

  adds_led_on : (q r : Planned) (at b : ℕ) (o : Option ℕ) → led_on spaces k words q at b o ≡ Some r → Adds 1 q r
  adds_led_on q r at b (Some to) is = adds_written q r at to is
  adds_led_on q r at b None is = adds_led q r at b (header (slice_index words b)) is

  adds_same : (q r : Planned) (n : ℕ) → Some q ≡ Some r → Adds n q r
  adds_same q r n is = subst (Adds n q) (same_Some q r is) (omega arith)

  adds_from : (q r : Planned) (at b : ℕ) (t : Bool) → (if t then led_on spaces k words q at b (copied_to q.copies b) else Some q) ≡ Some r → Adds 1 q r
  adds_from q r at b true is = adds_led_on q r at b (copied_to q.copies b) is
  adds_from q r at b false is = adds_same q r 1 is

  adds_follow : (q r : Planned) (at : ℕ) (meant : Option Word) → follow spaces k words q at meant ≡ Some r → Adds 1 q r
  adds_follow q r at None is = adds_same q r 1 is
  adds_follow q r at (Some word.Null) is = adds_same q r 1 is
  adds_follow q r at (Some (word.Int n)) is = adds_same q r 1 is
  adds_follow q r at (Some (word.Volatile i)) is = adds_same q r 1 is
  adds_follow q r at (Some (word.Stable b)) is = adds_from q r at b (in_from_space spaces b) is

  adds_follow_all : (q r : Planned) (at : ℕ) (ws : List ℕ) → follow_all spaces k words q at ws ≡ Some r → Adds (length ws) q r
  adds_follow_all q r at [] is = adds_same q r 0 is
  adds_follow_all q r at (w ∷ ws) is =
      let step = two_steps (λ next. follow_all spaces k words next (at + 1) ws) (follow spaces k words q at (meaning w)) r is in
      let one = adds_follow q step.0 at (meaning w) step.1 in
      let rest = adds_follow_all step.0 r (at + 1) ws step.2 in
      omega (arith, one, rest)

  adds_visit : (q r : Planned) (at : ℕ) (t : Bool) → (if t then follow_all spaces k words q (at + 2) (field_words words (source q at)) else Some q) ≡ Some r → Adds 510 q r
  adds_visit q r at true is =
      let all = adds_follow_all q r (at + 2) (field_words words (source q at)) is in
      omega (arith, all, fields_few words (source q at))
  adds_visit q r at false is = adds_same q r 510 is

  adds_visit_all : (q r : Planned) (at count : ℕ) → visit_all spaces k words q at count ≡ Some r → Adds (510 * count) q r
  unfolding visit_all
  adds_visit_all q r at zero is = adds_same q r 0 is
  adds_visit_all q r at (suc count) is =
      let step = two_steps (λ next. visit_all spaces k words next (at + 1) count) (visit spaces k words q at) r is in
      let one = adds_visit q step.0 at (is_gray k q at) step.1 in
      let rest = adds_visit_all step.0 r (at + 1) count step.2 in
      omega (arith, one, rest)

  few_writes : (page : ℕ) (r : Planned) (t : Bool) → (if t then visit_all spaces k words nothing (64 * page) 64 else None) ≡ Some r → length r.writes < 65536
  few_writes page r true is = let all = adds_visit_all nothing r (64 * page) 64 is in omega (arith, all)
  few_writes page r false is = absurd (cc is)

-- The records.

both : (a b : Bool) → a ≡ true → b ≡ true → (a && b) ≡ true
both true true one other = refl
both true false one other = other
both false b one other = one

itself : (page : ℕ) → (page == page) ≡ true
itself page = nat_eq_equiv.refl page

behind_copies : (page : ℕ) (copies : List Record) (writes : List (ℕ × ℕ)) → AllByRecursion IsSmallCopy copies → length writes < 65536 → is_page_scan page (copies ++ Scan page writes ∷ []) ≡ true
behind_copies page [] writes all few = both (page == page) (nat_lt (length writes) 65536) (itself page) (lt-ltb (length writes) 65536 few)
behind_copies page (Copy from to words ∷ copies) writes all few =
    both (nat_le (length words) 512) (is_page_scan page (copies ++ Scan page writes ∷ [])) (le-leb (length words) 512 all.0) (behind_copies page copies writes all.1 few)
behind_copies page (rec ∷ copies) writes all few = absurd all.0

-- the records of a planned scan are those of the scan of a page
pub scan_shaped : (spaces : SpacesState) (k : Collection) (words : List ℕ) (page : ℕ) (records : List Record) → scan_records spaces k words page ≡ Some records → is_page_scan page records ≡ true
scan_shaped spaces k words page records is =
    let plan = planned_parts page (scan spaces k words page) records is in
    let kept = kept_scan AreSmallCopies spaces k words (small_kept spaces k words) page plan.0 tt plan.1 in
    let few = few_writes spaces k words page plan.0 (is_current spaces page) plan.1 in
    subst (λ rs. is_page_scan page rs ≡ true) plan.2 (behind_copies page plan.0.copies plan.0.writes kept.1 few)
