-- Each object that a scan copies is copied because a field that stands before its copy refers to it.
use Rattle.std.proofs.Common.{◌≡◌, ℕ, zero, suc, ◌+◌, ◌*◌, ◌<◌, ◌≤◌, Bool, true, false, List, [], ◌∷◌, ◌++◌, length, Option, None, Some, refl, ap, ◌∙◌, subst, arith}
use Rattle.std.specs.Prelude.{Contains, slice_index, option_and_then, if◌then◌else◌}
use Rattle.std.specs.List.{AllByRecursion}
use Rattle.std.proofs.lemmas.Option.{same_Some}
use Rattle.std.proofs.lemmas.List.Elements.{Contains-append_left, Contains-push}
use Rattle.heap_words.specs.declared.Header.{Header}
use Rattle.heap_words.specs.declared.Header.TheVariants.{Length, Forward}
use Rattle.heap_words.specs.declared.Word.{Word}
use Rattle.heap_words.specs.declared.Word.TheVariants as word
use Rattle.heap_words.specs.Header.{header}
use Rattle.heap_words.specs.Word.{bits, meaning}
use Rattle.heap_spaces.specs.Collection.{Collection}
use Rattle.heap_spaces.specs.Spaces.{SpacesState}
use Rattle.log_records.specs.declared.Record.{Record}
use Rattle.log_records.specs.declared.Record.TheVariants.{Copy}
use Rattle.log_machine.proofs.ListLaws.{AllByRecursion-append, AllByRecursion-map}
use Rattle.object_layout.specs.Layout.{field_words, whole_length}
use Rattle.page_scanner.specs.Bounds.{AreGrayApart}
use Rattle.page_scanner.specs.Scan.{Planned, can_copy, can_write, copied, copied_to, follow, follow_all, in_from_space, is_gray, led, led_on, next_free, nothing, object_words, source, visit, visit_all, with_copy, written}
use Rattle.page_scanner.proofs.Rising.{IsApart, apart_copy, apart_first, apart_write}
use Rattle.page_scanner.proofs.Steps.{IsKept, kept_follow_all, tested, two_steps}

-- a write puts a reference to the copy into a field before it
abbrev pub HasReference : List (ℕ × ℕ) → Record → Type 0
HasReference writes (Copy from to words) = (x : ℕ) × Contains writes (x, bits (word.Stable to)) × (x < to)
HasReference writes rec = Unit {0}

-- so does one for each copy that is planned
abbrev pub AreReferred : Planned → Type 0
AreReferred q = AllByRecursion (HasReference q.writes) q.copies

more_writes : (writes more : List (ℕ × ℕ)) (rec : Record) → HasReference writes rec → HasReference (writes ++ more) rec
more_writes writes more (Copy from to words) has = (has.0, Contains-append_left writes more (has.0, bits (word.Stable to)) has.1, has.2)
more_writes writes more rec has = tt

-- A step keeps it, and takes no word back.
record IsOn (spaces : SpacesState) (q r : Planned) : Type 0 where
  referred : AreReferred q → AreReferred r
  on : next_free spaces q ≤ next_free spaces r

on_same : (spaces : SpacesState) (q r : Planned) → q ≡ r → IsOn spaces q r
on_same spaces q r same = subst (IsOn spaces q) same (record { referred = λ all. all; on = omega arith })

on_written : (spaces : SpacesState) (q r : Planned) (x to : ℕ) → written spaces q x to ≡ Some r → IsOn spaces q r
on_written spaces q r x to is =
    let w : ℕ × ℕ = (x, bits (word.Stable to)) in
    subst (IsOn spaces q) (tested (can_write spaces q x to) (record q { writes = q.writes ++ w ∷ [] }) r is).1 (record {
      referred = λ all. AllByRecursion-map (HasReference q.writes) (HasReference (q.writes ++ w ∷ [])) q.copies (more_writes q.writes (w ∷ [])) all;
      on = omega arith;
    })

on_copied : (spaces : SpacesState) (k : Collection) (words : List ℕ) (q r : Planned) (x b : ℕ) (o : Option ℕ) → x < next_free spaces q
    → option_and_then (λ next. written spaces next x (next_free spaces q)) (copied spaces k words q b o) ≡ Some r → IsOn spaces q r
on_copied spaces k words q r x b None low is = absurd (cc is)
on_copied spaces k words q r x b (Some n) low is =
    let step = two_steps (λ next. written spaces next x (next_free spaces q)) (copied spaces k words q b (Some n)) r is in
    let p = with_copy spaces words q b n in
    let w : ℕ × ℕ = (x, bits (word.Stable (next_free spaces q))) in
    let one = (tested (can_copy spaces k q b (2 + n)) p step.0 step.1).1 in
    let put = tested (can_write spaces p x (next_free spaces q)) (record p { writes = p.writes ++ w ∷ [] }) r (ap (λ (y : Planned). written spaces y x (next_free spaces q)) one ∙ step.2) in
    subst (IsOn spaces q) put.1 (record {
      referred = λ all. AllByRecursion-append (HasReference (q.writes ++ w ∷ [])) q.copies (Copy b (next_free spaces q) (object_words words b n) ∷ [])
          (AllByRecursion-map (HasReference q.writes) (HasReference (q.writes ++ w ∷ [])) q.copies (more_writes q.writes (w ∷ [])) all)
          ((x, Contains-push q.writes w, low), tt);
      on = omega arith;
    })

on_led : (spaces : SpacesState) (k : Collection) (words : List ℕ) (q r : Planned) (x b : ℕ) (h : Option Header) → x < next_free spaces q → led spaces k words q x b h ≡ Some r → IsOn spaces q r
on_led spaces k words q r x b None low is = absurd (cc is)
on_led spaces k words q r x b (Some (Forward to)) low is = on_written spaces q r x to is
on_led spaces k words q r x b (Some (Length n)) low is = on_copied spaces k words q r x b (whole_length words b (Some (Length n))) low is

on_led_on : (spaces : SpacesState) (k : Collection) (words : List ℕ) (q r : Planned) (x b : ℕ) (o : Option ℕ) → x < next_free spaces q → led_on spaces k words q x b o ≡ Some r → IsOn spaces q r
on_led_on spaces k words q r x b (Some to) low is = on_written spaces q r x to is
on_led_on spaces k words q r x b None low is = on_led spaces k words q r x b (header (slice_index words b)) low is

on_from : (spaces : SpacesState) (k : Collection) (words : List ℕ) (q r : Planned) (x b : ℕ) (t : Bool) → x < next_free spaces q
    → (if t then led_on spaces k words q x b (copied_to q.copies b) else Some q) ≡ Some r → IsOn spaces q r
on_from spaces k words q r x b true low is = on_led_on spaces k words q r x b (copied_to q.copies b) low is
on_from spaces k words q r x b false low is = on_same spaces q r (same_Some q r is)

on_follow : (spaces : SpacesState) (k : Collection) (words : List ℕ) (q r : Planned) (x : ℕ) (meant : Option Word) → x < next_free spaces q → follow spaces k words q x meant ≡ Some r → IsOn spaces q r
on_follow spaces k words q r x None low is = on_same spaces q r (same_Some q r is)
on_follow spaces k words q r x (Some word.Null) low is = on_same spaces q r (same_Some q r is)
on_follow spaces k words q r x (Some (word.Int n)) low is = on_same spaces q r (same_Some q r is)
on_follow spaces k words q r x (Some (word.Volatile i)) low is = on_same spaces q r (same_Some q r is)
on_follow spaces k words q r x (Some (word.Stable b)) low is = on_from spaces k words q r x b (in_from_space spaces b) low is

on_follow_all : (spaces : SpacesState) (k : Collection) (words : List ℕ) (q r : Planned) (x : ℕ) (ws : List ℕ) → x + length ws ≤ next_free spaces q → follow_all spaces k words q x ws ≡ Some r → IsOn spaces q r
on_follow_all spaces k words q r x [] low is = on_same spaces q r (same_Some q r is)
on_follow_all spaces k words q r x (w ∷ ws) low is =
    let step = two_steps (λ next. follow_all spaces k words next (x + 1) ws) (follow spaces k words q x (meaning w)) r is in
    let one = on_follow spaces k words q step.0 x (meaning w) (omega arith) step.1 in
    let first = one.on in
    let rest = on_follow_all spaces k words step.0 r (x + 1) ws (omega arith) step.2 in
    let later = rest.on in
    record { referred = λ all. rest.referred (one.referred all); on = omega arith }

-- The gray objects of a plan lie in the words that are taken.

kept_apart : (spaces : SpacesState) (k : Collection) (words : List ℕ) (first : ℕ) (before : Planned) → IsKept (IsApart spaces k words first before) spaces k words
kept_apart spaces k words first before = record {
  write = apart_write spaces k words first before;
  copy = λ q b n p within none object can. apart_copy spaces k words first before q b n p object;
}

on_gray : (spaces : SpacesState) (k : Collection) (words : List ℕ) (first : ℕ) (before q r : Planned) (at : ℕ) (t : Bool) → is_gray k q at ≡ t → IsApart spaces k words first before q
    → (if t then follow_all spaces k words q (at + 2) (field_words words (source q at)) else Some q) ≡ Some r → IsApart spaces k words first before r × IsOn spaces q r
on_gray spaces k words first before q r at true gray apart is =
    let inside = apart.inside at gray in (
      kept_follow_all (IsApart spaces k words first before) spaces k words (kept_apart spaces k words first before) q r (at + 2) (field_words words (source q at)) apart is,
      on_follow_all spaces k words q r (at + 2) (field_words words (source q at)) (omega arith) is,
    )
on_gray spaces k words first before q r at false gray apart is = let same = same_Some q r is in (subst (IsApart spaces k words first before) same apart, on_same spaces q r same)

on_visit_all : (spaces : SpacesState) (k : Collection) (words : List ℕ) (first : ℕ) (before q r : Planned) (at count : ℕ) → IsApart spaces k words first before q → visit_all spaces k words q at count ≡ Some r → IsOn spaces q r
unfolding visit_all
on_visit_all spaces k words first before q r at zero apart is = on_same spaces q r (same_Some q r is)
on_visit_all spaces k words first before q r at (suc count) apart is =
    let step = two_steps (λ next. visit_all spaces k words next (at + 1) count) (visit spaces k words q at) r is in
    let one = on_gray spaces k words first before q step.0 at (is_gray k q at) refl apart step.1 in
    let rest = on_visit_all spaces k words first before step.0 r (at + 1) count one.0 step.2 in
    let first_on = one.1.on in
    let later = rest.on in
    record { referred = λ all. rest.referred (one.1.referred all); on = omega arith }

-- a scan copies nothing to which no field before the copy refers
pub scan_refers : (spaces : SpacesState) (k : Collection) (words : List ℕ) (page : ℕ) (q : Planned) → AreGrayApart spaces k words → visit_all spaces k words nothing (64 * page) 64 ≡ Some q → AreReferred q
scan_refers spaces k words page q apart is = (on_visit_all spaces k words (next_free spaces nothing) nothing nothing q (64 * page) 64 (apart_first spaces k words apart) is).referred tt
