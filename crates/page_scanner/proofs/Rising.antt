-- How much a scan does.
use Rattle.std.proofs.Common.{◌≡◌, ℕ, zero, suc, ◌+◌, ◌*◌, ◌<◌, ◌≤◌, ◌⊎◌, inl, inr, Bool, true, false, List, [], ◌∷◌, ◌++◌, length, Option, None, Some, refl, sym, ap, ◌∙◌, subst, arith}
use Rattle.std.specs.Prelude.{◌==◌, ◌||◌, slice_index, is_some, unwrap_or, option_and_then, if◌then◌else◌}
use Rattle.std.specs.FinSet.{contains}
use Rattle.std.proofs.lemmas.Option.{same_Some}
use Rattle.std.proofs.lemmas.Bool.{eqb-true}
use Rattle.std.proofs.lemmas.List.{length-append}
use Rattle.std.proofs.lemmas.List.Sums.{fold-append}
use Rattle.heap_words.specs.declared.Header.{Header}
use Rattle.heap_words.specs.declared.Header.TheVariants.{Length, Forward}
use Rattle.heap_words.specs.declared.Word.{Word}
use Rattle.heap_words.specs.declared.Word.TheVariants as word
use Rattle.heap_words.specs.Header.{header}
use Rattle.heap_words.specs.Word.{bits, meaning}
use Rattle.heap_spaces.specs.Collection.{Collection}
use Rattle.heap_spaces.specs.Spaces.{SpacesState}
use Rattle.log_records.specs.declared.Record.{Record}
use Rattle.log_records.specs.declared.Record.TheVariants.{Copy}
use Rattle.object_layout.specs.Layout.{whole_length, object_at, field_words}
use Rattle.object_layout.proofs.LayoutLaws.{length-field_words}
use Rattle.page_scanner.specs.Scan.{Planned, nothing, coming, copied_to, copied_from, in_from_space, next_free, can_copy, can_write, with_copy, object_words, copied, written, led, led_on, follow, follow_all, is_gray, source, visit, visit_all, is_current, scan, scan_records}
use Rattle.page_scanner.specs.Bounds.{AreRising, AreGrayApart, IsSmall, AreSmall}
use Rattle.page_scanner.proofs.Fields.{few_fields}
use Rattle.page_scanner.proofs.Steps.{two_steps, tested, planned_parts, IsKept, kept_follow_all}

-- Addresses that ascend.

rising_on : (from : ℕ) (ws : List (ℕ × ℕ)) (mid end : ℕ) → AreRising from ws mid → mid ≤ end → AreRising from ws end
rising_on from [] mid end rises more = omega arith
rising_on from (w ∷ ws) mid end rises more = (rises.0, rising_on (w.0 + 1) ws mid end rises.1 more)

rising_more : (from : ℕ) (ws : List (ℕ × ℕ)) (at w : ℕ) → AreRising from ws at → AreRising from (ws ++ (at, w) ∷ []) (at + 1)
rising_more from [] at w rises = (rises, omega arith)
rising_more from (x ∷ ws) at w rises = (rises.0, rising_more (x.0 + 1) ws at w rises.1)

rising_few : (from : ℕ) (ws : List (ℕ × ℕ)) (end : ℕ) → AreRising from ws end → from + length ws ≤ end
rising_few from [] end rises = omega arith
rising_few from (w ∷ ws) end rises = let rest = rising_few (w.0 + 1) ws end rises.1 in let first = rises.0 in omega arith

-- A field.

-- A field that is followed leaves the plan, or gets a new word, with one copy at most.
data IsStep (q r : Planned) (at : ℕ) : Type 0 where
  same : q ≡ r → IsStep q r at
  wrote : (w : ℕ) → r.writes ≡ q.writes ++ (at, w) ∷ [] → length r.copies ≤ length q.copies + 1 → IsStep q r at

step_written : (spaces : SpacesState) (q p r : Planned) (at to : ℕ) → p.writes ≡ q.writes → length p.copies ≤ length q.copies + 1 → written spaces p at to ≡ Some r → IsStep q r at
step_written spaces q p r at to writes copies is =
    let w = bits (word.Stable to) in
    let one = (tested (can_write spaces p at to) (record p { writes = p.writes ++ (at, w) ∷ [] }) r is).1 in
    subst (λ (x : Planned). IsStep q x at) one (wrote w (ap (λ (ws : List (ℕ × ℕ)). ws ++ (at, w) ∷ []) writes) copies)

step_copied : (spaces : SpacesState) (k : Collection) (words : List ℕ) (q r : Planned) (at b : ℕ) (o : Option ℕ)
    → option_and_then (λ next. written spaces next at (next_free spaces q)) (copied spaces k words q b o) ≡ Some r → IsStep q r at
step_copied spaces k words q r at b None is = cc
step_copied spaces k words q r at b (Some n) is =
    let step = two_steps (λ next. written spaces next at (next_free spaces q)) (copied spaces k words q b (Some n)) r is in
    let p = with_copy spaces words q b n in
    let one = (tested (can_copy spaces k q b (2 + n)) p step.0 step.1).1 in
    let more : length p.copies ≤ length q.copies + 1 = omega (arith, length-append q.copies (Copy b (next_free spaces q) (object_words words b n) ∷ [])) in
    step_written spaces q p r at (next_free spaces q) refl more (ap (λ x. written spaces x at (next_free spaces q)) one ∙ step.2)

step_led : (spaces : SpacesState) (k : Collection) (words : List ℕ) (q r : Planned) (at b : ℕ) (h : Option Header) → led spaces k words q at b h ≡ Some r → IsStep q r at
step_led spaces k words q r at b None is = cc
step_led spaces k words q r at b (Some (Forward to)) is = step_written spaces q q r at to refl (omega arith) is
step_led spaces k words q r at b (Some (Length n)) is = step_copied spaces k words q r at b (whole_length words b (Some (Length n))) is

step_led_on : (spaces : SpacesState) (k : Collection) (words : List ℕ) (q r : Planned) (at b : ℕ) (o : Option ℕ) → led_on spaces k words q at b o ≡ Some r → IsStep q r at
step_led_on spaces k words q r at b (Some to) is = step_written spaces q q r at to refl (omega arith) is
step_led_on spaces k words q r at b None is = step_led spaces k words q r at b (header (slice_index words b)) is

step_from : (spaces : SpacesState) (k : Collection) (words : List ℕ) (q r : Planned) (at b : ℕ) (t : Bool)
    → (if t then led_on spaces k words q at b (copied_to q.copies b) else Some q) ≡ Some r → IsStep q r at
step_from spaces k words q r at b true is = step_led_on spaces k words q r at b (copied_to q.copies b) is
step_from spaces k words q r at b false is = same (same_Some q r is)

step_follow : (spaces : SpacesState) (k : Collection) (words : List ℕ) (q r : Planned) (at : ℕ) (meant : Option Word) → follow spaces k words q at meant ≡ Some r → IsStep q r at
step_follow spaces k words q r at None is = same (same_Some q r is)
step_follow spaces k words q r at (Some word.Null) is = same (same_Some q r is)
step_follow spaces k words q r at (Some (word.Int n)) is = same (same_Some q r is)
step_follow spaces k words q r at (Some (word.Volatile i)) is = same (same_Some q r is)
step_follow spaces k words q r at (Some (word.Stable b)) is = step_from spaces k words q r at b (in_from_space spaces b) is

-- Its writes ascend up to an address, and it has no more copies than writes.
record IsRising (from : ℕ) (q : Planned) (end : ℕ) : Type 0 where
  rises : AreRising from q.writes end
  few : length q.copies ≤ length q.writes

rising_step : (from : ℕ) (q r : Planned) (at : ℕ) → IsRising from q at → IsStep q r at → IsRising from r (at + 1)
rising_step from q r at f (same is) =
    subst (λ (x : Planned). IsRising from x (at + 1)) is (record { rises = rising_on from q.writes at (at + 1) f.rises (omega arith); few = f.few })
rising_step from q r at f (wrote w writes copies) = record {
  rises = subst (λ (ws : List (ℕ × ℕ)). AreRising from ws (at + 1)) (sym writes) (rising_more from q.writes at w f.rises);
  few =
      let before = f.few in
      let one : length r.writes ≡ length q.writes + 1 = ap (λ (ws : List (ℕ × ℕ)). length ws) writes ∙ length-append q.writes ((at, w) ∷ []) in omega (arith, before, one, copies);
}

rising_follow_all : (spaces : SpacesState) (k : Collection) (words : List ℕ) (from : ℕ) (q r : Planned) (at : ℕ) (ws : List ℕ) → IsRising from q at → follow_all spaces k words q at ws ≡ Some r
    → IsRising from r (at + length ws)
rising_follow_all spaces k words from q r at [] f is = subst (IsRising from r) (omega arith) (subst (λ (x : Planned). IsRising from x at) (same_Some q r is) f)
rising_follow_all spaces k words from q r at (w ∷ ws) f is =
    let step = two_steps (λ next. follow_all spaces k words next (at + 1) ws) (follow spaces k words q at (meaning w)) r is in
    let one = rising_step from q step.0 at f (step_follow spaces k words q step.0 at (meaning w) step.1) in
    subst (IsRising from r) (omega arith) (rising_follow_all spaces k words from step.0 r (at + 1) ws one step.2)

-- Gray objects.

-- the words of the object that is to stand at an address
abbrev pub extent : List ℕ → Planned → ℕ → ℕ
extent words q a = 2 + length (field_words words (source q a))

-- The gray objects of a plan are apart, and lie in the words that are taken; and if a plan continues an earlier one, those that are
-- newly gray stand after what was taken then.
pub record IsApart (spaces : SpacesState) (k : Collection) (words : List ℕ) (first : ℕ) (before q : Planned) : Type 0 where
  pub inside : (a : ℕ) → is_gray k q a ≡ true → a + extent words q a ≤ next_free spaces q
  pub apart : (a b : ℕ) → is_gray k q a ≡ true → is_gray k q b ≡ true → a < b → a + extent words q a ≤ b
  pub old : first ≤ next_free spaces q
  pub more : (a : ℕ) → is_gray k q a ≡ true → (is_gray k before a ≡ true) ⊎ (first ≤ a)

pub coming_more : (copies : List Record) (from to : ℕ) (words : List ℕ) (a : ℕ) → copied_from (copies ++ Copy from to words ∷ []) a ≡ (if to == a then Some from else copied_from copies a)
coming_more copies from to words a = fold-append (coming a) None copies (Copy from to words ∷ [])

-- Where an address stands with one more copy: it is the copy's, or all is as it was.
data IsCopyOr (k : Collection) (q r : Planned) (from to a : ℕ) : Type 0 where
  new : a ≡ to → source r a ≡ from → IsCopyOr k q r from to a
  kept : source r a ≡ source q a → is_gray k r a ≡ is_gray k q a → IsCopyOr k q r from to a

copy_or : (spaces : SpacesState) (k : Collection) (words : List ℕ) (q : Planned) (b n a : ℕ) → IsCopyOr k q (with_copy spaces words q b n) b (next_free spaces q) a
copy_or spaces k words q b n a = which (next_free spaces q == a) refl
  where
    to : ℕ
    to = next_free spaces q

    told : (t : Bool) → (next_free spaces q == a) ≡ t → copied_from (with_copy spaces words q b n).copies a ≡ (if t then Some b else copied_from q.copies a)
    told t is = coming_more q.copies b (next_free spaces q) (object_words words b n) a ∙ ap (λ t. if t then Some b else copied_from q.copies a) is

    which : (t : Bool) → (next_free spaces q == a) ≡ t → IsCopyOr k q (with_copy spaces words q b n) b (next_free spaces q) a
    which true is = new (sym (eqb-true (next_free spaces q) a is)) (ap (λ o. unwrap_or o a) (told true is))
    which false is = kept (ap (λ o. unwrap_or o a) (told false is)) (ap (λ o. contains k.gray a || is_some o) (told false is))

pub apart_write : (spaces : SpacesState) (k : Collection) (words : List ℕ) (first : ℕ) (before q r : Planned) (at to : ℕ) → IsApart spaces k words first before q → written spaces q at to ≡ Some r
    → IsApart spaces k words first before r
apart_write spaces k words first before q r at to p is =
    let one = (tested (can_write spaces q at to) (record q { writes = q.writes ++ (at, bits (word.Stable to)) ∷ [] }) r is).1 in
    subst (IsApart spaces k words first before) one (record { inside = p.inside; apart = p.apart; old = p.old; more = p.more })

pub apart_copy : (spaces : SpacesState) (k : Collection) (words : List ℕ) (first : ℕ) (before q : Planned) (b n : ℕ) → IsApart spaces k words first before q → object_at words b ≡ Some n
    → IsApart spaces k words first before (with_copy spaces words q b n)
apart_copy spaces k words first before q b n p object = record {
  inside = λ a gray. elim (copy_or spaces k words q b n a) [
    | new here from ↦ let e = extent_new a from in omega (arith, e, here)
    | kept from alike ↦ let e = extent_kept a from in let i = p.inside a (sym alike ∙ gray) in omega (arith, e, i)
  ];
  apart = λ a c gray_a gray_c below. elim (copy_or spaces k words q b n a) [
    | new here from ↦ elim (copy_or spaces k words q b n c) [
      | new there from_c ↦ absurd (omega (arith, here, there, below))
      | kept from_c alike_c ↦ let i = p.inside c (sym alike_c ∙ gray_c) in absurd (omega (arith, here, i, below))
    ]
    | kept from alike ↦ let e = extent_kept a from in elim (copy_or spaces k words q b n c) [
      | new there from_c ↦ let i = p.inside a (sym alike ∙ gray_a) in omega (arith, e, i, there)
      | kept from_c alike_c ↦ let i = p.apart a c (sym alike ∙ gray_a) (sym alike_c ∙ gray_c) below in omega (arith, e, i)
    ]
  ];
  old = let o = p.old in omega (arith, o);
  more = λ a gray. elim (copy_or spaces k words q b n a) [
    | new here from ↦ let o = p.old in inr (omega (arith, o, here))
    | kept from alike ↦ p.more a (sym alike ∙ gray)
  ];
}
  where
    r : Planned
    r = with_copy spaces words q b n

    extent_new : (a : ℕ) → source (with_copy spaces words q b n) a ≡ b → extent words (with_copy spaces words q b n) a ≡ 2 + n
    extent_new a from = ap (λ x. 2 + length (field_words words x)) from ∙ ap (λ x. 2 + x) (length-field_words words b n object)

    extent_kept : (a : ℕ) → source (with_copy spaces words q b n) a ≡ source q a → extent words (with_copy spaces words q b n) a ≡ extent words q a
    extent_kept a from = ap (λ x. 2 + length (field_words words x)) from

kept_apart : (spaces : SpacesState) (k : Collection) (words : List ℕ) (first : ℕ) (before : Planned) → IsKept (IsApart spaces k words first before) spaces k words
kept_apart spaces k words first before = record {
  write = apart_write spaces k words first before;
  copy = λ q b n p within none object can. apart_copy spaces k words first before q b n p object;
}

-- a plan continues itself
from_here : (spaces : SpacesState) (k : Collection) (words : List ℕ) (first : ℕ) (before q : Planned) → IsApart spaces k words first before q → IsApart spaces k words (next_free spaces q) q q
from_here spaces k words first before q p = record { inside = p.inside; apart = p.apart; old = omega arith; more = λ a gray. inl gray }

pub apart_first : (spaces : SpacesState) (k : Collection) (words : List ℕ) → AreGrayApart spaces k words → IsApart spaces k words (next_free spaces nothing) nothing nothing
apart_first spaces k words apart = record {
  inside = λ a gray. let i = apart.inside a (at_first a gray) in omega (arith, i);
  apart = λ a b gray_a gray_b below. let i = apart.apart a b (at_first a gray_a) (at_first b gray_b) below in omega (arith, i);
  old = omega arith;
  more = λ a gray. inl gray;
}
  where
    at_first : (a : ℕ) → is_gray k nothing a ≡ true → contains k.gray a ≡ true
    at_first a gray = or_false (contains k.gray a) ∙ gray
      where
        or_false : (t : Bool) → t ≡ (t || false)
        or_false true = refl
        or_false false = refl

-- The page.

-- A plan when all gray objects of a page before an address were visited: its writes lie before the fields of those that are left.
record IsVisited (spaces : SpacesState) (k : Collection) (words : List ℕ) (page at : ℕ) (q : Planned) : Type 0 where
  apart : IsApart spaces k words (next_free spaces q) q q
  end : ℕ
  rising : IsRising (64 * page) q end
  low : end ≤ at + 511
  clear : (b : ℕ) → at ≤ b → is_gray k q b ≡ true → end ≤ b + 2

visited_gray : (spaces : SpacesState) (k : Collection) (words : List ℕ) (page at : ℕ) (q r : Planned) → IsVisited spaces k words page at q → is_gray k q at ≡ true
    → follow_all spaces k words q (at + 2) (field_words words (source q at)) ≡ Some r → IsVisited spaces k words page (at + 1) r
visited_gray spaces k words page at q r v gray is =
    let ws = field_words words (source q at) in
    let start : v.end ≤ at + 2 = v.clear at (omega arith) gray in
    let few = few_fields words (source q at) in
    let ready : IsRising (64 * page) q (at + 2) = record { rises = rising_on (64 * page) q.writes v.end (at + 2) v.rising.rises start; few = v.rising.few } in
    let after : IsApart spaces k words (next_free spaces q) q r =
    kept_follow_all (IsApart spaces k words (next_free spaces q) q) spaces k words (kept_apart spaces k words (next_free spaces q) q) q r (at + 2) ws v.apart is in
    record {
      apart = from_here spaces k words (next_free spaces q) q r after;
      end = at + 2 + length ws;
      rising = rising_follow_all spaces k words (64 * page) q r (at + 2) ws ready is;
      low = omega (arith, few);
      clear = λ b behind gray_b. elim (after.more b gray_b) [
        | inl before ↦ let e = v.apart.apart at b gray before (omega arith) in omega (arith, e)
        | inr later ↦ let e = v.apart.inside at gray in omega (arith, e, later)
      ];
    }

visited_more : (spaces : SpacesState) (k : Collection) (words : List ℕ) (page at : ℕ) (q r : Planned) (t : Bool) → is_gray k q at ≡ t → IsVisited spaces k words page at q
    → (if t then follow_all spaces k words q (at + 2) (field_words words (source q at)) else Some q) ≡ Some r → IsVisited spaces k words page (at + 1) r
visited_more spaces k words page at q r true gray v is = visited_gray spaces k words page at q r v gray is
visited_more spaces k words page at q r false gray v is =
    subst (IsVisited spaces k words page (at + 1)) (same_Some q r is) (record {
      apart = v.apart;
      end = v.end;
      rising = v.rising;
      low = let l = v.low in omega (arith, l);
      clear = λ b behind gray_b. v.clear b (omega (arith, behind)) gray_b;
    })

visited_all : (spaces : SpacesState) (k : Collection) (words : List ℕ) (page : ℕ) (q r : Planned) (at count : ℕ) → IsVisited spaces k words page at q → visit_all spaces k words q at count ≡ Some r
    → IsVisited spaces k words page (at + count) r
unfolding visit_all
visited_all spaces k words page q r at zero v is =
    subst (λ (x : ℕ). IsVisited spaces k words page x r) (omega arith) (subst (IsVisited spaces k words page at) (same_Some q r is) v)
visited_all spaces k words page q r at (suc count) v is =
    let step = two_steps (λ next. visit_all spaces k words next (at + 1) count) (visit spaces k words q at) r is in
    subst (λ (x : ℕ). IsVisited spaces k words page x r) (omega arith)
    (visited_all spaces k words page step.0 r (at + 1) count (visited_more spaces k words page at q step.0 (is_gray k q at) refl v step.1) step.2)

pub bounds_planned : (spaces : SpacesState) (k : Collection) (words : List ℕ) (page : ℕ) (q : Planned) → AreGrayApart spaces k words → scan spaces k words page ≡ Some q → IsSmall page q
bounds_planned spaces k words page q apart is = in_page (is_current spaces page) is
  where
    first : IsVisited spaces k words page (64 * page) nothing
    first = record {
      apart = apart_first spaces k words apart;
      end = 64 * page;
      rising = record { rises = omega arith; few = omega arith };
      low = omega arith;
      clear = λ b behind gray. omega (arith, behind);
    }

    in_page : (t : Bool) → (if t then visit_all spaces k words nothing (64 * page) 64 else None) ≡ Some q → IsSmall page q
    in_page false is = cc
    in_page true is =
        let v = visited_all spaces k words page nothing q (64 * page) 64 first is in
        let low = v.low in
        let rises : AreRising (64 * page) q.writes (64 * page + 576) = rising_on (64 * page) q.writes v.end (64 * page + 576) v.rising.rises (omega (arith, low)) in
        let count = rising_few (64 * page) q.writes (64 * page + 576) rises in
        let few = v.rising.few in
        record { copies = omega (arith, count, few); writes = omega (arith, count); rising = rises }

-- a scan copies little, and its writes ascend
pub bounds : (spaces : SpacesState) (k : Collection) (words : List ℕ) (page : ℕ) (records : List Record) → AreGrayApart spaces k words → scan_records spaces k words page ≡ Some records → AreSmall page records
bounds spaces k words page records apart is =
    let plan = planned_parts page (scan spaces k words page) records is in
    (plan.0, sym plan.2, bounds_planned spaces k words page plan.0 apart plan.1)
