-- What each step of a scan keeps, the scan keeps.
use Rattle.std.proofs.Common.{◌≡◌, ℕ, zero, suc, ◌+◌, ◌*◌, Bool, true, false, List, [], ◌∷◌, Option, None, Some, refl, ap, ◌∙◌, subst}
use Rattle.std.specs.Prelude.{slice_index, option_and_then, if◌then◌else◌}
use Rattle.std.proofs.lemmas.Option.{same_Some}
use Rattle.heap_words.specs.declared.Header.{Header}
use Rattle.heap_words.specs.declared.Header.TheVariants.{Length, Forward}
use Rattle.heap_words.specs.declared.Word.{Word}
use Rattle.heap_words.specs.declared.Word.TheVariants as word
use Rattle.heap_words.specs.Header.{header}
use Rattle.heap_words.specs.Word.{meaning}
use Rattle.heap_spaces.specs.Collection.{Collection}
use Rattle.heap_spaces.specs.Spaces.{SpacesState}
use Rattle.std.specs.Option.{option_map}
use Rattle.log_records.specs.declared.Record.{Record}
use Rattle.object_layout.specs.Layout.{whole_length, object_at, field_words}
use Rattle.page_scanner.specs.Scan.{Planned, nothing, copied_to, in_from_space, next_free, can_copy, with_copy, copied, written, led, led_on, follow, follow_all, is_gray, source, visit, visit_all, is_current, scan, records_of}

-- a result of two steps has one of the first
pub two_steps : {A B : Type 0} (f : A → Option B) (o : Option A) (y : B) → option_and_then f o ≡ Some y → (x : A) × (o ≡ Some x) × (f x ≡ Some y)
two_steps f None y is = cc
two_steps f (Some x) y is = (x, refl, is)

-- what is there under a test was tested
pub tested : {A : Type 0} (t : Bool) (x y : A) → (if t then Some x else None) ≡ Some y → (t ≡ true) × (x ≡ y)
tested true x y is = (refl, same_Some x y is)
tested false x y is = cc

-- the plan of these records
pub planned_parts : (page : ℕ) (o : Option Planned) (records : List Record) → option_map (records_of page) o ≡ Some records → (q : Planned) × (o ≡ Some q) × (records_of page q ≡ records)
planned_parts page None records is = cc
planned_parts page (Some q) records is = (q, refl, same_Some (records_of page q) records is)

-- A property of plans is kept where a field gets its new word, and where an object is copied.
pub record IsKept (P : Planned → Type 0) (spaces : SpacesState) (k : Collection) (words : List ℕ) : Type 0 where
  pub write : (q r : Planned) (at to : ℕ) → P q → written spaces q at to ≡ Some r → P r
  pub copy : (q : Planned) (b n : ℕ) → P q → in_from_space spaces b ≡ true → copied_to q.copies b ≡ None → object_at words b ≡ Some n
      → can_copy spaces k q b (2 + n) ≡ true → P (with_copy spaces words q b n)

kept_copied : (P : Planned → Type 0) (spaces : SpacesState) (k : Collection) (words : List ℕ) → IsKept P spaces k words → (q r : Planned) (at b : ℕ) (o : Option ℕ)
    → object_at words b ≡ o → in_from_space spaces b ≡ true → copied_to q.copies b ≡ None → P q
    → option_and_then (λ next. written spaces next at (next_free spaces q)) (copied spaces k words q b o) ≡ Some r → P r
kept_copied P spaces k words kept q r at b None object within none p is = cc
kept_copied P spaces k words kept q r at b (Some n) object within none p is =
    let step = two_steps (λ next. written spaces next at (next_free spaces q)) (copied spaces k words q b (Some n)) r is in
    let one = tested (can_copy spaces k q b (2 + n)) (with_copy spaces words q b n) step.0 step.1 in
    kept.write step.0 r at (next_free spaces q) (subst P one.1 (kept.copy q b n p within none object one.0)) step.2

kept_led : (P : Planned → Type 0) (spaces : SpacesState) (k : Collection) (words : List ℕ) → IsKept P spaces k words → (q r : Planned) (at b : ℕ) (h : Option Header)
    → header (slice_index words b) ≡ h → in_from_space spaces b ≡ true → copied_to q.copies b ≡ None → P q → led spaces k words q at b h ≡ Some r → P r
kept_led P spaces k words kept q r at b None stands within none p is = cc
kept_led P spaces k words kept q r at b (Some (Forward to)) stands within none p is = kept.write q r at to p is
kept_led P spaces k words kept q r at b (Some (Length n)) stands within none p is =
    kept_copied P spaces k words kept q r at b (object_at words b) refl within none p
    (ap (λ h. option_and_then (λ next. written spaces next at (next_free spaces q)) (copied spaces k words q b (whole_length words b h))) stands ∙ is)

kept_led_on : (P : Planned → Type 0) (spaces : SpacesState) (k : Collection) (words : List ℕ) → IsKept P spaces k words → (q r : Planned) (at b : ℕ) (o : Option ℕ)
    → copied_to q.copies b ≡ o → in_from_space spaces b ≡ true → P q → led_on spaces k words q at b o ≡ Some r → P r
kept_led_on P spaces k words kept q r at b (Some to) known within p is = kept.write q r at to p is
kept_led_on P spaces k words kept q r at b None known within p is = kept_led P spaces k words kept q r at b (header (slice_index words b)) refl within known p is

kept_from : (P : Planned → Type 0) (spaces : SpacesState) (k : Collection) (words : List ℕ) → IsKept P spaces k words → (q r : Planned) (at b : ℕ) (t : Bool)
    → in_from_space spaces b ≡ t → P q → (if t then led_on spaces k words q at b (copied_to q.copies b) else Some q) ≡ Some r → P r
kept_from P spaces k words kept q r at b true within p is = kept_led_on P spaces k words kept q r at b (copied_to q.copies b) refl within p is
kept_from P spaces k words kept q r at b false within p is = subst P (same_Some q r is) p

kept_follow : (P : Planned → Type 0) (spaces : SpacesState) (k : Collection) (words : List ℕ) → IsKept P spaces k words → (q r : Planned) (at : ℕ) (meant : Option Word)
    → P q → follow spaces k words q at meant ≡ Some r → P r
kept_follow P spaces k words kept q r at None p is = subst P (same_Some q r is) p
kept_follow P spaces k words kept q r at (Some word.Null) p is = subst P (same_Some q r is) p
kept_follow P spaces k words kept q r at (Some (word.Int n)) p is = subst P (same_Some q r is) p
kept_follow P spaces k words kept q r at (Some (word.Volatile i)) p is = subst P (same_Some q r is) p
kept_follow P spaces k words kept q r at (Some (word.Stable b)) p is = kept_from P spaces k words kept q r at b (in_from_space spaces b) refl p is

pub kept_follow_all : (P : Planned → Type 0) (spaces : SpacesState) (k : Collection) (words : List ℕ) → IsKept P spaces k words → (q r : Planned) (at : ℕ) (ws : List ℕ)
    → P q → follow_all spaces k words q at ws ≡ Some r → P r
kept_follow_all P spaces k words kept q r at [] p is = subst P (same_Some q r is) p
kept_follow_all P spaces k words kept q r at (w ∷ ws) p is =
    let step = two_steps (λ next. follow_all spaces k words next (at + 1) ws) (follow spaces k words q at (meaning w)) r is in
    kept_follow_all P spaces k words kept step.0 r (at + 1) ws (kept_follow P spaces k words kept q step.0 at (meaning w) p step.1) step.2

kept_gray : (P : Planned → Type 0) (spaces : SpacesState) (k : Collection) (words : List ℕ) → IsKept P spaces k words → (q r : Planned) (at : ℕ) (t : Bool)
    → P q → (if t then follow_all spaces k words q (at + 2) (field_words words (source q at)) else Some q) ≡ Some r → P r
kept_gray P spaces k words kept q r at true p is = kept_follow_all P spaces k words kept q r (at + 2) (field_words words (source q at)) p is
kept_gray P spaces k words kept q r at false p is = subst P (same_Some q r is) p

kept_visit_all : (P : Planned → Type 0) (spaces : SpacesState) (k : Collection) (words : List ℕ) → IsKept P spaces k words → (q r : Planned) (at count : ℕ)
    → P q → visit_all spaces k words q at count ≡ Some r → P r
unfolding visit_all
kept_visit_all P spaces k words kept q r at zero p is = subst P (same_Some q r is) p
kept_visit_all P spaces k words kept q r at (suc count) p is =
    let step = two_steps (λ next. visit_all spaces k words next (at + 1) count) (visit spaces k words q at) r is in
    kept_visit_all P spaces k words kept step.0 r (at + 1) count (kept_gray P spaces k words kept q step.0 at (is_gray k q at) p step.1) step.2

-- a scan keeps it
pub kept_scan : (P : Planned → Type 0) (spaces : SpacesState) (k : Collection) (words : List ℕ) → IsKept P spaces k words → (page : ℕ) (r : Planned)
    → P nothing → scan spaces k words page ≡ Some r → (is_current spaces page ≡ true) × P r
kept_scan P spaces k words kept page r p is = in_page (is_current spaces page) refl is
  where
    in_page : (t : Bool) → is_current spaces page ≡ t → (if t then visit_all spaces k words nothing (64 * page) 64 else None) ≡ Some r → (is_current spaces page ≡ true) × P r
    in_page true current is = (current, kept_visit_all P spaces k words kept nothing r (64 * page) 64 p is)
    in_page false current is = cc
