-- What is no longer gray after the barrier: the object whose field is read or written.
use Rattle.std.proofs.Common.{◌≡◌, ℕ, ◌+◌, ◌*◌, inl, inr, true, false, Bool, List, [], Option, Some, None, refl, sym, ap, ◌∙◌, subst, arith, append_assoc}
use Rattle.std.specs.Prelude.{◌&&◌, nat_le, nat_lt, if◌then◌else◌, unwrap_or}
use Rattle.std.specs.Option.{option_map}
use Rattle.std.specs.FinSet.{contains}
use Rattle.std.proofs.lemmas.Bool.{le-leb, lt-ltb}
use Rattle.std.proofs.lemmas.Option.{same_Some}
use Rattle.graph_model.specs.declared.id.Id.{Id}
use Rattle.graph_model.specs.History.{Account}
use Rattle.heap_spaces.specs.Collection.{Collection, page_of}
use Rattle.log_records.specs.declared.Record.{Record}
use Rattle.log_machine.specs.Machine.{State, after_all, space_words, spaces_of}
use Rattle.log_machine.proofs.MachineLaws.{after_all-append2}
use Rattle.gated_log.specs.Log.{records_of}
use Rattle.graph_words.specs.Places.{Places, address_of}
use Rattle.collection_words.specs.LaidOut.{is_gray_field}
use Rattle.collection_words.specs.Placing.{Placing}
use Rattle.collection_words.proofs.Laid.Within.{StandsWithin, placed_within}
use Rattle.page_scanner.specs.Passing.{collecting_after_all}
use Rattle.page_scanner.specs.Scan.{is_current, records_of as scanned_records, scan_records}
use Rattle.page_scanner.proofs.Total.{total}
use Rattle.heap_model.specs.Collecting.{barrier_at, is_gray_in, page_records, page_records_of}
use Rattle.heap_model.specs.Core.{Core, all_records, all_words, ground, held_barrier, log_start, moved}
use Rattle.heap_model.proofs.Step.Moved.{moved_is}
use Rattle.core_laws.proofs.Collecting.Events.{collected_heap, scan_rows}
use Rattle.core_laws.proofs.Collecting.Roots.{any_in}
use Rattle.core_laws.proofs.Collecting.Scan.{keep}
use Rattle.core_laws.specs.Valid.{Agrees}

-- an object that starts in a page where nothing is gray is not gray
pub page_black : (o : Option Collection) (at i : ℕ) → is_gray_in o (page_of at) ≡ false → is_gray_field o at i ≡ false
page_black None at i none = refl
page_black (Some k) at i none = by (contains k.gray at) refl
  where
    by : (b : Bool) → contains k.gray at ≡ b → b ≡ false
    by false is = refl
    by true is =
        let clash = sym none ∙ any_in (contains k.gray) (64 * page_of at) 64 at (omega arith) (omega arith) is in
        absurd (cc clash)

-- What the records of a scan leave is what all records say then.
pub scan_behind : (a : Account) (c : Core) (h : Agrees a c) (k : Collection) (run : h.behind.collection ≡ Some k) (page : ℕ) (records : List Record) (planned : scan_records (spaces_of h.behind) k (all_words c) page ≡ Some records)
    → after_all h.behind records ≡ collecting_after_all h.behind records → (b : Agrees a (moved c records)) → b.behind ≡ (keep a c h k run page records planned).next
scan_behind a c h k run page records planned rows =
    let next = (keep a c h k run page records planned).next in
    let Known : Core → Type 0 = λ d. (x : Agrees a d) → x.behind ≡ next in
    subst Known (sym (moved_is c records))
    (λ x. same_Some x.behind next
    (sym x.told.reached
    ∙ ap (after_all (log_start c)) (sym (append_assoc (records_of c.batches) c.pending records))
    ∙ after_all-append2 (log_start c) h.behind (all_records c) records h.told.reached
    ∙ rows
    ∙ (keep a c h k run page records planned).passes))

-- So no object that starts in its page is gray then.
pub scan_black : (a : Account) (c : Core) (h : Agrees a c) (k : Collection) (run : h.behind.collection ≡ Some k) (page : ℕ) (records : List Record) (planned : scan_records (spaces_of h.behind) k (all_words c) page ≡ Some records)
    → after_all h.behind records ≡ collecting_after_all h.behind records → (b : Agrees a (moved c records)) → (at i : ℕ) → page_of at ≡ page → is_gray_field b.behind.collection at i ≡ false
scan_black a c h k run page records planned rows b at i here =
    let kept = keep a c h k run page records planned in
    ap (λ (n : State). is_gray_field n.collection at i) (scan_behind a c h k run page records planned rows b) ∙ ap (λ o. is_gray_field o at i) kept.underway.run ∙ kept.black at here

-- After the barrier.

both_true : (b d : Bool) → b ≡ true → d ≡ true → (b && d) ≡ true
both_true true d first second = second
both_true false d first second = absurd (cc first)

-- a current object starts in a page of the current space
pub current_page : (a : Account) (c : Core) (h : Agrees a c) (at : ℕ) → StandsWithin h.behind (all_words c) at → is_current (spaces_of h.behind) (page_of at) ≡ true
current_page a c h at within =
    let base = h.behind.base in
    let first = 64 * page_of at in
    let end = base + space_words h.behind.pages in
    let above = within.above in
    let below = within.below in
    let room = h.told.heap.spaced.room in
    elim h.told.heap.spaced.first [
      | inl low ↦ both_true (nat_le base first) (nat_lt first end) (le-leb base first (omega arith)) (lt-ltb first end (omega arith))
      | inr high ↦ both_true (nat_le base first) (nat_lt first end) (le-leb base first (omega arith)) (lt-ltb first end (omega arith))
    ]

starts_here : (a : Account) (c : Core) (h : Agrees a c) (id : Id) (at : ℕ) → address_of c.places id ≡ Some at → is_current (spaces_of h.behind) (page_of at) ≡ true
starts_here a c h id at is = current_page a c h at (placed_within h.told.heap.laid id at is)

no_gray : (page : ℕ) → is_gray_in None page ≡ true → ⊥
no_gray page is = cc is

-- cores that agree with one history by the same records say the same of the state after these
one_behind : (a : Account) (c : Core) (h b : Agrees a c) → h.behind ≡ b.behind
one_behind a c h b = same_Some h.behind b.behind (sym h.told.reached ∙ b.told.reached)

-- an object whose page was scanned, if it was gray, is not gray after the scan
black_scanned : (a : Account) (c : Core) (h : Agrees a c) (id : Id) (at0 i : ℕ) → address_of c.places id ≡ Some at0 → (o : Option Collection) → h.behind.collection ≡ o → is_gray_in o (page_of at0) ≡ true
    → (p : Option (List Record)) → page_records_of (spaces_of h.behind) (all_words c) (page_of at0) o ≡ p → (b : Agrees a (moved c (unwrap_or p [])))
    → (at : ℕ) → address_of (moved c (unwrap_or p [])).places id ≡ Some at → is_gray_field b.behind.collection at i ≡ false
black_scanned a c h id at0 i is None run gray p planned b at there = absurd (no_gray (page_of at0) gray)
black_scanned a c h id at0 i is (Some k) run gray None planned b at there =
    let plan = total (spaces_of h.behind) k (all_words c) (page_of at0) (collected_heap a c h k run) (starts_here a c h id at0 is) in
    let never = sym planned ∙ ap (option_map (scanned_records (page_of at0))) plan.1 in
    absurd (cc never)
black_scanned a c h id at0 i is (Some k) run gray (Some records) planned b at there =
    let kept = keep a c h k run (page_of at0) records planned in
    let here : (moved c records).places ≡ kept.currents = ap (λ (d : Core). d.places) (moved_is c records) ∙ ap (λ (p : Placing). p.places) kept.placed in
    let same : at0 ≡ at = same_Some at0 at (sym (kept.copied.kept id at0 is) ∙ sym (ap (λ (ps : Places). address_of ps id) here) ∙ there) in
    scan_black a c h k run (page_of at0) records planned (scan_rows a c h k run (page_of at0) records planned) b at i (ap page_of (sym same))

-- so is one whose page holds nothing gray
black_page : (a : Account) (c : Core) (h : Agrees a c) (id : Id) (at0 i : ℕ) → address_of c.places id ≡ Some at0 → (g : Bool) → is_gray_in h.behind.collection (page_of at0) ≡ g
    → (b : Agrees a (moved c (if g then page_records h.behind (all_words c) (page_of at0) else [])))
    → (at : ℕ) → address_of (moved c (if g then page_records h.behind (all_words c) (page_of at0) else [])).places id ≡ Some at → is_gray_field b.behind.collection at i ≡ false
black_page a c h id at0 i is false gray b at there =
    let same : at0 ≡ at = same_Some at0 at (sym is ∙ there) in
    subst (λ (x : ℕ). is_gray_field b.behind.collection x i ≡ false) same
    (ap (λ (s : State). is_gray_field s.collection at0 i) (sym (one_behind a c h b)) ∙ page_black h.behind.collection at0 i gray)
black_page a c h id at0 i is true gray b at there =
    black_scanned a c h id at0 i is h.behind.collection refl gray (page_records_of (spaces_of h.behind) (all_words c) (page_of at0) h.behind.collection) refl b at there

black_at : (a : Account) (c : Core) (h : Agrees a c) (id : Id) (i : ℕ) (o : Option ℕ) → address_of c.places id ≡ o → (b : Agrees a (moved c (barrier_at (Some h.behind) (all_words c) o i)))
    → (at : ℕ) → address_of (moved c (barrier_at (Some h.behind) (all_words c) o i)).places id ≡ Some at → is_gray_field b.behind.collection at i ≡ false
black_at a c h id i None is b at there = let never = sym is ∙ there in absurd (cc never)
black_at a c h id i (Some at0) is b at there = black_page a c h id at0 i is (is_gray_in h.behind.collection (page_of at0)) refl b at there

-- after its barrier an object is not gray
pub black_held : (a : Account) (c : Core) (h : Agrees a c) (id : Id) (i : ℕ) → (b : Agrees a (moved c (held_barrier (ground c) (Some id) i)))
    → (at : ℕ) → address_of (moved c (held_barrier (ground c) (Some id) i)).places id ≡ Some at → is_gray_field b.behind.collection at i ≡ false
black_held a c h id i =
    let P : Option State → Type 0 = λ s. (b : Agrees a (moved c (barrier_at s (all_words c) (address_of c.places id) i)))
    → (at : ℕ) → address_of (moved c (barrier_at s (all_words c) (address_of c.places id) i)).places id ≡ Some at → is_gray_field b.behind.collection at i ≡ false in
    subst P (sym h.told.reached) (black_at a c h id i (address_of c.places id) refl)
