-- Whether a gray object starts in a page, as it is tested.
use Rattle.std.proofs.Common.{◌≡◌, ◌≢◌, ℕ, zero, suc, ◌+◌, ◌*◌, ◌<◌, ◌≤◌, ◌||◌, Bool, true, false, List, [], Option, None, Some, refl, sym, ap, ◌∙◌, arith}
use Rattle.std.specs.Prelude.{if◌then◌else◌}
use Rattle.std.proofs.lemmas.Bool.{false≢true}
use Rattle.std.specs.FinSet.{contains}
use Rattle.std.specs.List.{list_any, range_with_len}
use Rattle.heap_spaces.specs.Collection.{Collection}
use Rattle.log_records.specs.declared.Record.{Record}
use Rattle.read_barrier.specs.Barrier.{IsGrayIn, barrier_page_of}
use Rattle.heap_memory.specs.Memory.{Memory}
use Rattle.heap_memory.specs.Collecting.{is_gray_in, page_records, barrier_records}

abbrev IsFound : (ℕ → Bool) → ℕ → ℕ → Type 0
IsFound p a n = (x : ℕ) × (p x ≡ true) × (a ≤ x) × (x < a + n)

found : (p : ℕ → Bool) (a n : ℕ) → list_any p (range_with_len a n) ≡ true → IsFound p a n
found p a zero is = absurd (cc is)
found p a (suc n) is = here (p a) refl is (found p (a + 1) n)
  where
    here : (b : Bool) → p a ≡ b → (b || list_any p (range_with_len (a + 1) n)) ≡ true → (list_any p (range_with_len (a + 1) n) ≡ true → IsFound p (a + 1) n) → IsFound p a (suc n)
    here true test is later = (a, test, omega arith, omega arith)
    here false test is later = let x = later is in (x.0, x.1, omega (arith, x.2), omega (arith, x.3))

finds : (p : ℕ → Bool) (a n x : ℕ) → p x ≡ true → a ≤ x → x < a + n → list_any p (range_with_len a n) ≡ true
finds p a zero x test low high = absurd (omega arith)
finds p a (suc n) x test low high = here (p a) refl (finds p (a + 1) n x test)
  where
    here : (b : Bool) → p a ≡ b → (a + 1 ≤ x → x < a + 1 + n → list_any p (range_with_len (a + 1) n) ≡ true) → (b || list_any p (range_with_len (a + 1) n)) ≡ true
    here true first later = refl
    here false first later =
        let other : a ≢ x = λ same. false≢true (sym first ∙ ap p same ∙ test) in
        later (omega (arith, other)) (omega arith)

-- it is tested so
pub gray_tested : (runs : Option Collection) (page : ℕ) → IsGrayIn runs page → is_gray_in runs page ≡ true
gray_tested None page gray = absurd gray
gray_tested (Some k) page gray = finds (contains k.gray) (64 * page) 64 gray.0 gray.1 (omega (arith, gray.2)) (omega (arith, gray.2))

tested_gray : (runs : Option Collection) (page : ℕ) → is_gray_in runs page ≡ true → IsGrayIn runs page
tested_gray None page is = absurd (cc is)
tested_gray (Some k) page is =
    let at = found (contains k.gray) (64 * page) 64 is in
    (at.0, at.1, omega (arith, at.2, at.3))

pub none_tested : (runs : Option Collection) (page : ℕ) → (IsGrayIn runs page → ⊥) → is_gray_in runs page ≡ false
none_tested runs page none = cases (is_gray_in runs page) refl
  where
    cases : (b : Bool) → is_gray_in runs page ≡ b → b ≡ false
    cases true test = absurd (none (tested_gray runs page test))
    cases false test = refl

-- the records of a barrier are those of its page, where that is gray
pub barrier_gray : (m : Memory) (object field page : ℕ) (records : List Record) → page ≡ barrier_page_of object field → IsGrayIn m.collection (barrier_page_of object field)
    → records ≡ page_records m page → records ≡ barrier_records m object field
barrier_gray m object field page records here gray are =
    are ∙ ap (page_records m) here
    ∙ sym (ap (λ b. if b then page_records m (barrier_page_of object field) else []) (gray_tested m.collection (barrier_page_of object field) gray))

-- and none where it is not
pub barrier_none : (m : Memory) (object field : ℕ) → (IsGrayIn m.collection (barrier_page_of object field) → ⊥) → [] ≡ barrier_records m object field
barrier_none m object field none =
    sym (ap (λ b. if b then page_records m (barrier_page_of object field) else []) (none_tested m.collection (barrier_page_of object field) none))
