-- Laws of dirty pages: how many there are once one page has changed, and which of them is the victim.
use Rattle.std.proofs.Common.{◌≡◌, ◌≢◌, ℕ, zero, suc, ◌+◌, ◌<◌, ◌≤◌, Bool, true, false, List, [], ◌∷◌, length, refl, sym, ap, subst, ◌∙◌, arith, inl, inr, ◌⊎◌, ⊎_elim}
use Rattle.std.specs.Prelude.{◌==◌, ◌||◌, not, nat_lt, fold, None, Some, if◌then◌else◌}
use Rattle.std.specs.List.{filter, range_with_len}
use Rattle.std.proofs.lemmas.Bool.{cases_Bool, cases_eq, cases_lt, both_ways, cond-true, cond-false, eq-eqb, ne_eqb, lt-ltb, le-ltb}
use Rattle.page_redo.specs.Victim.{differs, dirty_pages, older, oldest, victim, IsNoYounger}

or_left : {a : Bool} (b : Bool) → a ≡ true → (a || b) ≡ true
or_left b is = ap (λ (t : Bool). t || b) is

or_right : (a : Bool) {b : Bool} → b ≡ true → (a || b) ≡ true
or_right true is = refl
or_right false is = is

or_neither : {a b : Bool} → a ≡ false → b ≡ false → (a || b) ≡ false
or_neither one other = λ i. one i || other i

or_alone : (a : Bool) {b : Bool} → b ≡ false → a ≡ (a || b)
or_alone true is = refl
or_alone false is = sym is

found_page : {v w : ℕ} → Some v ≡ Some w → v ≡ w
found_page is = cc is

no_oldest : (lsns : ℕ → ℕ) (ps : List ℕ) → length ps ≡ 0 → oldest lsns ps ≡ None
no_oldest lsns [] none = refl
no_oldest lsns (p ∷ ps) none = absurd (omega (arith, none))

-- Whether a page is dirty.

pub differs_yes : (lsns stored : ℕ → ℕ) (p : ℕ) → lsns p ≢ stored p → differs lsns stored p ≡ true
differs_yes lsns stored p apart = ap not (ne_eqb (lsns p) (stored p) apart)

pub differs_no : (lsns stored : ℕ → ℕ) (p : ℕ) → lsns p ≡ stored p → differs lsns stored p ≡ false
differs_no lsns stored p same = ap not (eq-eqb (lsns p) (stored p) same)

-- two pages with the same LSNs, in memory and stored, are both dirty or both clean
pub differs_same : (lsns stored now kept : ℕ → ℕ) (p : ℕ) → now p ≡ lsns p → kept p ≡ stored p → differs now kept p ≡ differs lsns stored p
differs_same lsns stored now kept p same_lsn same_stored = λ i. not (same_lsn i == same_stored i)

-- Numbers that pass a test, of n from a on.

module _ (f g : ℕ → Bool) where
  pub filter_same : (a n : ℕ) → ((q : ℕ) → a ≤ q → q < a + n → f q ≡ g q) → filter f (range_with_len a n) ≡ filter g (range_with_len a n)
  filter_same a zero same = refl
  filter_same a (suc n) same =
      let rest : filter f (range_with_len (a + 1) n) ≡ filter g (range_with_len (a + 1) n) = filter_same (a + 1) n (λ q low high. same q (omega arith) (omega arith)) in
      λ i. if same a (omega arith) (omega arith) i then (a ∷ rest i) else rest i

  -- one more passes the second test
  pub filter_one_more : (a n p : ℕ) → a ≤ p → p < a + n → f p ≡ false → g p ≡ true → ((q : ℕ) → q ≢ p → f q ≡ g q) → length (filter g (range_with_len a n)) ≡ length (filter f (range_with_len a n)) + 1
  filter_one_more a zero p low high fails passes same = absurd (omega arith)
  filter_one_more a (suc n) p low high fails passes same =
      let before = filter f (range_with_len (a + 1) n) in
      let after = filter g (range_with_len (a + 1) n) in
      elim (cases_eq a p) [
        | inl here ↦
            let rest : before ≡ after = filter_same (a + 1) n (λ q more less. same q (λ e. absurd (omega (arith, e, here, more)))) in
            let kept = cond-true (g a) (a ∷ after) after (ap g here ∙ passes) in
            let left = cond-false (f a) (a ∷ before) before (ap f here ∙ fails) in
            omega (arith, ap length kept, ap length left, ap length rest)
        | inr apart ↦
            let one = filter_one_more (a + 1) n p (omega (arith, apart)) (omega arith) fails passes same in
            elim (cases_Bool (f a)) [
              | inl held ↦
                  let kept = cond-true (g a) (a ∷ after) after (sym (same a apart) ∙ held) in
                  let was = cond-true (f a) (a ∷ before) before held in
                  omega (arith, ap length kept, ap length was, one)
              | inr dropped ↦
                  let kept = cond-false (g a) (a ∷ after) after (sym (same a apart) ∙ dropped) in
                  let was = cond-false (f a) (a ∷ before) before dropped in
                  omega (arith, ap length kept, ap length was, one)
            ]
      ]

-- no more pass a test than there are
filter_at_most : (f : ℕ → Bool) (a n : ℕ) → length (filter f (range_with_len a n)) ≤ n
filter_at_most f a zero = omega arith
filter_at_most f a (suc n) =
    let rest = filter f (range_with_len (a + 1) n) in
    elim (cases_Bool (f a)) [
      | inl held ↦ omega (arith, ap length (cond-true (f a) (a ∷ rest) rest held), filter_at_most f (a + 1) n)
      | inr dropped ↦ omega (arith, ap length (cond-false (f a) (a ∷ rest) rest dropped), filter_at_most f (a + 1) n)
    ]

-- no more pages are dirty than there are
pub dirty_at_most : (pages : ℕ) (lsns stored : ℕ → ℕ) → length (dirty_pages pages lsns stored) ≤ pages
dirty_at_most pages lsns stored = filter_at_most (differs lsns stored) 0 pages

-- How many pages are dirty, where one page changes: the LSNs are lsns and stored before, now and kept after.
module _ (pages : ℕ) (lsns stored now kept : ℕ → ℕ) (p : ℕ) (within : p < pages) (others : (q : ℕ) → q ≢ p → differs now kept q ≡ differs lsns stored q) where
  -- one more, where a clean page gets dirty
  pub dirty_more : differs lsns stored p ≡ false → differs now kept p ≡ true → length (dirty_pages pages now kept) ≡ length (dirty_pages pages lsns stored) + 1
  dirty_more clean dirty = filter_one_more (differs lsns stored) (differs now kept) 0 pages p (omega arith) (omega arith) clean dirty (λ q apart. sym (others q apart))

  -- one less, where a dirty page gets clean
  pub dirty_less : differs lsns stored p ≡ true → differs now kept p ≡ false → length (dirty_pages pages lsns stored) ≡ length (dirty_pages pages now kept) + 1
  dirty_less dirty clean = filter_one_more (differs now kept) (differs lsns stored) 0 pages p (omega arith) (omega arith) clean dirty others

  -- and the same pages are dirty where it stays as it was
  pub dirty_same : differs now kept p ≡ differs lsns stored p → dirty_pages pages now kept ≡ dirty_pages pages lsns stored
  dirty_same same = filter_same (differs now kept) (differs lsns stored) 0 pages (λ q low high. elim (cases_eq q p) [
    | inl here ↦ subst (λ (k : ℕ). differs now kept k ≡ differs lsns stored k) (sym here) same
    | inr apart ↦ others q apart
  ])

-- where a page is clean, not all are dirty
pub dirty_room : (pages : ℕ) (lsns stored : ℕ → ℕ) (p : ℕ) → p < pages → differs lsns stored p ≡ false → length (dirty_pages pages lsns stored) < pages
dirty_room pages lsns stored p within clean =
    let also : ℕ → Bool = λ q. differs lsns stored q || (q == p) in
    let other : (q : ℕ) → q ≢ p → differs lsns stored q ≡ also q = λ q apart. or_alone (differs lsns stored q) (ne_eqb q p apart) in
    omega (arith, filter_one_more (differs lsns stored) also 0 pages p (omega arith) (omega arith) clean (or_right (differs lsns stored p) (eq-eqb p p refl)) other, filter_at_most also 0 pages)

-- Which of them is the oldest.

-- Page v is dirty, and no dirty page comes before it.
pub record IsOldest (pages : ℕ) (lsns stored : ℕ → ℕ) (v : ℕ) : Type 0 where
  pub within : v < pages
  pub dirty : differs lsns stored v ≡ true
  pub least : (q : ℕ) → q < pages → differs lsns stored q ≡ true → IsNoYounger lsns v q

module _ (lsns : ℕ → ℕ) where
  pub no_younger_self : (p : ℕ) → IsNoYounger lsns p p
  no_younger_self p = record { lsn = omega arith; page = λ le. omega arith }

  pub no_younger_through : (p q r : ℕ) → IsNoYounger lsns p q → IsNoYounger lsns q r → IsNoYounger lsns p r
  no_younger_through p q r one other = record {
    lsn = omega (arith, one.lsn, other.lsn);
    page = λ le. omega (arith, one.page (omega (arith, le, other.lsn)), other.page (omega (arith, le, one.lsn)));
  }

  no_younger_both : (p q : ℕ) → IsNoYounger lsns p q → IsNoYounger lsns q p → p ≡ q
  no_younger_both p q one other = omega (arith, one.page other.lsn, other.page one.lsn)

  -- Page v is one of those from a on, or page p in front of them, and none of them comes before it.
  record IsFound (f : ℕ → Bool) (a n p v : ℕ) : Type 0 where
    place : (v ≡ p) ⊎ ((a ≤ v) × (v < a + n) × (f v ≡ true))
    first : IsNoYounger lsns v p
    least : (q : ℕ) → a ≤ q → q < a + n → f q ≡ true → IsNoYounger lsns v q

  -- one more page is compared
  found_more : (f : ℕ → Bool) (a n p next v : ℕ) → f a ≡ true → (next ≡ p) ⊎ (next ≡ a) → IsNoYounger lsns next p → IsNoYounger lsns next a → IsFound f (a + 1) n next v → IsFound f a (suc n) p v
  found_more f a n p next v held which before here is = record {
    place = ⊎_elim
        (λ (e : v ≡ next). ⊎_elim (λ (k : next ≡ p). inl (e ∙ k)) (λ (k : next ≡ a). inr (omega (arith, e, k), omega (arith, e, k), ap f (e ∙ k) ∙ held)) which)
        (λ (t : (a + 1 ≤ v) × (v < a + 1 + n) × (f v ≡ true)). inr (omega (arith, t.0), omega (arith, t.1), t.2))
        is.place;
    first = no_younger_through v next p is.first before;
    least = λ q low high passes. elim (cases_eq q a) [
      | inl same ↦ subst (λ (k : ℕ). IsNoYounger lsns v k) (sym same) (no_younger_through v next a is.first here)
      | inr apart ↦ is.least q (omega (arith, low, apart)) (omega (arith, high)) passes
    ];
  }

  found : (f : ℕ → Bool) (a n p : ℕ) → p < a → IsFound f a n p (fold (older lsns) p (filter f (range_with_len a n)))
  found f a zero p lt = record { place = inl refl; first = no_younger_self p; least = λ q low high passes. absurd (omega (arith, low, high)) }
  found f a (suc n) p lt =
      let rest = filter f (range_with_len (a + 1) n) in
      elim (cases_Bool (f a)) [
        | inl held ↦
            let seen = ap (fold (older lsns) p) (cond-true (f a) (a ∷ rest) rest held) in
            subst (λ (v : ℕ). IsFound f a (suc n) p v) (sym seen)
            (elim (cases_lt (lsns a) (lsns p)) [
              | inl less ↦
                  let is : older lsns p a ≡ a = cond-true (nat_lt (lsns a) (lsns p)) a p (lt-ltb (lsns a) (lsns p) less) in
                  let next = older lsns p a in
                  found_more f a n p next (fold (older lsns) next rest) held (inr is)
                  (subst (λ (k : ℕ). IsNoYounger lsns k p) (sym is) (record { lsn = omega (arith, less); page = λ le. absurd (omega (arith, less, le)) }))
                  (subst (λ (k : ℕ). IsNoYounger lsns k a) (sym is) (no_younger_self a))
                  (found f (a + 1) n next (omega (arith, is)))
              | inr more ↦
                  let is : older lsns p a ≡ p = cond-false (nat_lt (lsns a) (lsns p)) a p (le-ltb (lsns a) (lsns p) more) in
                  let next = older lsns p a in
                  found_more f a n p next (fold (older lsns) next rest) held (inl is)
                  (subst (λ (k : ℕ). IsNoYounger lsns k p) (sym is) (no_younger_self p))
                  (subst (λ (k : ℕ). IsNoYounger lsns k a) (sym is) (record { lsn = more; page = λ le. omega (arith, lt) }))
                  (found f (a + 1) n next (omega (arith, is, lt)))
            ])
        | inr dropped ↦
            let seen = ap (fold (older lsns) p) (cond-false (f a) (a ∷ rest) rest dropped) in
            let is = found f (a + 1) n p (omega (arith, lt)) in
            subst (λ (v : ℕ). IsFound f a (suc n) p v) (sym seen) (record {
              place = ⊎_elim (λ (e : fold (older lsns) p rest ≡ p). inl e) (λ t. inr (omega (arith, t.0), omega (arith, t.1), t.2)) is.place;
              first = is.first;
              least = λ q low high passes. elim (cases_eq q a) [
                | inl same ↦ absurd (both_ways (f q) (ap f same ∙ dropped) passes)
                | inr apart ↦ is.least q (omega (arith, low, apart)) (omega (arith, high)) passes
              ];
            })
      ]

  -- The same, without a page in front of them.
  record IsFirst (f : ℕ → Bool) (a n v : ℕ) : Type 0 where
    low : a ≤ v
    high : v < a + n
    passes : f v ≡ true
    least : (q : ℕ) → a ≤ q → q < a + n → f q ≡ true → IsNoYounger lsns v q

  first_of : (f : ℕ → Bool) (a n v : ℕ) → oldest lsns (filter f (range_with_len a n)) ≡ Some v → IsFirst f a n v
  first_of f a zero v is = absurd (cc is)
  first_of f a (suc n) v is =
      let rest = filter f (range_with_len (a + 1) n) in
      elim (cases_Bool (f a)) [
        | inl held ↦
            let all : filter f (range_with_len a (suc n)) ≡ a ∷ rest = cond-true (f a) (a ∷ rest) rest held in
            let same : fold (older lsns) a rest ≡ v = found_page (sym (ap (oldest lsns) all) ∙ is) in
            let here : IsFound f (a + 1) n a v = subst (λ (k : ℕ). IsFound f (a + 1) n a k) same (found f (a + 1) n a (omega arith)) in
            record {
              low = ⊎_elim (λ (e : v ≡ a). omega (arith, e)) (λ t. omega (arith, t.0)) here.place;
              high = ⊎_elim (λ (e : v ≡ a). omega (arith, e)) (λ t. omega (arith, t.1)) here.place;
              passes = ⊎_elim (λ (e : v ≡ a). ap f e ∙ held) (λ t. t.2) here.place;
              least = λ q low high passes. elim (cases_eq q a) [
                | inl same ↦ subst (λ (k : ℕ). IsNoYounger lsns v k) (sym same) here.first
                | inr apart ↦ here.least q (omega (arith, low, apart)) (omega (arith, high)) passes
              ];
            }
        | inr dropped ↦
            let all : filter f (range_with_len a (suc n)) ≡ rest = cond-false (f a) (a ∷ rest) rest dropped in
            let here = first_of f (a + 1) n v (sym (ap (oldest lsns) all) ∙ is) in
            record {
              low = omega (arith, here.low);
              high = omega (arith, here.high);
              passes = here.passes;
              least = λ q low high passes. elim (cases_eq q a) [
                | inl same ↦ absurd (both_ways (f q) (ap f same ∙ dropped) passes)
                | inr apart ↦ here.least q (omega (arith, low, apart)) (omega (arith, high)) passes
              ];
            }
      ]

  -- where one of them passes, one is the first
  some_first : (f : ℕ → Bool) (a n q : ℕ) → a ≤ q → q < a + n → f q ≡ true → (v : ℕ) × (oldest lsns (filter f (range_with_len a n)) ≡ Some v)
  some_first f a zero q low high passes = absurd (omega (arith, low, high))
  some_first f a (suc n) q low high passes =
      let rest = filter f (range_with_len (a + 1) n) in
      elim (cases_Bool (f a)) [
        | inl held ↦ (fold (older lsns) a rest, ap (oldest lsns) (cond-true (f a) (a ∷ rest) rest held))
        | inr dropped ↦
            let there : a ≢ q = λ e. both_ways (f q) (ap f (sym e) ∙ dropped) passes in
            let later = some_first f (a + 1) n q (omega (arith, low, there)) (omega (arith, high)) passes in
            (later.0, ap (oldest lsns) (cond-false (f a) (a ∷ rest) rest dropped) ∙ later.1)
      ]

module _ (pages : ℕ) (lsns stored : ℕ → ℕ) where
  -- what is said to be the oldest is the oldest
  pub oldest_gives : (v : ℕ) → oldest lsns (dirty_pages pages lsns stored) ≡ Some v → IsOldest pages lsns stored v
  oldest_gives v is =
      let first = first_of lsns (differs lsns stored) 0 pages v is in
      record { within = omega (arith, first.high); dirty = first.passes; least = λ q lt dirty. first.least q (omega arith) (omega (arith, lt)) dirty }

  -- and the other way round
  pub oldest_is : (v : ℕ) → IsOldest pages lsns stored v → oldest lsns (dirty_pages pages lsns stored) ≡ Some v
  oldest_is v is =
      let some = some_first lsns (differs lsns stored) 0 pages v (omega arith) (omega (arith, is.within)) is.dirty in
      let other = oldest_gives some.0 some.1 in
      some.1 ∙ ap (λ (k : ℕ). Some k) (no_younger_both lsns some.0 v (other.least v is.within is.dirty) (is.least some.0 other.within other.dirty))

  -- none is where no page is dirty
  pub oldest_none : length (dirty_pages pages lsns stored) ≡ 0 → oldest lsns (dirty_pages pages lsns stored) ≡ None
  oldest_none none = no_oldest lsns (dirty_pages pages lsns stored) none

  -- The victim of page p.
  module _ (frames p : ℕ) where
    abbrev is_spared : Bool
    is_spared = differs lsns stored p || nat_lt (length (dirty_pages pages lsns stored)) frames

    pub victim_dirty : differs lsns stored p ≡ true → victim pages frames lsns stored p ≡ None
    victim_dirty dirty = cond-true is_spared None (oldest lsns (dirty_pages pages lsns stored)) (or_left (nat_lt (length (dirty_pages pages lsns stored)) frames) dirty)

    pub victim_few : length (dirty_pages pages lsns stored) < frames → victim pages frames lsns stored p ≡ None
    victim_few few =
        cond-true is_spared None (oldest lsns (dirty_pages pages lsns stored))
        (or_right (differs lsns stored p) (lt-ltb (length (dirty_pages pages lsns stored)) frames few))

    pub victim_due : differs lsns stored p ≡ false → frames ≤ length (dirty_pages pages lsns stored) → victim pages frames lsns stored p ≡ oldest lsns (dirty_pages pages lsns stored)
    victim_due clean full =
        cond-false is_spared None (oldest lsns (dirty_pages pages lsns stored))
        (or_neither clean (le-ltb (length (dirty_pages pages lsns stored)) frames full))
