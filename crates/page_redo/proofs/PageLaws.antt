-- Laws of pages: what is put on one page leaves the others as they were.
use Rattle.std.proofs.Common.{◌≡◌, ℕ, ◌+◌, ◌-◌, ◌*◌, ◌<◌, ◌≤◌, Bool, true, false, List, [], ◌∷◌, ◌++◌, length, get_or, set, refl, sym, ap, subst, ◌∙◌, arith, inl, inr, ⊎_elim, length-set, get_or-set_same, get_or-set_other, take, drop, get_or-take, get_or-drop, length-take, length-drop, length-append, append_assoc}
use Rattle.std.specs.List.{filter, list_any}
use Rattle.std.specs.Prelude.{◌==◌, map, max}
use Rattle.std.proofs.lemmas.Bool.{cases_Bool, cases_eq, cases_lt, eqb-true, eq-eqb, both_ways, or_parts, cond-true, cond-false, false≢true, or_cases}
use Rattle.std.proofs.lemmas.List.{get_or_past, ext_get_or, length-take-le, drop_at, take_at, get_or_append_left, get_or-append_right}
use Rattle.log_machine.specs.Machine.{put_all, words_in}
use Rattle.page_redo.specs.Pages.{page_of, page_words, pages_in}
use Rattle.page_redo.specs.Redo.{raised_to}

-- One write.

-- what is written at an address stands there, if the list has one
set_same : (xs ys : List ℕ) (at word : ℕ) → length xs ≡ length ys → get_or xs at 0 ≡ get_or ys at 0 → get_or (set xs at word) at 0 ≡ get_or (set ys at word) at 0
set_same xs ys at word size same = elim (cases_lt at (length xs)) [
  | inl lt ↦ get_or-set_same xs at word 0 lt ∙ sym (get_or-set_same ys at word 0 (omega arith))
  | inr past ↦ get_or_past (set xs at word) at 0 (omega (arith, length-set xs at word)) ∙ sym (get_or_past (set ys at word) at 0 (omega (arith, length-set ys at word)))
]

-- a word that is written into both of two lists of one size leaves them alike where they were alike
set_both : (xs ys : List ℕ) (at word a : ℕ) → length xs ≡ length ys → get_or xs a 0 ≡ get_or ys a 0 → get_or (set xs at word) a 0 ≡ get_or (set ys at word) a 0
set_both xs ys at word a size same = elim (cases_eq a at) [
  | inl here ↦ subst (λ (i : ℕ). get_or xs i 0 ≡ get_or ys i 0 → get_or (set xs at word) i 0 ≡ get_or (set ys at word) i 0) (sym here) (set_same xs ys at word size) same
  | inr apart ↦ get_or-set_other xs at a word 0 apart ∙ same ∙ sym (get_or-set_other ys at a word 0 apart)
]

-- Writes, of which only those on some pages are kept.
module _ (keep : ℕ → Bool) (p a : ℕ) (there : page_of a ≡ p) where
  abbrev kept : List (ℕ × ℕ) → List (ℕ × ℕ)
  kept writes = filter (λ w. keep (page_of w.0)) writes

  -- a write on another page leaves the word as it was
  other_page : (xs : List ℕ) (w : ℕ × ℕ) → (page_of w.0 ≡ p → ⊥) → get_or (set xs w.0 w.1) a 0 ≡ get_or xs a 0
  other_page xs w apart = get_or-set_other xs w.0 a w.1 0 (λ same. apart (ap page_of (sym same) ∙ there))

  -- a page that is kept has all that is written on it
  pub put_kept : keep p ≡ true → (writes : List (ℕ × ℕ)) (xs ys : List ℕ) → length xs ≡ length ys → get_or xs a 0 ≡ get_or ys a 0 → get_or (put_all xs (filter (λ w. keep (page_of w.0)) writes)) a 0 ≡ get_or (put_all ys writes) a 0
  put_kept keeps [] xs ys size same = same
  put_kept keeps (w ∷ ws) xs ys size same =
      let size' : length (set xs w.0 w.1) ≡ length (set ys w.0 w.1) = length-set xs w.0 w.1 ∙ size ∙ sym (length-set ys w.0 w.1) in
      let size'' : length xs ≡ length (set ys w.0 w.1) = size ∙ sym (length-set ys w.0 w.1) in
      elim (cases_Bool (keep (page_of w.0))) [
        | inl held ↦ ap (λ (l : List (ℕ × ℕ)). get_or (put_all xs l) a 0) (cond-true (keep (page_of w.0)) (w ∷ kept ws) (kept ws) held)
            ∙ put_kept keeps ws (set xs w.0 w.1) (set ys w.0 w.1) size' (set_both xs ys w.0 w.1 a size same)
        | inr left ↦ ap (λ (l : List (ℕ × ℕ)). get_or (put_all xs l) a 0) (cond-false (keep (page_of w.0)) (w ∷ kept ws) (kept ws) left)
            ∙ put_kept keeps ws xs (set ys w.0 w.1) size'' (same ∙ sym (other_page ys w (λ (here : page_of w.0 ≡ p). both_ways (keep p) (ap keep (sym here) ∙ left) keeps)))
      ]

  -- one that is not kept stays as it was
  pub put_left : keep p ≡ false → (writes : List (ℕ × ℕ)) (xs : List ℕ) → get_or (put_all xs (filter (λ w. keep (page_of w.0)) writes)) a 0 ≡ get_or xs a 0
  put_left leaves [] xs = refl
  put_left leaves (w ∷ ws) xs = elim (cases_Bool (keep (page_of w.0))) [
    | inl held ↦ ap (λ (l : List (ℕ × ℕ)). get_or (put_all xs l) a 0) (cond-true (keep (page_of w.0)) (w ∷ kept ws) (kept ws) held)
        ∙ put_left leaves ws (set xs w.0 w.1) ∙ other_page xs w (λ (here : page_of w.0 ≡ p). both_ways (keep p) leaves (ap keep (sym here) ∙ held))
    | inr left ↦ ap (λ (l : List (ℕ × ℕ)). get_or (put_all xs l) a 0) (cond-false (keep (page_of w.0)) (w ∷ kept ws) (kept ws) left) ∙ put_left leaves ws xs
  ]

-- A page that no write is on.

-- a write on another page leaves the words of this one
not_there : (p q : ℕ) → (q == p) ≡ false → q ≡ p → ⊥
not_there p q apart same = both_ways (q == p) apart (eq-eqb q p same)

-- stays as it was
pub put_elsewhere : (p a : ℕ) → page_of a ≡ p → (writes : List (ℕ × ℕ)) (xs : List ℕ) → list_any (λ q. q == p) (map page_of (map (λ (w : ℕ × ℕ). w.0) writes)) ≡ false → get_or (put_all xs writes) a 0 ≡ get_or xs a 0
put_elsewhere p a there [] xs none = refl
put_elsewhere p a there (w ∷ ws) xs none =
    let parts = or_parts (page_of w.0 == p) (list_any (λ q. q == p) (map page_of (map (λ (v : ℕ × ℕ). v.0) ws))) none in
    put_elsewhere p a there ws (set xs w.0 w.1) parts.1
    ∙ get_or-set_other xs w.0 a w.1 0 (λ same. not_there p (page_of w.0) parts.0 (ap page_of (sym same) ∙ there))

-- LSNs.

pub length-raised_to : (lsn : ℕ) (touched : List ℕ) (lsns : List ℕ) → length (raised_to lsn lsns touched) ≡ length lsns
length-raised_to lsn [] lsns = refl
length-raised_to lsn (q ∷ qs) lsns = length-raised_to lsn qs (set lsns q (max (get_or lsns q 0) lsn)) ∙ length-set lsns q (max (get_or lsns q 0) lsn)

-- the LSN of a page that is not touched stays
pub raised_to-other : (lsn p : ℕ) (touched : List ℕ) (lsns : List ℕ) → list_any (λ q. q == p) touched ≡ false → get_or (raised_to lsn lsns touched) p 0 ≡ get_or lsns p 0
raised_to-other lsn p [] lsns none = refl
raised_to-other lsn p (q ∷ qs) lsns none =
    let parts = or_parts (q == p) (list_any (λ q. q == p) qs) none in
    raised_to-other lsn p qs (set lsns q (max (get_or lsns q 0) lsn)) parts.1
    ∙ get_or-set_other lsns q p (max (get_or lsns q 0) lsn) 0 (λ same. not_there p q parts.0 (sym same))

-- that of one that is touched is raised
raised_here : (lsn p q : ℕ) (lsns : List ℕ) → p < length lsns → q ≡ p → get_or (set lsns q (max (get_or lsns q 0) lsn)) p 0 ≡ max (get_or lsns p 0) lsn
raised_here lsn p q lsns lt here =
    subst (λ (i : ℕ). get_or (set lsns i (max (get_or lsns i 0) lsn)) p 0 ≡ max (get_or lsns p 0) lsn) (sym here) (get_or-set_same lsns p (max (get_or lsns p 0) lsn) 0 lt)

raised_or_not : (lsn p q : ℕ) (lsns : List ℕ) → p < length lsns → max (get_or (set lsns q (max (get_or lsns q 0) lsn)) p 0) lsn ≡ max (get_or lsns p 0) lsn
raised_or_not lsn p q lsns lt = elim (cases_eq q p) [
  | inl here ↦ omega (arith, raised_here lsn p q lsns lt here)
  | inr apart ↦ omega (arith, get_or-set_other lsns q p (max (get_or lsns q 0) lsn) 0 (λ same. apart (sym same)))
]

pub raised_to-touched : (lsn p : ℕ) (touched : List ℕ) (lsns : List ℕ) → p < length lsns → list_any (λ q. q == p) touched ≡ true → get_or (raised_to lsn lsns touched) p 0 ≡ max (get_or lsns p 0) lsn
raised_to-touched lsn p [] lsns lt some = absurd (false≢true some)
raised_to-touched lsn p (q ∷ qs) lsns lt some =
    let lt' : p < length (set lsns q (max (get_or lsns q 0) lsn)) = omega (arith, length-set lsns q (max (get_or lsns q 0) lsn)) in
    elim (cases_Bool (list_any (λ q. q == p) qs)) [
      | inl later ↦ raised_to-touched lsn p qs (set lsns q (max (get_or lsns q 0) lsn)) lt' later ∙ raised_or_not lsn p q lsns lt
      | inr none ↦ raised_to-other lsn p qs (set lsns q (max (get_or lsns q 0) lsn)) none
          ∙ raised_here lsn p q lsns lt (eqb-true q p (⊎_elim (λ first. first) (λ later. absurd (both_ways (list_any (λ q. q == p) qs) none later)) (or_cases (q == p) (list_any (λ q. q == p) qs) some)))
    ]

-- The words of one page.

-- a word of a page is the word at its address
word_of_page : (p a : ℕ) (xs : List ℕ) → page_of a ≡ p → get_or (page_words xs p) (a - 64 * p) 0 ≡ get_or xs a 0
word_of_page p a xs there =
    let within : a - 64 * p < 64 = omega arith in
    let here : 64 * p + (a - 64 * p) ≡ a = omega arith in
    get_or-take 64 (drop (64 * p) xs) (a - 64 * p) 0 within ∙ get_or-drop (64 * p) xs (a - 64 * p) 0 ∙ ap (λ (i : ℕ). get_or xs i 0) here

-- words that are alike on a page are alike at each of its addresses
pub page_alike : (p a : ℕ) (xs ys : List ℕ) → page_words xs p ≡ page_words ys p → page_of a ≡ p → get_or xs a 0 ≡ get_or ys a 0
page_alike p a xs ys same there = sym (word_of_page p a xs there) ∙ ap (λ (l : List ℕ). get_or l (a - 64 * p) 0) same ∙ word_of_page p a ys there

-- and the other way round
pub alike_page : (p : ℕ) (xs ys : List ℕ) → length xs ≡ length ys → ((a : ℕ) → page_of a ≡ p → get_or xs a 0 ≡ get_or ys a 0) → page_words xs p ≡ page_words ys p
alike_page p xs ys size same =
    let long = length-take 64 (drop (64 * p) xs) in
    let long' = length-take 64 (drop (64 * p) ys) in
    ext_get_or 0 (page_words xs p) (page_words ys p) (omega (arith, long, long', length-drop (64 * p) xs, length-drop (64 * p) ys))
    (λ i lt. let within : i < 64 = omega (arith, long) in
    get_or-take 64 (drop (64 * p) xs) i 0 within ∙ get_or-drop (64 * p) xs i 0
    ∙ same (64 * p + i) (omega arith)
    ∙ sym (get_or-drop (64 * p) ys i 0) ∙ sym (get_or-take 64 (drop (64 * p) ys) i 0 within))

-- two lists of words that are alike on each page are one
pub alike_pages : (pages : ℕ) (xs ys : List ℕ) → length xs ≡ words_in pages → length ys ≡ words_in pages → ((p : ℕ) → p < pages_in pages → page_words xs p ≡ page_words ys p) → xs ≡ ys
alike_pages pages xs ys size size' same = ext_get_or 0 xs ys (size ∙ sym size') (λ a lt. page_alike (page_of a) a xs ys (same (page_of a) (omega arith)) refl)

-- Words that are put in the place of one page.
module _ (p : ℕ) (page xs : List ℕ) (size : length page ≡ 64) (fits : 64 * p + 64 ≤ length xs) where
  abbrev new : List ℕ
  new = take (64 * p) xs ++ page ++ drop (64 * p + 64) xs

  front : length (take (64 * p) xs) ≡ 64 * p
  front = length-take-le (64 * p) xs (omega arith)

  -- those in front of it and those of it
  both : length (take (64 * p) xs ++ page) ≡ 64 * p + 64
  both = omega (arith, length-append (take (64 * p) xs) page, front)

  pub length-with_words : length new ≡ length xs
  length-with_words = omega (arith, length-append (take (64 * p) xs ++ page) (drop (64 * p + 64) xs), both, length-drop (64 * p + 64) xs)

  -- are the words of that page
  pub with_words-same : page_words new p ≡ page
  with_words-same =
      ap (λ (l : List ℕ). page_words l p) (append_assoc (take (64 * p) xs) page (drop (64 * p + 64) xs))
      ∙ ap (take 64) (drop_at (take (64 * p) xs) (page ++ drop (64 * p + 64) xs) (64 * p) front)
      ∙ take_at page (drop (64 * p + 64) xs) 64 size

  word_before : (a : ℕ) → a < 64 * p → get_or new a 0 ≡ get_or xs a 0
  word_before a lt =
      get_or_append_left (take (64 * p) xs ++ page) (drop (64 * p + 64) xs) 0 a (omega (arith, both))
      ∙ get_or_append_left (take (64 * p) xs) page 0 a (omega (arith, front))
      ∙ get_or-take (64 * p) xs a 0 lt

  word_behind : (a : ℕ) → 64 * p + 64 ≤ a → get_or new a 0 ≡ get_or xs a 0
  word_behind a le =
      let there : 64 * p + 64 + (a - (64 * p + 64)) ≡ a = omega arith in
      get_or-append_right (take (64 * p) xs ++ page) (drop (64 * p + 64) xs) (64 * p + 64) a 0 both le
      ∙ get_or-drop (64 * p + 64) xs (a - (64 * p + 64)) 0
      ∙ ap (λ (i : ℕ). get_or xs i 0) there

  -- and leave the other pages as they were
  pub with_words-other : (q : ℕ) → (q ≡ p → ⊥) → page_words new q ≡ page_words xs q
  with_words-other q apart = alike_page q new xs length-with_words (λ a there. elim (cases_lt a (64 * p)) [
    | inl before ↦ word_before a before
    | inr from ↦ elim (cases_lt a (64 * p + 64)) [
      | inl here ↦ let same : q ≡ p = omega arith in absurd (apart same)
      | inr behind ↦ word_behind a behind
    ]
  ])
