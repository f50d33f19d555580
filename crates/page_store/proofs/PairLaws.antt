-- What happens to a page when one of its two frames is written: the one that doesn't count.
use Rattle.std.specs.Prelude.{◌≡◌, ◌⊎◌, ℕ, ◌<◌, nat_lt, Bool, true, false, List, Some, None, if◌then◌else◌}
use Rattle.std.proofs.Common.{refl, sym, ap, ◌∙◌, inl, inr, arith}
use Rattle.std.proofs.lemmas.Bool.Decides.{nat_tests}
use Rattle.page_store.specs.declared.frame.Frame.{Frame}
use Rattle.page_store.specs.declared.frame.Frame.TheVariants.{First, Second}
use Rattle.page_store.specs.Frame.{is_frame_open, frame_lsn, frame_words, newest, counting, bytes_of, lsn_in, words_or, spare}

-- the other one of two frames
abbrev pub other : Frame → Frame
other First = Second
other Second = First

-- the first frame is written if the second counts, or if none does
first_spare : (o o' : Bool) (lsn lsn' : ℕ) → spare (newest o o' lsn lsn') ≡ First → ((newest o o' lsn lsn' ≡ Some Second) × (o' ≡ true)) ⊎ ((newest o o' lsn lsn' ≡ None) × (o' ≡ false))
first_spare false false lsn lsn' is = inr (refl, refl)
first_spare true false lsn lsn' is = absurd (cc is)
first_spare false true lsn lsn' is = inl (refl, refl)
first_spare true true lsn lsn' is = by_test (nat_lt lsn lsn') is
  where
    by_test : (less : Bool) → spare (if less then Some Second else Some First) ≡ First
        → (((if less then Some Second else Some First) ≡ Some Second) × (◌≡◌ {A = Bool} true true)) ⊎ (((if less then Some Second else Some First) ≡ None) × (◌≡◌ {A = Bool} true false))
    by_test true is = inl (refl, refl)
    by_test false is = absurd (cc is)

-- and the second if the first counts
second_spare : (o o' : Bool) (lsn lsn' : ℕ) → spare (newest o o' lsn lsn') ≡ Second → (newest o o' lsn lsn' ≡ Some First) × (o ≡ true)
second_spare false false lsn lsn' is = absurd (cc is)
second_spare true false lsn lsn' is = (refl, refl)
second_spare false true lsn lsn' is = absurd (cc is)
second_spare true true lsn lsn' is = by_test (nat_lt lsn lsn') is
  where
    by_test : (less : Bool) → spare (if less then Some Second else Some First) ≡ Second → ((if less then Some Second else Some First) ≡ Some First) × (◌≡◌ {A = Bool} true true)
    by_test true is = absurd (cc is)
    by_test false is = (refl, refl)

-- two open frames
newer_second : (lsn lsn' : ℕ) → lsn < lsn' → newest true true lsn lsn' ≡ Some Second
newer_second lsn lsn' less = let is : nat_lt lsn lsn' ≡ true = grind (arith, nat_tests) in ap (λ (b : Bool). if b then Some Second else Some First) is

newer_first : (lsn lsn' : ℕ) → lsn' < lsn → newest true true lsn lsn' ≡ Some First
newer_first lsn lsn' less = let is : nat_lt lsn lsn' ≡ false = grind (arith, nat_tests) in ap (λ (b : Bool). if b then Some Second else Some First) is

-- what a page with these frames holds, if that frame counts
lsn_counting : (first second : List ℕ) (frame : Frame) → counting first second ≡ Some frame → lsn_in first second ≡ frame_lsn (bytes_of first second frame)
lsn_counting first second frame is = rw is refl

-- The same frame counts in both pairs, and has the same bytes: the pages hold the same.
pub record SamePair (stood first second first' second' : List ℕ) : Type 0 where
  pub counts : counting first' second' ≡ counting first second
  pub lsns : lsn_in first' second' ≡ lsn_in first second
  pub words_are : words_or stood first' second' ≡ words_or stood first second

-- The frame counts in the second pair.
pub record CountsNow (stood first second : List ℕ) (frame : Frame) : Type 0 where
  pub counts : counting first second ≡ Some frame
  pub lsn_is : lsn_in first second ≡ frame_lsn (bytes_of first second frame)
  pub words_are : words_or stood first second ≡ frame_words (bytes_of first second frame)

counts_now : (stood first second : List ℕ) (frame : Frame) → counting first second ≡ Some frame → CountsNow stood first second frame
counts_now stood first second frame is = record { counts = is; lsn_is = rw is refl; words_are = rw is refl }

module _ (stood first second : List ℕ) where
  same_first : (second' : List ℕ) → counting first second ≡ Some First → counting first second' ≡ Some First → SamePair stood first second first second'
  same_first second' was is = record { counts = is ∙ sym was; lsns = rw (was, is) refl; words_are = rw (was, is) refl }

  same_second : (first' : List ℕ) → counting first second ≡ Some Second → counting first' second ≡ Some Second → SamePair stood first second first' second
  same_second first' was is = record { counts = is ∙ sym was; lsns = rw (was, is) refl; words_are = rw (was, is) refl }

  same_none : (first' : List ℕ) → counting first second ≡ None → counting first' second ≡ None → SamePair stood first second first' second
  same_none first' was is = record { counts = is ∙ sym was; lsns = rw (was, is) refl; words_are = rw (was, is) refl }

  -- while the spare frame is closed, whatever else it holds, it changes nothing
  pub closed_spare : (first' second' : List ℕ) (frame : Frame) → frame ≡ spare (counting first second) → bytes_of first' second' (other frame) ≡ bytes_of first second (other frame)
      → is_frame_open (bytes_of first' second' frame) ≡ false → SamePair stood first second first' second'
  closed_spare first' second' First spare_is same shut =
      rw same (elim (first_spare (is_frame_open first) (is_frame_open second) (frame_lsn first) (frame_lsn second) (sym spare_is)) [
        | inl second_counts ↦ same_second first' second_counts.0 (rw (shut, second_counts.1) refl)
        | inr none ↦ same_none first' none.0 (rw (shut, none.1) refl)
      ])
  closed_spare first' second' Second spare_is same shut =
      let was = second_spare (is_frame_open first) (is_frame_open second) (frame_lsn first) (frame_lsn second) (sym spare_is) in
      rw same (same_first second' was.0 (rw (shut, was.1) refl))

  -- once it is open, with a greater LSN than the page's, it counts
  pub opened_spare : (first' second' : List ℕ) (frame : Frame) → frame ≡ spare (counting first second) → bytes_of first' second' (other frame) ≡ bytes_of first second (other frame)
      → is_frame_open (bytes_of first' second' frame) ≡ true → lsn_in first second < frame_lsn (bytes_of first' second' frame) → CountsNow stood first' second' frame
  opened_spare first' second' First spare_is same is_open greater =
      rw same (elim (first_spare (is_frame_open first) (is_frame_open second) (frame_lsn first) (frame_lsn second) (sym spare_is)) [
        | inl second_counts ↦ counts_now stood first' second First (rw (is_open, second_counts.1) (newer_first (frame_lsn first') (frame_lsn second) (omega (arith, greater, lsn_counting first second Second second_counts.0))))
        | inr none ↦ counts_now stood first' second First (rw (is_open, none.1) refl)
      ])
  opened_spare first' second' Second spare_is same is_open greater =
      let was = second_spare (is_frame_open first) (is_frame_open second) (frame_lsn first) (frame_lsn second) (sym spare_is) in
      rw same (counts_now stood first second' Second (rw (is_open, was.1) (newer_second (frame_lsn first) (frame_lsn second') (omega (arith, greater, lsn_counting first second First was.0)))))
