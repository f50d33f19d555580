-- An opening, page by page.
use Rattle.std.proofs.Common.{◌≡◌, ℕ, ◌+◌, ◌-◌, ◌*◌, ◌<◌, ◌≤◌, inl, inr, List, [], ◌∷◌, ◌++◌, length, take, drop, get_or, ap, ◌∙◌, arith, add-one, length-append}
use Rattle.std.proofs.lemmas.Bool.{cases_lt}
use Rattle.std.proofs.lemmas.List.{get_or_append_left, get_or-append_right, take-take, drop-take, drop-drop}
use Rattle.disk_model.specs.Disk.{part}
use Rattle.image_plan.specs.Plan.{frame_offset}
use Rattle.page_store.specs.declared.frame.Frame.TheVariants.{First, Second}
use Rattle.page_store.specs.declared.frame.Stored.{Stored}
use Rattle.page_store.specs.Page.{frame_of, page_lsn, page_frame, stored_words, image_words}
use Rattle.page_store.specs.Reading.{nothing_stored, IsReadTo}

-- no page was read
pub read_none : (log_bytes : ℕ) (table : List Stored) (words image : List ℕ) → table ≡ [] → words ≡ [] → IsReadTo log_bytes 0 table words image
unfolding image_words
read_none log_bytes table words image no_table no_words = record {
  pages = ap length no_table;
  lsns = λ p none. absurd (omega (arith, none));
  frames = λ p none. absurd (omega (arith, none));
  words_are = no_words;
}

-- a part of a part
pub part_part : (image : List ℕ) (at n k m : ℕ) → k + m ≤ n → part (part image at n) k m ≡ part image (at + k) m
part_part image at n k m fits =
    let rest = n - k in
    let whole : n ≡ k + rest = omega (arith, fits) in
    ap (λ (j : ℕ). take m (drop k (take j (drop at image)))) whole
    ∙ ap (λ (l : List ℕ). take m l) (drop-take k rest (drop at image))
    ∙ take-take m rest (drop k (drop at image)) (omega (arith, fits))
    ∙ ap (λ (l : List ℕ). take m l) (drop-drop k at image)

module _ (log_bytes : ℕ) (image : List ℕ) where
  -- one more page was read
  pub read_more : (p : ℕ) (table : List Stored) (words : List ℕ) (stored : Stored) (page : List ℕ) → IsReadTo log_bytes p table words image
      → stored.lsn ≡ page_lsn log_bytes p image → stored.counts ≡ page_frame log_bytes p image → page ≡ stored_words log_bytes p image → IsReadTo log_bytes (p + 1) (table ++ stored ∷ []) (words ++ page) image
  unfolding image_words
  read_more p table words stored page so_far lsn_is frame_is page_is = record {
    pages = omega (arith, so_far.pages, length-append table (stored ∷ []));
    lsns = λ q below. elim (cases_lt q p) [
      | inl less ↦ ap (λ (e : Stored). e.lsn) (old q less) ∙ so_far.lsns q less
      | inr same ↦ ap (λ (e : Stored). e.lsn) (new q same below) ∙ lsn_is ∙ ap (λ (k : ℕ). page_lsn log_bytes k image) (at q same below)
    ];
    frames = λ q below. elim (cases_lt q p) [
      | inl less ↦ ap (λ (e : Stored). e.counts) (old q less) ∙ so_far.frames q less
      | inr same ↦ ap (λ (e : Stored). e.counts) (new q same below) ∙ frame_is ∙ ap (λ (k : ℕ). page_frame log_bytes k image) (at q same below)
    ];
    words_are = rw add-one (ap (λ (l : List ℕ). l ++ page) so_far.words_are ∙ ap (λ (l : List ℕ). image_words log_bytes p image ++ l) page_is);
  }
    where
      at : (q : ℕ) → p ≤ q → q < p + 1 → p ≡ q
      at q above below = omega arith

      old : (q : ℕ) → q < p → get_or (table ++ stored ∷ []) q nothing_stored ≡ get_or table q nothing_stored
      old q less = get_or_append_left table (stored ∷ []) nothing_stored q (omega (arith, so_far.pages))

      new : (q : ℕ) → p ≤ q → q < p + 1 → get_or (table ++ stored ∷ []) q nothing_stored ≡ stored
      new q above below =
          let none : q - p ≡ 0 = omega arith in
          get_or-append_right table (stored ∷ []) p q nothing_stored so_far.pages above ∙ ap (λ (k : ℕ). get_or (stored ∷ []) k nothing_stored) none

  -- the frames of a page, among those of some pages
  pub first_there : (first some k from middle : ℕ) (frames : List ℕ) → frames ≡ part image (frame_offset log_bytes first 0) (1056 * some) → k < some → from ≡ k * 1056 → middle ≡ from + 528 → take (middle - from) (drop from frames) ≡ frame_of log_bytes (first + k) image First
  first_there first some k from middle frames is below from_is middle_is =
      let size : middle - from ≡ 528 = omega arith in
      let place : frame_offset log_bytes first 0 + from ≡ frame_offset log_bytes (first + k) 0 = omega arith in
      ap (λ (n : ℕ). take n (drop from frames)) size
      ∙ ap (λ (l : List ℕ). part l from 528) is
      ∙ part_part image (frame_offset log_bytes first 0) (1056 * some) from 528 (omega arith)
      ∙ ap (λ (n : ℕ). part image n 528) place

  pub second_there : (first some k middle end : ℕ) (frames : List ℕ) → frames ≡ part image (frame_offset log_bytes first 0) (1056 * some) → k < some → middle ≡ k * 1056 + 528 → end ≡ middle + 528 → take (end - middle) (drop middle frames) ≡ frame_of log_bytes (first + k) image Second
  second_there first some k middle end frames is below middle_is end_is =
      let size : end - middle ≡ 528 = omega arith in
      let place : frame_offset log_bytes first 0 + middle ≡ frame_offset log_bytes (first + k) 1 = omega arith in
      ap (λ (n : ℕ). take n (drop middle frames)) size
      ∙ ap (λ (l : List ℕ). part l middle 528) is
      ∙ part_part image (frame_offset log_bytes first 0) (1056 * some) middle 528 (omega arith)
      ∙ ap (λ (n : ℕ). part image n 528) place
