-- What a store in memory knows, and the words of all pages.
use Rattle.std.specs.Prelude.{◌≡◌, ℕ, zero, suc, ◌+◌, ◌*◌, ◌<◌, ◌≤◌, List, ◌++◌, length, take, drop, Option, Some, None}
use Rattle.std.specs.Option.{option_map_or}
use Rattle.std.proofs.Common.{refl, sym, ap, ◌∙◌, inl, inr, arith, length-append, length-drop}
use Rattle.std.proofs.lemmas.Bool.{cases_lt}
use Rattle.std.proofs.lemmas.List.{take-append-le, drop-append-le, drop_at, take_all}
use Rattle.disk_model.specs.Disk.{part, SameOutside}
use Rattle.image_plan.specs.Plan.{log_offset}
use Rattle.page_store.specs.declared.frame.Frame.{Frame}
use Rattle.page_store.specs.declared.store.PageStore.{PageStore}
use Rattle.page_store.specs.Frame.{bytes_of, frame_words}
use Rattle.page_store.specs.Page.{stored_words, first_words, image_words}
use Rattle.page_store.proofs.PageLaws.{pages_behind_log, frames_behind_log, same_frame}
use Rattle.page_store.proofs.WordLaws.{length-words_in}
use Rattle.page_store.specs.StoreState.{store_log, Knows}

-- a store still knows an image if only bytes of the log were written
pub knows_behind_log : (store : PageStore) (old new : List ℕ) → Knows store old → SameOutside log_offset (log_offset + store_log store) old new → Knows store new
knows_behind_log store old new knows behind = record {
  lsns = λ p below. knows.lsns p below ∙ sym (pages_behind_log (store_log store) old new behind p).lsn_is;
  frames = λ p below. knows.frames p below ∙ sym (same_frame (store_log store) p old new (frames_behind_log (store_log store) old new behind p));
}

-- a page has 64 words, stored or not
length-first_words : (p : ℕ) → length (first_words p) ≡ 64
length-first_words zero = refl
length-first_words (suc p) = refl

length_words : (stood first second : List ℕ) (o : Option Frame) → length stood ≡ 64 → length (option_map_or (λ frame. frame_words (bytes_of first second frame)) o stood) ≡ 64
length_words stood first second None size = size
length_words stood first second (Some frame) size = length-words_in 64 _

module _ (log_bytes : ℕ) (image : List ℕ) where
  pub length-page_words : (p : ℕ) → length (stored_words log_bytes p image) ≡ 64
  length-page_words p = length_words (first_words p) _ _ _ (length-first_words p)

  pub length-image_words : (n : ℕ) → length (image_words log_bytes n image) ≡ 64 * n
  unfolding image_words
  length-image_words zero = refl
  length-image_words (suc n) =
      let so_far = length-image_words n in
      omega (arith, so_far, length-append (image_words log_bytes n image) (stored_words log_bytes n image), length-page_words n)

  -- page p stands in its place among all words
  pub image_words-page : (n p : ℕ) → p < n → part (image_words log_bytes n image) (64 * p) 64 ≡ stored_words log_bytes p image
  unfolding image_words
  image_words-page zero p none = absurd (omega arith)
  image_words-page (suc n) p below =
      let front = image_words log_bytes n image in
      let last = stored_words log_bytes n image in
      let size : length front ≡ 64 * n = length-image_words n in
      elim (cases_lt p n) [
        | inl less ↦ part_front front last (64 * p) (omega (arith, size)) ∙ image_words-page n p less
        | inr same ↦ let is : p ≡ n = omega arith in
            ap (λ (k : ℕ). part (front ++ last) (64 * k) 64) is ∙ ap (λ (l : List ℕ). take 64 l) (drop_at front last (64 * n) size) ∙ take_all 64 last (omega (arith, length-page_words n)) ∙ ap (λ (k : ℕ). stored_words log_bytes k image) (sym is)
      ]
    where
      part_front : (front last : List ℕ) (at : ℕ) → at + 64 ≤ length front → part (front ++ last) at 64 ≡ part front at 64
      part_front front last at fits = ap (take 64) (drop-append-le at front last (omega (arith, fits))) ∙ take-append-le 64 (drop at front) last (omega (arith, fits, length-drop at front))
