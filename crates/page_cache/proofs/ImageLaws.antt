-- Laws of images: which of them have the same pages stored, and which have pages that were never stored.
use Rattle.std.proofs.Common.{◌≡◌, ℕ, ◌+◌, ◌-◌, ◌*◌, ◌<◌, ◌≤◌, zero, suc, false, List, ◌∷◌, length, take, drop, set, replicate, map, sym, subst, ap, ◌∙◌, arith}
use Rattle.std.specs.List.{range_with_len}
use Rattle.std.proofs.lemmas.List.{length-replicate, get_or-replicate, take-replicate, drop-replicate}
use Rattle.std.proofs.lemmas.List.FromFn.{fill_by_all, length-map-range_with_len}
use Rattle.disk_model.specs.Disk.{SameOutside}
use Rattle.image_plan.specs.Plan.{log_offset}
use Rattle.log_records.specs.declared.Record.{Record}
use Rattle.log_machine.specs.Machine.{first_contents, words_in}
use Rattle.page_redo.specs.Origin.{heap_origin}
use Rattle.log_machine.proofs.WordsLaws.{length-first_contents}
use Rattle.page_redo.specs.Pages.{Pages, pages_in, page_words, lsn_of, first_pages}
use Rattle.page_redo.proofs.PageLaws.{alike_pages}
use Rattle.page_redo.specs.Prefix.{EachHoldsPrefix}
use Rattle.page_redo.proofs.PrefixLaws.{first_pages-prefixes}
use Rattle.page_store.specs.declared.frame.Frame.{Frame}
use Rattle.page_store.specs.declared.frame.Frame.TheVariants.{First, Second}
use Rattle.page_store.specs.Frame.{is_frame_open}
use Rattle.page_store.specs.Page.{frame_of, page_lsn, image_words, first_words, HasPage, SamePage}
use Rattle.page_store.proofs.PageLaws.{pages_behind_log, never_stored}
use Rattle.page_store.proofs.StoreLaws.{length-image_words}
use Rattle.page_cache.specs.Stored.{stored_pages}
use Rattle.page_cache.proofs.StoredLaws.{stored_pages-page, stored_pages-lsn}

-- pages with these words and LSNs
abbrev made_of : List ℕ → List ℕ → Pages
made_of words lsns = record { words = words; lsns = lsns }

-- the first page before any record
first_page : (n : ℕ) → 64 ≤ n → take {A = ℕ} 64 (set (replicate n 0) 0 17) ≡ 17 ∷ replicate 63 0
first_page zero le = absurd (omega (arith, le))
first_page (suc n) le = ap (λ (l : List ℕ). 17 ∷ l) (take-replicate 63 n 0 (omega (arith, le)))

-- and any other one
later_page : (n p : ℕ) → 64 * p + 128 ≤ n → take {A = ℕ} 64 (drop (64 * suc p) (set (replicate n 0) 0 17)) ≡ replicate 64 0
later_page zero p le = absurd (omega (arith, le))
later_page (suc n) p le =
    let along : 64 * suc p ≡ suc (64 * p + 63) = omega arith in
    ap (λ (k : ℕ). take 64 (drop k (17 ∷ replicate n 0))) along
    ∙ ap (take 64) (drop-replicate (64 * p + 63) n 0)
    ∙ take-replicate 64 (n - (64 * p + 63)) 0 (omega (arith, le))

-- what a page holds that was never stored are its words before any record
pub first_contents-page : (pages p : ℕ) → p < pages_in pages → page_words (first_contents pages) p ≡ first_words p
first_contents-page pages zero lt = first_page (words_in pages) (omega (arith, lt))
first_contents-page pages (suc p) lt = later_page (words_in pages) p (omega (arith, lt))

module _ (pages log_bytes : ℕ) where
  -- pages that an image has, one by one, are those that are stored in it
  pub are_stored : (image : List ℕ) (at : Pages) → length at.words ≡ words_in pages → length at.lsns ≡ pages_in pages
      → ((p : ℕ) → p < pages_in pages → HasPage log_bytes p (lsn_of at p) (page_words at.words p) image) → stored_pages pages log_bytes image ≡ at
  are_stored image at size lsns_size each =
      let found : List ℕ = map (λ p. page_lsn log_bytes p image) (range_with_len 0 (pages_in pages)) in
      let long : length (image_words log_bytes (pages_in pages) image) ≡ words_in pages = length-image_words log_bytes image (pages_in pages) ∙ omega arith in
      let same_words = alike_pages pages (image_words log_bytes (pages_in pages) image) at.words long size (λ p lt. stored_pages-page pages log_bytes image p lt ∙ (each p lt).words_are) in
      let same_lsns : at.lsns ≡ found = fill_by_all (λ p. page_lsn log_bytes p image) at.lsns (pages_in pages) 0 lsns_size (λ p lt. sym (each p lt).lsn_is) in
      ap (λ (l : List ℕ). made_of l found) same_words ∙ ap (made_of at.words) (sym same_lsns)

  -- two images that have the same pages have the same pages stored
  pub same_stored : (old new : List ℕ) → ((p : ℕ) → p < pages_in pages → SamePage log_bytes p old new) → stored_pages pages log_bytes new ≡ stored_pages pages log_bytes old
  same_stored old new same =
      are_stored new (stored_pages pages log_bytes old) (length-image_words log_bytes old (pages_in pages) ∙ omega arith) (length-map-range_with_len (λ p. page_lsn log_bytes p old) 0 (pages_in pages))
      (λ p lt. record { lsn_is = (same p lt).lsn_is ∙ sym (stored_pages-lsn pages log_bytes old p lt); words_are = (same p lt).words_are ∙ sym (stored_pages-page pages log_bytes old p lt) })

  -- so a write into the log leaves them as they were
  pub stored_behind_log : (old new : List ℕ) → SameOutside log_offset (log_offset + log_bytes) old new → stored_pages pages log_bytes new ≡ stored_pages pages log_bytes old
  stored_behind_log old new behind = same_stored old new (λ p lt. pages_behind_log log_bytes old new behind p)

  module _ (image : List ℕ) (shut : (p : ℕ) → p < pages_in pages → (frame : Frame) → is_frame_open (frame_of log_bytes p image frame) ≡ false) where
    -- where the gates of all frames are closed, no page was stored
    pub none_stored : stored_pages pages log_bytes image ≡ first_pages pages
    none_stored = are_stored image (first_pages pages) (length-first_contents pages) (length-replicate (pages_in pages) 0) (λ p lt.
        let never = never_stored log_bytes p image (shut p lt First) (shut p lt Second) in
        record { lsn_is = never.lsn_is ∙ sym (get_or-replicate (pages_in pages) p 0 0 lt); words_are = never.words_are ∙ sym (first_contents-page pages p lt) })

    -- so the pages of a new heap may stand beside any records
    pub none_stored-prefixes : (first : ℕ) (records : List Record) → EachHoldsPrefix (heap_origin pages first) records (stored_pages pages log_bytes image)
    none_stored-prefixes first records = subst (EachHoldsPrefix (heap_origin pages first) records) (sym none_stored) (first_pages-prefixes pages first records)
