-- What happens to an image's pages when bytes of it are written.
use Rattle.std.specs.Prelude.{◌≡◌, ◌≢◌, ◌⊎◌, ℕ, ◌+◌, ◌^◌, ◌<◌, ◌≤◌, false, List, length, take, Some}
use Rattle.std.proofs.Common.{refl, sym, ap, ◌∙◌, inl, inr, get_or, subst, arith}
use Rattle.std.proofs.lemmas.Bool.{cases_lt, eq-eqb}
use Rattle.disk_model.specs.Disk.{part, SameOutside}
use Rattle.gate_slot.proofs.ImageLaws.{same_part}
use Rattle.image_plan.specs.Plan.{log_offset, frame_offset}
use Rattle.page_store.specs.declared.frame.Frame.{Frame}
use Rattle.page_store.specs.declared.frame.Frame.TheVariants.{First, Second}
use Rattle.page_store.specs.Frame.{frame_bytes, is_frame_open, frame_lsn, frame_words, counting, bytes_of, lsn_in, words_or, spare}
use Rattle.page_store.specs.Page.{frame_place, frame_of, page_frame, page_lsn, first_words, HasPage, SamePage, SameButPage}
use Rattle.page_store.proofs.PairLaws.{other, CountsNow, closed_spare, opened_spare}
use Rattle.page_store.proofs.WordLaws.{frame_lsn-written, frame_words-written}

-- one of a page's two frames, by its name
named : (log_bytes p : ℕ) (image : List ℕ) (frame : Frame) → bytes_of (frame_of log_bytes p image First) (frame_of log_bytes p image Second) frame ≡ frame_of log_bytes p image frame
named log_bytes p image First = refl
named log_bytes p image Second = refl

module _ (log_bytes : ℕ) where
  -- a page depends on the bytes of its two frames alone
  pub same_page : (p : ℕ) (old new : List ℕ) → ((frame : Frame) → frame_of log_bytes p new frame ≡ frame_of log_bytes p old frame) → SamePage log_bytes p old new
  same_page p old new same = record {
    lsn_is = ap (λ (l : List ℕ). lsn_in l (frame_of log_bytes p new Second)) (same First) ∙ ap (λ (l : List ℕ). lsn_in (frame_of log_bytes p old First) l) (same Second);
    words_are = ap (λ (l : List ℕ). words_or (first_words p) l (frame_of log_bytes p new Second)) (same First) ∙ ap (λ (l : List ℕ). words_or (first_words p) (frame_of log_bytes p old First) l) (same Second);
  }

  -- and so does which frame counts
  pub same_frame : (p : ℕ) (old new : List ℕ) → ((frame : Frame) → frame_of log_bytes p new frame ≡ frame_of log_bytes p old frame) → page_frame log_bytes p new ≡ page_frame log_bytes p old
  same_frame p old new same =
      ap (λ (l : List ℕ). counting l (frame_of log_bytes p new Second)) (same First) ∙ ap (λ (l : List ℕ). counting (frame_of log_bytes p old First) l) (same Second)

  -- frames of other pages lie elsewhere
  pub frames_apart : (p q i : ℕ) (frame : Frame) → q ≢ p → frame_place log_bytes q frame ≤ i → i < frame_place log_bytes q frame + 528 → (i < frame_offset log_bytes p 0) ⊎ (frame_offset log_bytes (p + 1) 0 ≤ i)
  frames_apart p q i First apart above below = elim (cases_lt q p) [ inl less ↦ inl (omega arith) | inr more ↦ inr (omega arith) ]
  frames_apart p q i Second apart above below = elim (cases_lt q p) [ inl less ↦ inl (omega arith) | inr more ↦ inr (omega arith) ]

  module _ (p : ℕ) (old new : List ℕ) (but : SameButPage log_bytes p old new) where
    -- if only bytes of page p differ, every other frame is the same
    pub other_frames : (q : ℕ) → q ≢ p → (frame : Frame) → frame_of log_bytes q new frame ≡ frame_of log_bytes q old frame
    other_frames q apart frame =
        same_part (frame_place log_bytes q frame) 528 old new but.size (λ i above below. elim (frames_apart p q i frame apart above below) [ inl before ↦ but.before i before | inr behind ↦ but.behind i behind ])

    -- and so is every other page
    pub other_pages : (q : ℕ) → q ≢ p → SamePage log_bytes q old new
    other_pages q apart = same_page q old new (other_frames q apart)

    pub other_counts : (q : ℕ) → q ≢ p → page_frame log_bytes q new ≡ page_frame log_bytes q old
    other_counts q apart = same_frame q old new (other_frames q apart)

    -- and so are all bytes before the page, those of the superblock and the log among them
    pub part_before : (at n : ℕ) → at + n ≤ frame_offset log_bytes p 0 → part new at n ≡ part old at n
    part_before at n before = same_part at n old new but.size (λ i above below. but.before i (omega arith))

    -- so the superblock is as it was
    pub same_superblock : take log_offset new ≡ take log_offset old
    same_superblock = part_before 0 log_offset (omega arith)

    -- and the log
    pub same_log : part new log_offset log_bytes ≡ part old log_offset log_bytes
    same_log = part_before log_offset log_bytes (omega arith)

  module _ (old new : List ℕ) (behind : SameOutside log_offset (log_offset + log_bytes) old new) where
    -- if only bytes of the log differ, every frame is the same
    pub frames_behind_log : (p : ℕ) (frame : Frame) → frame_of log_bytes p new frame ≡ frame_of log_bytes p old frame
    frames_behind_log p frame = same_part (frame_place log_bytes p frame) 528 old new behind.size (λ i above below. behind.behind i (omega arith))

    -- and so is every page
    pub pages_behind_log : (p : ℕ) → SamePage log_bytes p old new
    pages_behind_log p = same_page p old new (frames_behind_log p)

  -- a page with two closed frames was never stored
  pub never_stored : (p : ℕ) (image : List ℕ) → is_frame_open (frame_of log_bytes p image First) ≡ false → is_frame_open (frame_of log_bytes p image Second) ≡ false → HasPage log_bytes p 0 (first_words p) image
  never_stored p image shut shut' = record { lsn_is = rw (shut, shut') refl; words_are = rw (shut, shut') refl }

  -- The frame that doesn't count is written, and the other one stays.
  module _ (p : ℕ) (frame : Frame) (old new : List ℕ) (spare_is : frame ≡ spare (page_frame log_bytes p old)) (stands : frame_of log_bytes p new (other frame) ≡ frame_of log_bytes p old (other frame)) where
    other_stands : bytes_of (frame_of log_bytes p new First) (frame_of log_bytes p new Second) (other frame) ≡ bytes_of (frame_of log_bytes p old First) (frame_of log_bytes p old Second) (other frame)
    other_stands = named log_bytes p new (other frame) ∙ stands ∙ sym (named log_bytes p old (other frame))

    -- while it is closed, the page stays as it was
    pub spare_closed : is_frame_open (frame_of log_bytes p new frame) ≡ false → SamePage log_bytes p old new
    spare_closed shut =
        let same = closed_spare (first_words p) _ _ _ _ frame spare_is other_stands (ap is_frame_open (named log_bytes p new frame) ∙ shut) in
        record { lsn_is = same.lsns; words_are = same.words_are }

    module _ (lsn : ℕ) (words : List ℕ) (small : lsn < 2 ^ 64) (greater : page_lsn log_bytes p old < lsn) (size : length words ≡ 64) (fit : (k : ℕ) → get_or words k 0 < 2 ^ 64)
        (written : frame_of log_bytes p new frame ≡ frame_bytes lsn words) where
      named_written : bytes_of (frame_of log_bytes p new First) (frame_of log_bytes p new Second) frame ≡ frame_bytes lsn words
      named_written = named log_bytes p new frame ∙ written

      lsn_written : frame_lsn (bytes_of (frame_of log_bytes p new First) (frame_of log_bytes p new Second) frame) ≡ lsn
      lsn_written = ap frame_lsn named_written ∙ frame_lsn-written lsn words small

      counts : CountsNow (first_words p) (frame_of log_bytes p new First) (frame_of log_bytes p new Second) frame
      counts =
          opened_spare (first_words p) (frame_of log_bytes p old First) (frame_of log_bytes p old Second) _ _ frame spare_is other_stands (eq-eqb _ _ (ap (λ (l : List ℕ). get_or l 0 0) named_written))
          (subst (λ (n : ℕ). page_lsn log_bytes p old < n) (sym lsn_written) greater)

      -- written with an LSN above the page's, it counts from then on
      pub spare_counts : page_frame log_bytes p new ≡ Some frame
      spare_counts = counts.counts

      -- and the page is what was written
      pub spare_written : HasPage log_bytes p lsn words new
      spare_written = record {
        lsn_is = counts.lsn_is ∙ lsn_written;
        words_are = counts.words_are ∙ ap frame_words named_written ∙ frame_words-written lsn words size fit;
      }
