-- A store, from the bytes that it writes to the pages of the image.
use Rattle.std.proofs.Common.{◌≡◌, ◌≢◌, ◌⊎◌, ℕ, ◌+◌, ◌-◌, ◌*◌, ◌^◌, ◌<◌, ◌≤◌, List, [], ◌∷◌, length, get_or, set, Some, refl, sym, ap, ◌∙◌, subst, inl, inr, arith}
use Rattle.std.specs.Prelude.{min}
use Rattle.std.proofs.lemmas.Bool.{eq-eqb, ne_eqb, cases_eq, cond-true, cond-false}
use Rattle.std.proofs.lemmas.List.{ext_get_or, get_or-set_same, get_or-set_other}
use Rattle.disk_model.specs.Disk.{overwrite, part}
use Rattle.gate_slot.specs.Gate.{IsOpen, IsOutside, filled, closed, SameButGate, IsFilling}
use Rattle.gate_slot.proofs.GateLaws.{length_filled, filled_outside, filled_next}
use Rattle.gate_slot.proofs.ImageLaws.{same_part, part_overwrite, torn_overwrite, torn_outside, length_overwrite}
use Rattle.image_plan.specs.Plan.{frame_offset}
use Rattle.image_plan.specs.declared.plan.Plan.{Plan}
use Rattle.page_store.specs.declared.store.PageStore.{PageStore}
use Rattle.page_store.specs.declared.frame.Stored.{Stored}
use Rattle.page_store.specs.declared.frame.Frame.{Frame}
use Rattle.page_store.specs.declared.frame.Frame.TheVariants.{First, Second}
use Rattle.page_store.specs.Frame.{frame_body, frame_bytes, spare}
use Rattle.page_store.specs.Page.{frame_place, frame_of, page_frame, page_lsn, HasPage, SamePage, SameButPage, IsStoring}
use Rattle.page_store.proofs.PairLaws.{other}
use Rattle.page_store.specs.Gates.{open_gates}
use Rattle.page_store.proofs.GateLaws.{gate_byte, gates_stored}
use Rattle.page_store.proofs.PageLaws.{same_page, other_pages, other_counts, spare_closed, spare_counts, spare_written}
use Rattle.page_store.specs.Reading.{nothing_stored}
use Rattle.page_store.specs.Refill.{IsRefilling}
use Rattle.page_store.specs.StoreState.{store_log, store_pages, stored_entry, Knows}
use Rattle.page_store.proofs.WordLaws.{length-frame_body}

-- new has the size of old, and the same bytes but for those of one frame
pub record SameButFrame (log_bytes p : ℕ) (frame : Frame) (old new : List ℕ) : Type 0 where
  pub size : length new ≡ length old
  pub others : (i : ℕ) → IsOutside (frame_place log_bytes p frame) 528 i → get_or new i 0 ≡ get_or old i 0

-- the other frame of the page lies outside
beside : (log_bytes p i : ℕ) (frame : Frame) → frame_place log_bytes p (other frame) ≤ i → i < frame_place log_bytes p (other frame) + 528 → IsOutside (frame_place log_bytes p frame) 528 i
beside log_bytes p i First above below = inr (omega arith)
beside log_bytes p i Second above below = inl (omega arith)

-- and so does all that is not of the page
around : (log_bytes p i : ℕ) (frame : Frame) → (i < frame_offset log_bytes p 0) ⊎ (frame_offset log_bytes (p + 1) 0 ≤ i) → IsOutside (frame_place log_bytes p frame) 528 i
around log_bytes p i First (inl before) = inl (omega arith)
around log_bytes p i First (inr behind) = inr (omega arith)
around log_bytes p i Second (inl before) = inl (omega arith)
around log_bytes p i Second (inr behind) = inr (omega arith)

module _ (log_bytes p : ℕ) (frame : Frame) where
  abbrev gate : ℕ
  gate = frame_place log_bytes p frame

  pub none_written : (image : List ℕ) → SameButFrame log_bytes p frame image image
  none_written image = record { size = refl; others = λ i outside. refl }

  pub both_written : (old mid new : List ℕ) → SameButFrame log_bytes p frame old mid → SameButFrame log_bytes p frame mid new → SameButFrame log_bytes p frame old new
  both_written old mid new first second = record { size = second.size ∙ first.size; others = λ i outside. second.others i outside ∙ first.others i outside }

  -- the gate is a byte of the frame
  pub gate_written : (old new : List ℕ) → SameButGate gate old new → SameButFrame log_bytes p frame old new
  gate_written old new same = record { size = same.size; others = λ i outside. same.others i (apart i outside) }
    where
      apart : (i : ℕ) → IsOutside gate 528 i → i ≢ gate
      apart i (inl before) is = omega (arith, is)
      apart i (inr behind) is = omega (arith, is)

  -- so are the bytes behind it
  inside : (i : ℕ) → IsOutside gate 528 i → (i ≢ gate) × IsOutside (gate + 1) 527 i
  inside i (inl before) = (λ is. omega (arith, is), inl (omega arith))
  inside i (inr behind) = (λ is. omega (arith, is), inr (omega arith))

  pub frame_filling : (body seen old new : List ℕ) → length body ≡ 527 → IsFilling gate (gate + 1) body seen old new → SameButFrame log_bytes p frame old new
  frame_filling body seen old new size filling = record {
    size = filling.size;
    others = λ i outside. let at = inside i outside in filling.others i at.0 (subst (λ (n : ℕ). IsOutside (gate + 1) n i) (sym size) at.1);
  }

  pub frame_filled : (body image : List ℕ) → length body ≡ 527 → gate + 528 ≤ length image → SameButFrame log_bytes p frame image (filled gate (gate + 1) body image)
  frame_filled body image size fits = record {
    size = length_filled gate (gate + 1) body image (omega arith) (omega (arith, size));
    others = λ i outside. let at = inside i outside in filled_outside gate (gate + 1) body image (omega arith) (omega (arith, size)) i at.0 (subst (λ (n : ℕ). IsOutside (gate + 1) n i) (sym size) at.1);
  }

  -- the frame then holds what was written
  pub frame_has : (body image : List ℕ) → length body ≡ 527 → gate + 528 ≤ length image → frame_of log_bytes p (filled gate (gate + 1) body image) frame ≡ 1 ∷ body
  frame_has body image size fits =
      let all : 528 ≡ length (1 ∷ body) = omega (arith, size) in
      ap (λ (l : List ℕ). part l gate 528) (filled_next gate body image (omega (arith, size)))
      ∙ ap (λ (n : ℕ). part (overwrite image gate (1 ∷ body)) gate n) all
      ∙ part_overwrite image (1 ∷ body) gate (omega (arith, size))

  module _ (old new : List ℕ) (but : SameButFrame log_bytes p frame old new) where
    -- all but the page is as it was
    pub only_page : SameButPage log_bytes p old new
    only_page = record {
      size = but.size;
      before = λ i before. but.others i (around log_bytes p i frame (inl before));
      behind = λ i behind. but.others i (around log_bytes p i frame (inr behind));
    }

    -- and so is the page's other frame
    other_stands : frame_of log_bytes p new (other frame) ≡ frame_of log_bytes p old (other frame)
    other_stands = same_part (frame_place log_bytes p (other frame)) 528 old new but.size (λ i above below. but.others i (beside log_bytes p i frame above below))

    -- while the spare frame is closed the page stays as it was
    pub page_stays : frame ≡ spare (page_frame log_bytes p old) → get_or new gate 0 ≢ 1 → SamePage log_bytes p old new
    page_stays spare_is shut = spare_closed log_bytes p frame old new spare_is other_stands (ne_eqb _ _ (λ one. shut (sym (gate_byte log_bytes p frame new) ∙ one)))

  -- the gate is closed if it is open
  pub closed_but : (image : List ℕ) → gate + 528 ≤ length image → SameButFrame log_bytes p frame image (closed gate image)
  closed_but image fits = elim (cases_eq (get_or image gate 0) 1) [
    | inl is_open ↦ subst (λ (l : List ℕ). SameButFrame log_bytes p frame image l) (sym (cond-true _ (overwrite image gate (0 ∷ [])) image (eq-eqb _ _ is_open))) zeroed
    | inr shut ↦ subst (λ (l : List ℕ). SameButFrame log_bytes p frame image l) (sym (cond-false _ (overwrite image gate (0 ∷ [])) image (ne_eqb _ _ shut))) (none_written image)
  ]
    where
      outside_gate : (i : ℕ) → IsOutside gate 528 i → IsOutside gate 1 i
      outside_gate i (inl before) = inl before
      outside_gate i (inr behind) = inr (omega arith)

      zeroed : SameButFrame log_bytes p frame image (overwrite image gate (0 ∷ []))
      zeroed = record {
        size = length_overwrite image (0 ∷ []) gate (omega arith);
        others = λ i outside. torn_outside gate 1 i image (overwrite image gate (0 ∷ [])) (torn_overwrite image (0 ∷ []) gate (omega arith)) (outside_gate i outside);
      }

  -- an image that has all bytes but the gate of another, and the same gate
  same_gate : (old new : List ℕ) → SameButGate gate old new → get_or new gate 0 ≡ get_or old gate 0 → new ≡ old
  same_gate old new same is = ext_get_or 0 new old same.size (λ i within. elim (cases_eq i gate) [
    | inl here ↦ subst (λ (k : ℕ). get_or new k 0 ≡ get_or old k 0) (sym here) is
    | inr apart ↦ same.others i apart
  ])

  module _ (old : List ℕ) (fits : gate + 528 ≤ length old) (lsn : ℕ) (words : List ℕ) (size : length words ≡ 64) where
    abbrev body : List ℕ
    body = frame_body lsn words

    long : length body ≡ 527
    long = length-frame_body lsn words size

    -- the image with the page stored in this frame
    abbrev pub stored_image : List ℕ
    stored_image = filled gate (gate + 1) body (closed gate old)

    pub written_but : SameButFrame log_bytes p frame old stored_image
    written_but = both_written old (closed gate old) _ (closed_but old fits) (frame_filled body (closed gate old) long (omega (arith, (closed_but old fits).size, fits)))

    pub written_has : frame_of log_bytes p stored_image frame ≡ frame_bytes lsn words
    written_has = frame_has body (closed gate old) long (omega (arith, (closed_but old fits).size, fits))

    pub written_outside : SameButPage log_bytes p old stored_image
    written_outside = only_page old stored_image written_but

    -- of two gates at most, one more is open
    pub written_gates : frame ≡ spare (page_frame log_bytes p old) → open_gates log_bytes stored_image p ≡ min 2 (open_gates log_bytes old p + 1)
    written_gates spare_is = gates_stored log_bytes p frame old stored_image spare_is (other_stands old stored_image written_but) (eq-eqb _ _ (ap (λ (l : List ℕ). get_or l 0 0) written_has))

    -- under the names that the code has for the gate and the body
    pub is_stored_image : (at : ℕ) (bytes new : List ℕ) → at ≡ gate → bytes ≡ body → new ≡ filled at (at + 1) bytes (closed at old) → new ≡ stored_image
    is_stored_image at bytes new at_is bytes_are is = is ∙ ap (λ (k : ℕ). filled k (k + 1) bytes (closed k old)) at_is ∙ ap (λ (l : List ℕ). filled gate (gate + 1) l (closed gate old)) bytes_are

    module _ (spare_is : frame ≡ spare (page_frame log_bytes p old)) (small : lsn < 2 ^ 64) (greater : page_lsn log_bytes p old < lsn) (fit : (k : ℕ) → get_or words k 0 < 2 ^ 64) where
      pub written_page : HasPage log_bytes p lsn words stored_image
      written_page = spare_written log_bytes p frame old stored_image spare_is (other_stands old stored_image written_but) lsn words small greater size fit written_has

      pub written_frame : page_frame log_bytes p stored_image ≡ Some frame
      written_frame = spare_counts log_bytes p frame old stored_image spare_is (other_stands old stored_image written_but) lsn words small greater size fit written_has

      -- a crash leaves such an image
      abbrev Left : List ℕ → Type 0
      Left c = IsStoring log_bytes p lsn words old c

      left_old : (c : List ℕ) → SameButFrame log_bytes p frame old c → SamePage log_bytes p old c → Left c
      left_old c but same = record { page = inl same; others = other_pages log_bytes p old c (only_page old c but); outside = only_page old c but }

      left_alone : (c : List ℕ) → c ≡ old → Left c
      left_alone c same = subst Left (sym same) (left_old old (none_written old) (same_page log_bytes p old old (λ f. refl)))

      -- while the open gate of the spare frame is closed
      left_closing : (c : List ℕ) → IsOpen gate old → SameButGate gate old c → Left c
      left_closing c is_open same = elim (cases_eq (get_or c gate 0) 1) [
        | inl still ↦ left_alone c (same_gate old c same (still ∙ sym is_open))
        | inr shut ↦ left_old c (gate_written old c same) (page_stays old c (gate_written old c same) spare_is shut)
      ]

      -- while the bytes are written behind the closed gate, and it is opened
      left_filling : (c : List ℕ) → IsFilling gate (gate + 1) body (closed gate old) (closed gate old) c → Left c
      left_filling c filling = elim (cases_eq (get_or c gate 0) 1) [
        | inl is_open ↦ subst Left (sym (filling.whole is_open)) (record { page = inr written_page; others = other_pages log_bytes p old _ written_outside; outside = written_outside })
        | inr shut ↦ left_old c but (page_stays old c but spare_is shut)
      ]
        where
          but : SameButFrame log_bytes p frame old c
          but = both_written old (closed gate old) c (closed_but old fits) (frame_filling body (closed gate old) (closed gate old) c long filling)

      left_by_gate : (c : List ℕ) → IsRefilling gate body old c → Left c
      left_by_gate c (inl same) = left_alone c same
      left_by_gate c (inr (inl gate_closes)) = left_closing c gate_closes.0 gate_closes.1
      left_by_gate c (inr (inr filling)) = left_filling c filling

      pub left_by : (at : ℕ) (bytes c : List ℕ) → at ≡ gate → bytes ≡ body → IsRefilling at bytes old c → Left c
      left_by at bytes c at_is bytes_are refilling =
          left_by_gate c (subst (λ (l : List ℕ). IsRefilling gate l old c) bytes_are (subst (λ (k : ℕ). IsRefilling k bytes old c) at_is refilling))

-- the entry of page q after page p was stored
abbrev now_at : PageStore → ℕ → ℕ → Frame → ℕ → Stored
now_at store p lsn frame q = get_or (set store.table.items p (record { lsn = lsn; counts = Some frame })) q nothing_stored

-- The table knows the image with the stored page, if it has its entry.
pub knows_stored : (store new : PageStore) (p lsn : ℕ) (frame : Frame) (old image : List ℕ) → Knows store old → new.plan ≡ store.plan → new.table.items ≡ set store.table.items p (record { lsn = lsn; counts = Some frame }) → p < length store.table.items
    → page_lsn (store_log store) p image ≡ lsn → page_frame (store_log store) p image ≡ Some frame → SameButPage (store_log store) p old image → Knows new image
knows_stored store new p lsn frame old image knows plan items inside lsn_is frame_is but = record {
  lsns = λ q below. ap (λ (e : Stored). e.lsn) (entry q) ∙ at_lsn q (subst (λ (s : Plan). q < 2 * s.pages) plan below) ∙ ap (λ (s : Plan). page_lsn s.log_bytes q image) (sym plan);
  frames = λ q below. ap (λ (e : Stored). e.counts) (entry q) ∙ at_frame q (subst (λ (s : Plan). q < 2 * s.pages) plan below) ∙ ap (λ (s : Plan). page_frame s.log_bytes q image) (sym plan);
}
  where
    entry : (q : ℕ) → stored_entry new q ≡ now_at store p lsn frame q
    entry q = ap (λ (l : List Stored). get_or l q nothing_stored) items

    here : (q : ℕ) → q ≡ p → now_at store p lsn frame q ≡ record { lsn = lsn; counts = Some frame }
    here q same = ap (now_at store p lsn frame) same ∙ get_or-set_same store.table.items p (record { lsn = lsn; counts = Some frame }) nothing_stored inside

    elsewhere : (q : ℕ) → q ≢ p → now_at store p lsn frame q ≡ stored_entry store q
    elsewhere q apart = get_or-set_other store.table.items p q (record { lsn = lsn; counts = Some frame }) nothing_stored apart

    at_lsn : (q : ℕ) → q < store_pages store → (now_at store p lsn frame q).lsn ≡ page_lsn (store_log store) q image
    at_lsn q below = elim (cases_eq q p) [
      | inl same ↦ ap (λ (e : Stored). e.lsn) (here q same) ∙ sym lsn_is ∙ ap (λ (k : ℕ). page_lsn (store_log store) k image) (sym same)
      | inr apart ↦ ap (λ (e : Stored). e.lsn) (elsewhere q apart) ∙ knows.lsns q below ∙ sym (other_pages (store_log store) p old image but q apart).lsn_is
    ]

    at_frame : (q : ℕ) → q < store_pages store → (now_at store p lsn frame q).counts ≡ page_frame (store_log store) q image
    at_frame q below = elim (cases_eq q p) [
      | inl same ↦ ap (λ (e : Stored). e.counts) (here q same) ∙ sym frame_is ∙ ap (λ (k : ℕ). page_frame (store_log store) k image) (sym same)
      | inr apart ↦ ap (λ (e : Stored). e.counts) (elsewhere q apart) ∙ knows.frames q below ∙ sym (other_counts (store_log store) p old image but q apart)
    ]
