-- Laws of how many gates of a page's two frames are open.
use Rattle.std.specs.Prelude.{◌≡◌, ◌≢◌, ℕ, ◌+◌, ◌==◌, nat_lt, min, Bool, true, false, List, slice_index, Some, if◌then◌else◌}
use Rattle.std.proofs.Common.{refl, sym, ap, ◌∙◌, arith}
use Rattle.disk_model.specs.Disk.{SameOutside}
use Rattle.gate_slot.proofs.ImageLaws.{part_index}
use Rattle.image_plan.specs.Plan.{log_offset}
use Rattle.page_store.specs.declared.frame.Frame.{Frame}
use Rattle.page_store.specs.declared.frame.Frame.TheVariants.{First, Second}
use Rattle.page_store.specs.Frame.{is_frame_open, frame_lsn, newest, spare}
use Rattle.page_store.specs.Page.{frame_place, frame_of, page_frame, SameButPage, store_calls}
use Rattle.page_store.proofs.PairLaws.{other}
use Rattle.page_store.proofs.PageLaws.{other_frames, frames_behind_log}
use Rattle.page_store.specs.Gates.{one_if, open_gates}

-- whether the gate of a frame of page p is open
abbrev pub is_gate_open : ℕ → ℕ → List ℕ → Frame → Bool
is_gate_open log_bytes p image frame = is_frame_open (frame_of log_bytes p image frame)

-- if only bytes of the log differ, all gates of frames are as they were
pub gates_behind_log : (log_bytes : ℕ) (old new : List ℕ) → SameOutside log_offset (log_offset + log_bytes) old new → (p : ℕ) → open_gates log_bytes new p ≡ open_gates log_bytes old p
gates_behind_log log_bytes old new behind p =
    let same = frames_behind_log log_bytes old new behind p in
    ap (λ (l : List ℕ). one_if (is_frame_open l) + one_if (is_gate_open log_bytes p new Second)) (same First)
    ∙ ap (λ (l : List ℕ). one_if (is_gate_open log_bytes p old First) + one_if (is_frame_open l)) (same Second)

-- a frame's gate is the image's byte
pub gate_byte : (log_bytes p : ℕ) (frame : Frame) (image : List ℕ) → slice_index (frame_of log_bytes p image frame) 0 ≡ slice_index image (frame_place log_bytes p frame)
gate_byte log_bytes p frame image =
    let at = frame_place log_bytes p frame in
    let here : at + 0 ≡ at = omega arith in
    part_index image at 528 0 (omega arith) ∙ ap (λ (k : ℕ). slice_index image k) here

-- the first frame is opened if it is the spare one
first_opened : (o o' : Bool) (lsn lsn' : ℕ) → spare (newest o o' lsn lsn') ≡ First → 1 + one_if o' ≡ min 2 (one_if o + one_if o' + 1)
first_opened false false lsn lsn' is = refl
first_opened true false lsn lsn' is = absurd (cc is)
first_opened false true lsn lsn' is = refl
first_opened true true lsn lsn' is = refl

-- and the second
second_opened : (o o' : Bool) (lsn lsn' : ℕ) → spare (newest o o' lsn lsn') ≡ Second → one_if o + 1 ≡ min 2 (one_if o + one_if o' + 1)
second_opened false false lsn lsn' is = absurd (cc is)
second_opened true false lsn lsn' is = refl
second_opened false true lsn lsn' is = absurd (cc is)
second_opened true true lsn lsn' is = refl

-- the writes and syncs of a store, by whether the gate that it opens is open before
abbrev calls_if : Bool → ℕ
calls_if opened = if opened then 6 else 4

-- the spare frame is open exactly if both are
spare_calls : (o o' : Bool) (lsn lsn' : ℕ) (at : Frame → Bool) → at First ≡ o → at Second ≡ o'
    → calls_if (at (spare (newest o o' lsn lsn'))) ≡ (if nat_lt (one_if o + one_if o') 2 then 4 else 6)
spare_calls false false lsn lsn' at first second = ap calls_if first
spare_calls true false lsn lsn' at first second = ap calls_if second
spare_calls false true lsn lsn' at first second = ap calls_if first
spare_calls true true lsn lsn' at first second = by_test (nat_lt lsn lsn')
  where
    by_test : (less : Bool) → calls_if (at (spare (if less then Some Second else Some First))) ≡ 6
    by_test true = ap calls_if first
    by_test false = ap calls_if second

module _ (log_bytes p : ℕ) where
  -- the writes and syncs of a store of page p, by how many of its gates are open
  pub calls_by_gates : (image : List ℕ) → store_calls log_bytes p (spare (page_frame log_bytes p image)) image ≡ (if nat_lt (open_gates log_bytes image p) 2 then 4 else 6)
  calls_by_gates image =
      let lsn : Frame → ℕ = λ frame. frame_lsn (frame_of log_bytes p image frame) in
      ap (λ (byte : ℕ). calls_if (byte == 1)) (sym (gate_byte log_bytes p (spare (page_frame log_bytes p image)) image))
      ∙ spare_calls (is_gate_open log_bytes p image First) (is_gate_open log_bytes p image Second) (lsn First) (lsn Second) (is_gate_open log_bytes p image) refl refl

  -- if only bytes of page p differ, the gates of every other page are as they were
  pub other_gates : (old new : List ℕ) → SameButPage log_bytes p old new → (q : ℕ) → q ≢ p → open_gates log_bytes new q ≡ open_gates log_bytes old q
  other_gates old new but q apart =
      let same = other_frames log_bytes p old new but q apart in
      ap (λ (l : List ℕ). one_if (is_frame_open l) + one_if (is_gate_open log_bytes q new Second)) (same First)
      ∙ ap (λ (l : List ℕ). one_if (is_gate_open log_bytes q old First) + one_if (is_frame_open l)) (same Second)

  -- when the spare frame is opened and the other one stays, one more gate is open than before, and two at most
  pub gates_stored : (frame : Frame) (old new : List ℕ) → frame ≡ spare (page_frame log_bytes p old) → frame_of log_bytes p new (other frame) ≡ frame_of log_bytes p old (other frame)
      → is_frame_open (frame_of log_bytes p new frame) ≡ true → open_gates log_bytes new p ≡ min 2 (open_gates log_bytes old p + 1)
  gates_stored First old new spare_is stands opened =
      ap (λ (b : Bool). one_if b + one_if (is_gate_open log_bytes p new Second)) opened
      ∙ ap (λ (l : List ℕ). 1 + one_if (is_frame_open l)) stands
      ∙ first_opened (is_gate_open log_bytes p old First) (is_gate_open log_bytes p old Second) (frame_lsn (frame_of log_bytes p old First)) (frame_lsn (frame_of log_bytes p old Second)) (sym spare_is)
  gates_stored Second old new spare_is stands opened =
      ap (λ (b : Bool). one_if (is_gate_open log_bytes p new First) + one_if b) opened
      ∙ ap (λ (l : List ℕ). one_if (is_frame_open l) + 1) stands
      ∙ second_opened (is_gate_open log_bytes p old First) (is_gate_open log_bytes p old Second) (frame_lsn (frame_of log_bytes p old First)) (frame_lsn (frame_of log_bytes p old Second)) (sym spare_is)
