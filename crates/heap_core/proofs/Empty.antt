-- An empty heap, as it is written over an image.
use Rattle.std.proofs.Common.{lit<, false, ◌≡◌, ◌⊎◌, inl, inr, ⊎_elim, ℕ, ◌+◌, ◌-◌, ◌*◌, ◌<◌, ◌≤◌, List, [], ◌∷◌, ◌++◌, length, get_or, take, drop, slice_index, ◌==◌, if◌then◌else◌, Result, Err, refl, sym, ◌∙◌, ap, subst, arith, append_assoc, length-append, length-drop}
use Rattle.std.proofs.lemmas.Bool.{cases_eq}
use Rattle.std.proofs.lemmas.Grind.{same_number_lists}
use Rattle.std.proofs.lemmas.List.{take_at, drop_at, drop_more, get_or-drop, length-take-le}
use Rattle.counts.specs.Count.{counted}
use Rattle.disk_model.specs.declared.disk.DiskError.{DiskError}
use Rattle.disk_model.specs.Disk.{part, Only, SameOutside}
use Rattle.disk_model.specs.Moments.{LeavesOnly}
use Rattle.disk_model.proofs.MomentLaws.{weaker, joined}
use Rattle.gate_slot.specs.Gate.{filled, IsGateClosed, SameButGate, IsFilling}
use Rattle.gate_slot.proofs.ImageLaws.{part_index}
use Rattle.gate_slot.specs.Passing.{Passes}
use Rattle.gate_slot.proofs.PassingLaws.{counted-add, joined as then_all, cut_short}
use Rattle.gated_log.specs.Log.{HoldsBatches}
use Rattle.image_plan.specs.declared.superblock.Super.{Super}
use Rattle.image_plan.specs.Plan.{image_size, frame_offset}
use Rattle.image_plan.specs.Super.{IsSuper, superblock}
use Rattle.heap_core.proofs.Calls.{then_err}
use Rattle.heap_core.specs.Format.{AreZero, IsEmptyHeap, IsFormatting, zero_writes, format_calls}
use Rattle.heap_model.proofs.Opening.New.{new_legal}
use Rattle.page_redo.specs.Pages.{pages_in}
use Rattle.page_store.specs.declared.frame.Frame.{Frame}
use Rattle.page_store.specs.declared.frame.Frame.TheVariants.{First, Second}
use Rattle.page_store.specs.Frame.{is_frame_open}
use Rattle.page_store.specs.Page.{frame_of}
use Rattle.page_cache.proofs.ImageLaws.{none_stored}
use Rattle.heap_model.specs.Image.{IsLegal}
use Rattle.heap_model.specs.NewHeap.{new_heap}

-- what is written over the start of an image, after its first byte
put_front : (t image : List ℕ) → length t ≡ 63 → 64 ≤ length image → filled 0 1 t image ≡ 1 ∷ t ++ drop 64 image
put_front t image size long =
    let one : length (take 1 image) ≡ 1 = length-take-le 1 image (omega arith) in
    let end : 1 + length t ≡ 64 = omega arith in
    ap (λ (l : List ℕ). 1 ∷ l) (ap (λ (l : List ℕ). drop 1 l) (append_assoc (take 1 image) t (drop (1 + length t) image))
    ∙ drop_at (take 1 image) (t ++ drop (1 + length t) image) 1 one
    ∙ ap (λ (k : ℕ). t ++ drop k image) end)

module _ (s : Super) (image : List ℕ) (large : image_size s.pages s.log_bytes ≤ length image) where
  size : length (superblock s) ≡ 64
  size = refl

  -- the superblock stands in front, and what follows it stays
  pub front : filled 0 1 (drop 1 (superblock s)) image ≡ superblock s ++ drop 64 image
  front = put_front (drop 1 (superblock s)) image refl (omega arith)

  behind : drop 64 (filled 0 1 (drop 1 (superblock s)) image) ≡ drop 64 image
  behind = ap (λ (l : List ℕ). drop 64 l) front ∙ drop_at (superblock s) (drop 64 image) 64 size

  pub behind_at : (i : ℕ) → 64 ≤ i → get_or (filled 0 1 (drop 1 (superblock s)) image) i 0 ≡ get_or image i 0
  behind_at i le =
      let k = i - 64 in
      let is : 64 + k ≡ i = omega arith in
      subst (λ (j : ℕ). get_or (filled 0 1 (drop 1 (superblock s)) image) j 0 ≡ get_or image j 0) is
      (sym (get_or-drop 64 (filled 0 1 (drop 1 (superblock s)) image) k 0) ∙ ap (λ (l : List ℕ). get_or l k 0) behind ∙ get_or-drop 64 image k 0)

  pub long : length (filled 0 1 (drop 1 (superblock s)) image) ≡ length image
  long = ap length front ∙ omega (arith, length-append (superblock s) (drop 64 image), size, length-drop 64 image, large)

  zero_log : IsSuper s → AreZero 64 (image_size s.pages s.log_bytes) image → HoldsBatches (part image 64 s.log_bytes) []
  zero_log good zero =
      let first : get_or image 64 0 ≡ 0 = zero 64 (omega arith) (omega (arith, good.some_log)) in
      let area : drop 64 image ≡ get_or image 64 0 ∷ drop 65 image = drop_more image 64 0 (omega (arith, large, good.some_log)) in
      let n = s.log_bytes - 1 in
      let count : s.log_bytes ≡ n + 1 = omega (arith, good.some_log) in
      record {
        gate = get_or image 64 0;
        rest = take n (drop 65 image);
        bytes = ap (λ (l : List ℕ). take s.log_bytes l) area ∙ ap (λ (k : ℕ). take k (get_or image 64 0 ∷ drop 65 image)) count ∙ grind arith;
        shut = λ is_open. absurd (omega (arith, first, is_open));
      }

  -- the gates of all frames are closed
  gate_shut : AreZero 64 (image_size s.pages s.log_bytes) image → (p f : ℕ) → p < pages_in s.pages → f ≤ 1
      → (slice_index (part (filled 0 1 (drop 1 (superblock s)) image) (frame_offset s.log_bytes p f) 528) 0 == 1) ≡ false
  gate_shut zero p f low one =
      let made = filled 0 1 (drop 1 (superblock s)) image in
      let at = frame_offset s.log_bytes p f in
      let first : at + 0 ≡ at = omega arith in
      let there : 64 + s.log_bytes + (2 * p + f) * 528 < image_size s.pages s.log_bytes = omega arith in
      ap (λ (n : ℕ). n == 1) (part_index made at 528 0 (lit< tt) ∙ ap (λ (k : ℕ). slice_index made k) first ∙ behind_at at (omega arith) ∙ zero at (omega arith) there)

  frames_shut : AreZero 64 (image_size s.pages s.log_bytes) image → (p : ℕ) → p < pages_in s.pages → (frame : Frame)
      → is_frame_open (frame_of s.log_bytes p (filled 0 1 (drop 1 (superblock s)) image) frame) ≡ false
  frames_shut zero p low First = gate_shut zero p 0 low (omega arith)
  frames_shut zero p low Second = gate_shut zero p 1 low (omega arith)

  pub empty : IsSuper s → AreZero 64 (image_size s.pages s.log_bytes) image → IsLegal (new_heap s) (filled 0 1 (drop 1 (superblock s)) image)
  empty good zero = record {
    log = new_legal s good;
    held = record {
      size = omega (arith, long, large);
      super = ap (λ (l : List ℕ). take 64 l) front ∙ take_at (superblock s) (drop 64 image) 64 size;
      log = subst (λ (l : List ℕ). HoldsBatches (take s.log_bytes l) []) (sym behind) (zero_log good zero);
      pages = none_stored s.pages s.log_bytes (filled 0 1 (drop 1 (superblock s)) image) (λ p low frame. frames_shut zero p low frame);
    };
  }

  -- and nothing else stands there
  pub empty_heap : AreZero 64 (image_size s.pages s.log_bytes) image → IsEmptyHeap s (filled 0 1 (drop 1 (superblock s)) image)
  empty_heap zero = record {
    super = ap (λ (l : List ℕ). take 64 l) front ∙ take_at (superblock s) (drop 64 image) 64 size;
    zero = λ i low high. behind_at i low ∙ zero i low high;
  }

-- an image with the gate of another open and all else equal to it is that image
same_open : (old c : List ℕ) → get_or old 0 0 ≡ 1 → get_or c 0 0 ≡ 1 → SameButGate 0 old c → c ≡ old
same_open old c was is beside = same_number_lists c old beside.size (λ k inside. elim (cases_eq k 0) [
  | inl first ↦ rw first (is ∙ sym was)
  | inr other ↦ beside.others k other
])

-- while the old gate is closed
pub closing : (s : Super) (old d c : List ℕ) → get_or old 0 0 ≡ 1 → d ≡ old → SameButGate 0 d c → IsFormatting s old c
closing s old d c was is beside = elim (cases_eq (get_or c 0 0) 1) [
  | inl is_open ↦ inr (inl (same_open old c was is_open (subst (λ (x : List ℕ). SameButGate 0 x c) is beside)))
  | inr shut ↦ inl shut
]

-- while zeros are written behind the closed gate
pub zeroing : (s : Super) (old d c : List ℕ) (end : ℕ) → IsGateClosed 0 d → SameOutside 64 end d c → IsFormatting s old c
zeroing s old d c end shut outside = inl (λ is_open. shut (sym (outside.before 0 (omega arith)) ∙ is_open))

-- while the superblock is filled in
pub filling : (s : Super) (old seen d c : List ℕ) → image_size s.pages s.log_bytes ≤ length seen → IsSuper s → AreZero 64 (image_size s.pages s.log_bytes) seen → IsFilling 0 1 (drop 1 (superblock s)) seen d c → IsFormatting s old c
filling s old seen d c large good zero fill = elim (cases_eq (get_or c 0 0) 1) [
  | inl is_open ↦ inr (inr (subst (λ (x : List ℕ). IsLegal (new_heap s) x) (sym (fill.whole is_open)) (empty s seen large good zero)))
  | inr shut ↦ inl shut
]

module _ {D : Type 0} (moment : D → ℕ) (left_since : D → ℕ → List ℕ → Type 0) where
  -- two runs, of which each leaves what has P
  pub run_then : (old mid new : D) (P : List ℕ → Type 0) → LeavesOnly moment left_since old mid P → LeavesOnly moment left_since mid new P → LeavesOnly moment left_since old new P
  run_then old mid new P first second = weaker moment left_since old new (λ c. P c ⊎ P c) P (joined moment left_since old mid new P P first second) (λ c. ⊎_elim (λ p. p) (λ p. p))

  -- while the old gate is closed, or left alone
  pub closing_run : (disk new : D) (s : Super) (old : List ℕ) (may_leave : List ℕ → Type 0) → Only old may_leave → LeavesOnly moment left_since disk new (λ c. (d : List ℕ) × may_leave d × SameButGate 0 d c) → (IsGateClosed 0 old → LeavesOnly moment left_since disk new may_leave) → LeavesOnly moment left_since disk new (IsFormatting s old)
  closing_run disk new s old may_leave only run alone = elim (cases_eq (get_or old 0 0) 1) [
    | inl is_open ↦ weaker moment left_since disk new _ (IsFormatting s old) run (λ c left. closing s old left.0 c is_open (only left.0 left.1) left.2)
    | inr shut ↦ weaker moment left_since disk new may_leave (IsFormatting s old) (alone shut) (λ c left. inr (inl (only c left)))
  ]

-- the calls of a format: those that close the gate, the zeros, and the four after them
pub made_calls : (before closed zeroed now size : ℕ) (image : List ℕ) (result : Result (Unit {0}) DiskError) → closed ≡ counted (if slice_index image 0 == 1 then 2 else 0) before
    → zeroed ≡ counted (zero_writes (size - 64)) closed → Passes 4 zeroed now result → Passes (format_calls size image) before now result
made_calls before closed zeroed now size image result first second last =
    let gate : ℕ = if slice_index image 0 == 1 then 2 else 0 in
    let both : zeroed ≡ counted (gate + zero_writes (size - 64)) before = second ∙ ap (counted (zero_writes (size - 64))) first ∙ counted-add (zero_writes (size - 64)) gate before in
    then_all (gate + zero_writes (size - 64)) 4 before zeroed now result (lit< tt) both last

-- those of one that ended while it closed the gate
pub gate_calls : (before now size : ℕ) (image : List ℕ) (e : DiskError) → Passes (if slice_index image 0 == 1 then 2 else 0) before now (Err e) → Passes (format_calls size image) before now (Err e)
gate_calls before now size image e run = cut_short (if slice_index image 0 == 1 then 2 else 0) (format_calls size image) before now e (omega arith) run

-- and of one that ended in the zeros
pub zero_calls : (before closed now size : ℕ) (image : List ℕ) (e : DiskError) → closed ≡ counted (if slice_index image 0 == 1 then 2 else 0) before → Passes (zero_writes (size - 64)) closed now (Err e)
    → Passes (format_calls size image) before now (Err e)
zero_calls before closed now size image e first run =
    let gate : ℕ = if slice_index image 0 == 1 then 2 else 0 in
    then_err gate (zero_writes (size - 64)) (format_calls size image) before closed now e (omega arith) first run
