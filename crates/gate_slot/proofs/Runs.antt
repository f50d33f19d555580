-- What a crash leaves at each stage of the two runs.
use Rattle.std.proofs.Common.{◌≡◌, ℕ, ◌+◌, ◌<◌, ◌≤◌, List, length, ◌∙◌, subst, arith}
use Rattle.disk_model.specs.Disk.{overwrite, Torn, WidensBy, Narrows, Only, Elapses}
use Rattle.disk_model.specs.Moments.{LeavesOnly}
use Rattle.disk_model.proofs.MomentLaws.{begins, goes_on}
use Rattle.gate_slot.specs.Gate.{IsOutside, IsClosedInEach, SameButGate, IsFilling}
use Rattle.gate_slot.proofs.Images.{torn_gate, untouched, filling_none, filling_bytes, filling_gate}

-- what a disk models
pub record Tells (D : Type 0) : Type 1 where
  pub bytes : D → List ℕ
  pub extent : D → ℕ
  pub moment : D → ℕ
  pub left_since : D → ℕ → List ℕ → Type 0
  pub may_leave : D → List ℕ → Type 0
  pub only_now : (disk : D) (c : List ℕ) → left_since disk (moment disk) c → may_leave disk c
  pub reads_an_image : (disk : D) → may_leave disk (bytes disk)
  pub same_size : (disk : D) (c : List ℕ) → may_leave disk c → length c ≡ extent disk

-- A crash since old leaves what has P, and so does one now.
pub record Keeps {D : Type 0} (disk : Tells D) (old new : D) (P : List ℕ → Type 0) : Type 0 where
  pub run : LeavesOnly disk.moment disk.left_since old new P
  pub here : (c : List ℕ) → disk.may_leave new c → P c

module _ {D : Type 0} (disk : Tells D) (gate : ℕ) where
  abbrev Since : D → D → (List ℕ → Type 0) → Type 0
  Since old new P = Keeps disk old new P

  abbrev Passing : D → D → Type 0
  Passing old new = Elapses (disk.moment old) (disk.moment new) (disk.left_since old) (disk.left_since new) (disk.may_leave new)

  starts : (old : D) (P : List ℕ → Type 0) → ((c : List ℕ) → disk.may_leave old c → P c) → Since old old P
  starts old P here = record { run = begins disk.moment disk.left_since old P (λ c left. here c (disk.only_now old c left)); here = here }

  lasts : (old mid new : D) (P : List ℕ → Type 0) → Since old mid P → Passing mid new → ((c : List ℕ) → disk.may_leave new c → P c) → Since old new P
  lasts old mid new P so_far time here = record { run = goes_on disk.moment disk.left_since old mid new P (disk.may_leave new) so_far.run time here; here = here }

  -- a read or a sync leaves nothing else
  pub narrowed : (old mid new : D) (P : List ℕ → Type 0) → Since old mid P → Narrows (disk.may_leave mid) (disk.may_leave new) → Passing mid new → Since old new P
  narrowed old mid new P so_far narrows time = lasts old mid new P so_far time (λ c now. so_far.here c (narrows c now))

  -- an image from before, but for the gate
  abbrev pub ButGate : D → List ℕ → Type 0
  ButGate old c = (d : List ℕ) × disk.may_leave old d × SameButGate gate d c

  -- the gate was read
  pub gate_read : (old new : D) → Narrows (disk.may_leave old) (disk.may_leave new) → Passing old new → Since old new (ButGate old)
  gate_read old new narrows time = narrowed old old new (ButGate old) (starts old (ButGate old) (λ c now. (c, now, untouched gate c))) narrows time

  -- and closed
  pub gate_closed : (old mid new : D) → Narrows (disk.may_leave old) (disk.may_leave mid) → Since old mid (ButGate old) → WidensBy (Torn gate 1) (disk.may_leave mid) (disk.may_leave new) → Passing mid new → Since old new (ButGate old)
  gate_closed old mid new narrows so_far follows time = lasts old mid new (ButGate old) so_far time (λ c now. let from = follows c now in (from.0, narrows from.0 from.1, torn_gate gate from.0 c from.2))

  module _ (at : ℕ) (bytes : List ℕ) (apart : IsOutside at (length bytes) gate) where
    -- an image from before, with the bytes being filled in
    abbrev pub Filling : D → List ℕ → Type 0
    Filling old c = (d : List ℕ) × disk.may_leave old d × IsFilling gate at bytes (disk.bytes old) d c

    -- the bytes were written
    pub bytes_written : (old new : D) → IsClosedInEach gate (disk.may_leave old) → WidensBy (Torn at (length bytes)) (disk.may_leave old) (disk.may_leave new) → Passing old new → Since old new (Filling old)
    bytes_written old new shut follows time =
        let nothing_yet = starts old (Filling old) (λ c now. (c, now, filling_none gate at bytes apart (disk.bytes old) c (shut c now))) in
        lasts old old new (Filling old) nothing_yet time (λ c now. let from = follows c now in (from.0, from.1, filling_bytes gate at bytes apart (disk.bytes old) from.0 c (shut from.0 from.1) from.2))

    -- and the gate was opened, once the bytes were on the disk
    pub gate_opened : (old written mid new : D) → gate < disk.extent old → at + length bytes ≤ disk.extent old → Since old mid (Filling old) → disk.bytes written ≡ overwrite (disk.bytes old) at bytes → Only (disk.bytes written) (disk.may_leave mid)
        → WidensBy (Torn gate 1) (disk.may_leave mid) (disk.may_leave new) → Passing mid new → Since old new (Filling old)
    gate_opened old written mid new gate_inside inside so_far whole only follows time =
        let left = disk.reads_an_image old in
        let size = disk.same_size old (disk.bytes old) left in
        let within : gate < length (disk.bytes old) = omega (arith, size) in
        let fits : at + length bytes ≤ length (disk.bytes old) = omega (arith, size) in
        lasts old mid new (Filling old) so_far time (λ c now. let from = follows c now in (disk.bytes old, left, filling_gate gate at bytes apart (disk.bytes old) c within fits (subst (λ (d : List ℕ). Torn gate 1 d c) (only from.0 from.1 ∙ whole) from.2)))
