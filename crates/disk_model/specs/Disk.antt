-- What a disk holds, and what a crash may leave of it. An image is the list of a disk's bytes.
use Rattle.std.specs.Prelude.{◌≡◌, ◌≢◌, ℕ, ◌+◌, ◌<◌, ◌≤◌, ◌⊎◌, List, ◌++◌, length, take, drop, slice_index, Result, Err}
use Rattle.counts.specs.Count.{raised, Rose}
use Rattle.disk_model.specs.declared.disk.DiskError.{DiskError}
use Rattle.disk_model.specs.declared.disk.DiskError.TheVariants.{Failed, Stopped}

-- the image with these bytes at an offset, where they fit
abbrev pub overwrite : List ℕ → ℕ → List ℕ → List ℕ
overwrite image at bytes = take at image ++ bytes ++ drop (at + length bytes) image

-- the part of an image from an offset on
abbrev pub part : List ℕ → ℕ → ℕ → List ℕ
part image at n = take n (drop at image)

-- After a write that a crash cuts short, or that failed: any bytes in the range, the same elsewhere.
pub record Torn (at n : ℕ) (old new : List ℕ) : Type 0 where
  pub before : take at new ≡ take at old
  pub after : drop (at + n) new ≡ drop (at + n) old
  pub size : length new ≡ length old

-- new has the size of old, and the same bytes outside of those from `from` to `end`
pub record SameOutside (from end : ℕ) (old new : List ℕ) : Type 0 where
  pub size : length new ≡ length old
  pub before : (i : ℕ) → i < from → slice_index new i ≡ slice_index old i
  pub behind : (i : ℕ) → end ≤ i → slice_index new i ≡ slice_index old i

-- each image that a crash may leave now is one from before after a step
abbrev pub WidensBy : (List ℕ → List ℕ → Type 0) → (List ℕ → Type 0) → (List ℕ → Type 0) → Type 0
WidensBy step old new = (c : List ℕ) → new c → (d : List ℕ) × old d × step d c

-- no image can be left now that couldn't before
abbrev pub Narrows : (List ℕ → Type 0) → (List ℕ → Type 0) → Type 0
Narrows old new = (c : List ℕ) → new c → old c

-- a crash leaves this image and no other: nothing is pending
abbrev pub Only : List ℕ → (List ℕ → Type 0) → Type 0
Only image may_leave = (c : List ℕ) → may_leave c → c ≡ image

-- Time passes over a call: what a crash since t might have left is what it might have left before, or what it may
-- leave now, and nothing of what it might have left is forgotten.
pub record Elapses (before now : ℕ) (past since : ℕ → List ℕ → Type 0) (may_leave : List ℕ → Type 0) : Type 0 where
  pub later : before ≤ now
  pub nothing_else : (t : ℕ) (c : List ℕ) → t ≤ before → since t c → past t c ⊎ may_leave c
  pub keeps : (t : ℕ) (c : List ℕ) → t ≤ before → past t c → since t c

-- Neither count fell over a call, and each rose where the call returned that count's error, and nowhere else.
pub record HasCause {T : Type 0} (faults faults' stops stops' : ℕ) (result : Result T DiskError) : Type 0 where
  pub faults_kept : faults ≤ faults'
  pub stops_kept : stops ≤ stops'
  pub failed : result ≡ Err Failed → Rose faults faults'
  pub stopped : result ≡ Err Stopped → Rose stops stops'
  pub faults_still : result ≢ Err Failed → faults' ≡ faults
  pub stops_still : result ≢ Err Stopped → stops' ≡ stops

-- how many calls have passed after a write or a sync: a stopped one hasn't
abbrev pub passed_after : ℕ → Result (Unit {0}) DiskError → ℕ
passed_after passed (Err Stopped) = passed
passed_after passed result = raised passed
