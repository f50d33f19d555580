-- Why a play ends as it does.
use Rattle.std.proofs.Common.{◌≡◌, ◌≢◌, ℕ, ◌<◌, ◌≤◌, inl, inr, Some, refl, sym, ap, ◌∙◌, arith}
use Rattle.std.proofs.lemmas.Option.{same_Some}
use Rattle.counts.specs.Count.{Rose}
use Rattle.image_plan.specs.declared.superblock.Super.{Super}
use Rattle.image_plan.specs.Plan.{image_size}
use Rattle.heap_program.specs.declared.playing.TheConstants.{LOG_BYTES}
use Rattle.heap_program.specs.declared.status.Status.{Status}
use Rattle.heap_program.specs.declared.status.Status.TheVariants as status
use Rattle.heap_program.specs.Headline.{BlamesNoImage, made_super}
use Rattle.black_box.specs.Ends.{EndsPlay}

-- a count that rose has risen later too
pub rose_later : (before mid now : ℕ) → Rose before mid → mid ≤ now → Rose before now
rose_later before mid now (inl rose) later = inl (omega arith)
rose_later before mid now (inr most) later = inr most

-- a disk that is too small for the heap of a play is too small for that many pages
pub small_for : (extent pages size need : ℕ) → ((s : Super) × (Some (made_super pages) ≡ Some s) × (size ≡ extent) × (need ≡ image_size s.pages s.log_bytes) × (size < need)) → (size ≡ extent) × (need ≡ image_size pages LOG_BYTES) × (size < need)
small_for extent pages size need (s, is, at, than, less) =
    let same : s ≡ made_super pages = same_Some _ _ (sym is) in
    (at, than ∙ ap (λ (x : Super). image_size x.pages x.log_bytes) same, less)

module _ (size pages : ℕ) (bad : ℕ → Type 0) (source sink disk : Type 0) where
  -- each status of a play is true
  pub ends_play : (s : Status) → s ≢ status.Usage → BlamesNoImage s → ((line : ℕ) → s ≡ status.Script line → bad line) → (s ≡ status.ReadFault → source) → (s ≡ status.WriteFault → sink) → (s ≡ status.DiskFault → disk)
      → ((is need : ℕ) → s ≡ status.TooSmall is need → (is ≡ size) × (need ≡ image_size pages LOG_BYTES) × (is < need)) → EndsPlay size pages bad source sink disk s
  ends_play status.Done end sound script read write fault small = tt
  ends_play status.NoMemory end sound script read write fault small = tt
  ends_play status.Usage end sound script read write fault small = end refl
  ends_play (status.Script line) end sound script read write fault small = script line refl
  ends_play status.ReadFault end sound script read write fault small = read refl
  ends_play status.WriteFault end sound script read write fault small = write refl
  ends_play status.DiskFault end sound script read write fault small = fault refl
  ends_play status.NotHeap end sound script read write fault small = sound
  ends_play (status.Damaged at) end sound script read write fault small = sound
  ends_play (status.TooSmall is need) end sound script read write fault small = small is need refl

-- A play of a script that was read, from a source that never fails, blames neither.
pub ends_read : (size pages : ℕ) (bad : ℕ → Type 0) (source sink disk : Type 0) (s : Status) → ((line : ℕ) → bad line → ⊥) → (source → ⊥) → EndsPlay size pages bad source sink disk s → EndsPlay size pages (λ line. ⊥) ⊥ sink disk s
ends_read size pages bad source sink disk status.Done read given ends = tt
ends_read size pages bad source sink disk status.NoMemory read given ends = tt
ends_read size pages bad source sink disk status.Usage read given ends = ends
ends_read size pages bad source sink disk (status.Script line) read given ends = read line ends
ends_read size pages bad source sink disk status.ReadFault read given ends = given ends
ends_read size pages bad source sink disk status.WriteFault read given ends = ends
ends_read size pages bad source sink disk status.DiskFault read given ends = ends
ends_read size pages bad source sink disk status.NotHeap read given ends = ends
ends_read size pages bad source sink disk (status.Damaged at) read given ends = ends
ends_read size pages bad source sink disk (status.TooSmall is need) read given ends = ends
