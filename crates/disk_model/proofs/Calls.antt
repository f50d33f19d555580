-- What the calls of the disk in memory mean for what a crash may leave.
use Rattle.std.proofs.Common.{◌≡◌, ℕ, ◌+◌, ◌-◌, ◌≤◌, Bool, true, false, cond, eqb, List, [], ◌∷◌, ◌++◌, length, get_or, take, drop, Result, refl, sym, ap, subst, ◌∙◌, ⊎_elim, arith, length-append}
use Rattle.std.specs.Prelude.{OnOk}
use Rattle.std.proofs.lemmas.Bool.{cases_Bool, or_from, eqb-true}
use Rattle.std.proofs.lemmas.List.{take_at, drop_at, take-append-le, length-take-le, nil_from_length}
use Rattle.disk_model.specs.declared.disk.DiskError.{DiskError}
use Rattle.disk_model.specs.declared.memory.Pick.{Pick}
use Rattle.disk_model.specs.Disk.{overwrite, part, Torn, WidensBy, Narrows, Only, Elapses}
use Rattle.disk_model.specs.Memory.{Memory, Change, Write, Sync, Restart, Contents, MayLeave, MightHaveLeft, is_in, is_within, left_by, settled_as, after, changes_of, now_of, answer, changed, settled, written, synced_if, after_restart}
use Rattle.disk_model.specs.MemoryLaws.{reads_an_image}
use Rattle.disk_model.proofs.Images.{is_in-bounds, length-overwrite, length-part, get_or-part, get_or-overwrite_inside, get_or-overwrite_outside, same_images}
use Rattle.disk_model.proofs.Blended.{is_within-push}
use Rattle.disk_model.proofs.Kept.{contents_of-push, length-left_by, get_or-left_by}
use Rattle.disk_model.proofs.Moments.{elapses_change, elapses_still}

-- an overwrite changes its range alone
pub torn_overwrite : (image bytes : List ℕ) (at : ℕ) → at + length bytes ≤ length image → Torn at (length bytes) (overwrite image at bytes) image
torn_overwrite image bytes at le =
    let n : length (take at image) ≡ at = length-take-le at image (omega arith) in
    let m : length (take at image ++ bytes) ≡ at + length bytes = omega (arith, length-append (take at image) bytes) in
    let rest = drop (at + length bytes) image in
    record {
      before = sym (take-append-le at (take at image ++ bytes) rest (omega arith) ∙ take_at (take at image) bytes at n);
      after = sym (drop_at (take at image ++ bytes) rest (at + length bytes) m);
      size = sym (length-overwrite image at bytes le);
    }

pub torn_still : (at n : ℕ) (image : List ℕ) → Torn at n image image
torn_still at n image = record { before = refl; after = refl; size = refl }

-- before a write, a crash may have left what it may leave now, with the newest bytes in the range
widens_by_write : (pick : _) (old : Contents) (at : ℕ) (bytes : List ℕ) → at + length bytes ≤ length old.newest → WidensBy (Torn at (length bytes)) (MayLeave old) (MayLeave (after pick old (Write at bytes)))
widens_by_write pick old at bytes le image leaves =
    let total = length-overwrite old.newest at bytes le in
    let size = leaves.size in
    let kept = part old.newest at (length bytes) in
    let n : length kept ≡ length bytes = length-part old.newest at (length bytes) le in
    let fits : at + length kept ≤ length image = omega arith in
    let could : MayLeave old (overwrite image at kept) = record {
      size = length-overwrite image at kept fits ∙ size ∙ total;
      same = λ k out.
          ⊎_elim
          (λ (in_ : is_in (at, length bytes) k ≡ true).
          let bounds = is_in-bounds (at, length bytes) k in_ in
          let e : at + (k - at) ≡ k = omega arith in
          get_or-overwrite_inside image at kept fits k bounds.0 (omega arith)
          ∙ get_or-part old.newest at (length bytes) (k - at) (omega arith)
          ∙ ap (λ i. get_or old.newest i 0) e)
          (λ (apart : is_in (at, length bytes) k ≡ false).
          let apart' : is_in (at, length kept) k ≡ false = ap (λ i. is_in (at, i) k) n ∙ apart in
          let beyond : is_within (old.pending ++ (at, length bytes) ∷ []) k ≡ false = is_within-push old.pending (at, length bytes) k ∙ or_from _ _ out apart in
          get_or-overwrite_outside image at kept fits k apart'
          ∙ leaves.same k beyond
          ∙ get_or-overwrite_outside old.newest at bytes le k apart)
          (cases_Bool (is_in (at, length bytes) k));
    } in
    (overwrite image at kept, could, subst (λ i. Torn at i (overwrite image at kept) image) n (torn_overwrite image kept at fits))

-- what a write promises about the bytes
pub record WriteIsKept (old new : Memory) (at : ℕ) (bytes : List ℕ) (result : Result (Unit {0}) DiskError) : Type 0 where
  pub written : OnOk result ((now_of new).newest ≡ overwrite (now_of old).newest at bytes)
  pub crash : WidensBy (Torn at (length bytes)) (MayLeave (now_of old)) (MayLeave (now_of new))
  pub time : Elapses (changes_of old) (changes_of new) (MightHaveLeft old) (MightHaveLeft new) (MayLeave (now_of new))
  pub extent : length (now_of new).newest ≡ length (now_of old).newest

write_is_kept : (fails : Bool) (disk : Memory) (at : ℕ) (bytes : List ℕ) → at + length bytes ≤ length (now_of disk).newest → WriteIsKept disk (written fails disk at bytes) at bytes (answer fails)
write_is_kept true disk at bytes le = record { written = tt; crash = λ image leaves. (image, leaves, torn_still at (length bytes) image); time = elapses_still disk; extent = refl }
write_is_kept false disk at bytes le =
    let now = contents_of-push disk.pick disk.first disk.changes (Write at bytes) in
    record {
      written = ap (λ (new : Contents). new.newest) now;
      crash = subst (λ (new : Contents). WidensBy (Torn at (length bytes)) (MayLeave (now_of disk)) (MayLeave new)) (sym now) (widens_by_write disk.pick (now_of disk) at bytes le);
      time = elapses_change disk (Write at bytes);
      extent = ap (λ (new : Contents). length new.newest) now ∙ length-overwrite (now_of disk).newest at bytes le;
    }

pub kept_by_write : (fails : Bool) (disk new : Memory) (at : ℕ) (bytes : List ℕ) (result : Result (Unit {0}) DiskError) → at + length bytes ≤ length (now_of disk).newest → new ≡ written fails disk at bytes → result ≡ answer fails → WriteIsKept disk new at bytes result
kept_by_write fails disk new at bytes result le exact is =
    subst (λ (r : Result (Unit {0}) DiskError). WriteIsKept disk new at bytes r) (sym is) (subst (λ (e : Memory). WriteIsKept disk e at bytes (answer fails)) (sym exact) (write_is_kept fails disk at bytes le))

-- nothing pending: a crash leaves the newest bytes
pub only_newest : (at : Contents) → at.pending ≡ [] → Only at.newest (MayLeave at)
only_newest at none image leaves = same_images image at.newest leaves.size (λ k. leaves.same k (ap (λ ranges. is_within ranges k) none))

module _ (disk : Memory) (change : Change) (image : List ℕ) (leaves : after disk.pick (now_of disk) change ≡ settled_as image) where
  now_settled : now_of (changed disk change) ≡ settled_as image
  now_settled = contents_of-push disk.pick disk.first disk.changes change ∙ leaves

  -- what holds of the disk, if nothing is pending, and of the one with the change, holds after a sync or a restart
  settled_has : (P : Memory → Type 0) → ((now_of disk).pending ≡ [] → P disk) → P (changed disk change) → P (settled disk change)
  settled_has P same more =
      elim (eqb (length (now_of disk).pending) 0) as (λ none. eqb (length (now_of disk).pending) 0 ≡ none → P (cond none disk (changed disk change)))
      [ true ↦ λ none. same (nil_from_length _ (eqb-true _ _ none)) | false ↦ λ some. more ] refl

  pending-settled : (now_of (settled disk change)).pending ≡ []
  pending-settled = settled_has (λ new. (now_of new).pending ≡ []) (λ none. none) (ap (λ (at : Contents). at.pending) now_settled)

  newest_settled : (P : List ℕ → Type 0) → P (now_of disk).newest → P image → P (now_of (settled disk change)).newest
  newest_settled P old new = settled_has (λ disk. P (now_of disk).newest) (λ none. old) (subst (λ (at : Contents). P at.newest) (sym now_settled) new)

  elapses_settled : Elapses (changes_of disk) (changes_of (settled disk change)) (MightHaveLeft disk) (MightHaveLeft (settled disk change)) (MayLeave (now_of (settled disk change)))
  elapses_settled = settled_has (λ new. Elapses (changes_of disk) (changes_of new) (MightHaveLeft disk) (MightHaveLeft new) (MayLeave (now_of new))) (λ none. elapses_still disk) (elapses_change disk change)

-- what a sync promises about the bytes
pub record SyncIsKept (old new : Memory) (result : Result (Unit {0}) DiskError) : Type 0 where
  pub durable : OnOk result (Only (now_of old).newest (MayLeave (now_of new)))
  pub bytes : (now_of new).newest ≡ (now_of old).newest
  pub crash : Narrows (MayLeave (now_of old)) (MayLeave (now_of new))
  pub time : Elapses (changes_of old) (changes_of new) (MightHaveLeft old) (MightHaveLeft new) (MayLeave (now_of new))

sync_is_kept : (fails : Bool) (disk : Memory) → SyncIsKept disk (synced_if fails disk) (answer fails)
sync_is_kept true disk = record { durable = tt; bytes = refl; crash = λ image leaves. leaves; time = elapses_still disk }
sync_is_kept false disk =
    let newest = (now_of disk).newest in
    let bytes = newest_settled disk Sync newest refl (λ image. image ≡ newest) refl refl in
    let only : Only newest (MayLeave (now_of (settled disk Sync))) = subst (λ image. Only image (MayLeave (now_of (settled disk Sync)))) bytes (only_newest (now_of (settled disk Sync)) (pending-settled disk Sync newest refl)) in
    record {
      durable = only;
      bytes = bytes;
      crash = λ image leaves. subst (MayLeave (now_of disk)) (sym (only image leaves)) (reads_an_image disk);
      time = elapses_settled disk Sync newest refl;
    }

pub kept_by_sync : (fails : Bool) (disk new : Memory) (result : Result (Unit {0}) DiskError) → new ≡ synced_if fails disk → result ≡ answer fails → SyncIsKept disk new result
kept_by_sync fails disk new result exact is =
    subst (λ (r : Result (Unit {0}) DiskError). SyncIsKept disk new r) (sym is) (subst (λ (e : Memory). SyncIsKept disk e (answer fails)) (sym exact) (sync_is_kept fails disk))

-- what a restart promises about the bytes
pub record RestartIsKept (old new : Memory) : Type 0 where
  pub left : MayLeave (now_of old) (now_of new).newest
  pub durable : Only (now_of new).newest (MayLeave (now_of new))
  pub time : Elapses (changes_of old) (changes_of new) (MightHaveLeft old) (MightHaveLeft new) (MayLeave (now_of new))
  pub picked : (now_of new).newest ≡ left_by old.pick (now_of old)

-- where nothing is pending, each pick leaves the newest bytes
left_by-settled : (pick : Pick) (at : Contents) → at.pending ≡ [] → left_by pick at ≡ at.newest
left_by-settled pick at none = same_images _ _ (length-left_by pick at) (λ k. get_or-left_by pick at k (ap (λ ranges. is_within ranges k) none))

restart_is_kept : (disk : Memory) → RestartIsKept disk (after_restart disk)
restart_is_kept disk =
    let image = left_by disk.pick (now_of disk) in
    let picked : MayLeave (now_of disk) image = record { size = length-left_by disk.pick (now_of disk); same = get_or-left_by disk.pick (now_of disk) } in
    record {
      left = newest_settled disk Restart image refl (MayLeave (now_of disk)) (reads_an_image disk) picked;
      durable = only_newest (now_of (settled disk Restart)) (pending-settled disk Restart image refl);
      time = elapses_settled disk Restart image refl;
      picked = settled_has disk Restart image refl (λ new. (now_of new).newest ≡ image) (λ none. sym (left_by-settled disk.pick (now_of disk) none)) (ap (λ (at : Contents). at.newest) (now_settled disk Restart image refl));
    }

pub kept_by_restart : (disk new : Memory) → new ≡ after_restart disk → RestartIsKept disk new
kept_by_restart disk new exact = subst (λ (e : Memory). RestartIsKept disk e) (sym exact) (restart_is_kept disk)

-- nothing is pending on a disk whose record is empty
pub only_made : (at : Contents) (bytes : List ℕ) (pending : List (ℕ × ℕ)) → bytes ≡ at.newest → pending ≡ at.pending → pending ≡ [] → Only bytes (MayLeave at)
only_made at bytes pending newest is none = subst (λ image. Only image (MayLeave at)) (sym newest) (only_newest at (sym is ∙ none))
