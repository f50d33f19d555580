-- What the laws of a disk require of the disk in memory.
use Rattle.std.specs.Prelude.{◌≡◌, ℕ, ◌≤◌, List, refl}
use Rattle.std.proofs.Common.{sym, ap, subst, arith}
use Rattle.std.proofs.lemmas.List.{take_all}
use Rattle.disk_model.specs.Memory.{Memory, Contents, MayLeave, MightHaveLeft, changes_of, at_moment, now_of, contents_of}

-- after all of its changes it holds what it holds now
at_last : (disk : Memory) → at_moment disk (changes_of disk) ≡ now_of disk
at_last disk = ap (contents_of disk.pick disk.first) (take_all (changes_of disk) disk.changes (omega arith))

pub counts_now : (disk : Memory) (t : ℕ) (image : List ℕ) → t ≤ changes_of disk → MayLeave (now_of disk) image → MightHaveLeft disk t image
counts_now disk t image le leaves =
    let least : changes_of disk ≤ changes_of disk = omega arith in
    (changes_of disk, le, least, subst (λ (at : Contents). MayLeave at image) (sym (at_last disk)) leaves)

pub only_now : (disk : Memory) (image : List ℕ) → MightHaveLeft disk (changes_of disk) image → MayLeave (now_of disk) image
only_now disk image (k, from, to, leaves) =
    let last : k ≡ changes_of disk = omega arith in
    subst (λ (at : Contents). MayLeave at image) (at_last disk) (subst (λ n. MayLeave (at_moment disk n) image) last leaves)

pub reads_an_image : (disk : Memory) → MayLeave (now_of disk) (now_of disk).newest
reads_an_image disk = record { size = refl; same = λ k out. refl }
