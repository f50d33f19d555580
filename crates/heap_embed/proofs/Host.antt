-- What the host's file may be left with, the disk that told might have been left with.
use Rattle.std.specs.Prelude.{◌≡◌, ℕ, ◌+◌, ◌≤◌, List, [], ◌∷◌, ◌++◌, length, take, refl}
use Rattle.std.proofs.Common.{sym, subst, arith, ⊎_elim}
use Rattle.disk_model.specs.Memory.{Memory, MayLeave, MightHaveLeft, contents_of, Change, Sync, Contents, after, after_all, settled_as}
use Rattle.disk_model.specs.declared.memory.Pick.{Pick}
use Rattle.disk_model.specs.declared.memory.Pick.TheVariants.{Newest}
use Rattle.heap_embed.specs.Host.{HostMayLeave}

pub host_lags : (disk : Memory) → disk.pick ≡ Newest → (done k : ℕ) (image : List ℕ) → done ≤ k → k ≤ length disk.changes → HostMayLeave disk.first disk.changes k image → MightHaveLeft disk done image
host_lags disk picks done k image later most left =
    ⊎_elim
    (λ now. (k, later, most, subst (λ (p : Pick). MayLeave (contents_of p disk.first (take k disk.changes)) image) (sym picks) now))
    (λ next. (k + 1, omega (arith, later), next.0, subst (λ (p : Pick). MayLeave (contents_of p disk.first (take (k + 1) disk.changes)) image) (sym picks) next.1))
    left

all_then : (at : Contents) (changes : List Change) (last : Change) → after_all Newest at (changes ++ last ∷ []) ≡ after Newest (after_all Newest at changes) last
all_then at [] last = refl
all_then at (change ∷ changes) last = all_then (after Newest at change) changes last

-- Behind a sync the disk may be seen as one that begins there.
pub rebased : (first : List ℕ) (changes : List Change) → contents_of Newest first (changes ++ Sync ∷ []) ≡ contents_of Newest (contents_of Newest first changes).newest []
unfolding contents_of
rebased first changes = all_then (settled_as first) changes Sync
