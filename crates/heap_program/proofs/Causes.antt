-- How the causes of errors combine over several calls.
use Rattle.std.proofs.Common.{◌≡◌, inl, inr, ℕ, ◌+◌, ◌≤◌, arith, Result, Err}
use Rattle.counts.specs.Count.{Rose}
use Rattle.disk_model.specs.declared.disk.Disk.{Ghosts}
use Rattle.disk_model.specs.declared.disk.DiskError.{DiskError}
use Rattle.disk_model.specs.declared.disk.DiskError.TheVariants.{Failed, Stopped}
use Rattle.disk_model.specs.Disk.{HasCause}
use Rattle.disk_model.proofs.KeepsLaws.{rose_since}
use Rattle.graph_model.specs.declared.reply.Reply.{Reply}
use Rattle.heap_core.specs.Causes.{WasCaused, IsCausedBy, reply_device}
use Rattle.heap_program.specs.Causes.{DiskRose}

-- counts of two kinds together
pub rose_sum : (f s f' s' : ℕ) → f ≤ f' → s ≤ s' → Rose f f' → DiskRose f s f' s'
rose_sum f s f' s' ff ss (inl up) = inl (omega arith)
rose_sum f s f' s' ff ss (inr full) = inr (omega arith)

pub rose_sum_stops : (f s f' s' : ℕ) → f ≤ f' → s ≤ s' → Rose s s' → DiskRose f s f' s'
rose_sum_stops f s f' s' ff ss (inl up) = inl (omega arith)
rose_sum_stops f s f' s' ff ss (inr full) = inr (omega arith)

-- an error means that the disk's counts rose
pub disk_rose : {A : Type 0} (f s f' s' : ℕ) (result : Result A DiskError) (e : DiskError) → HasCause f f' s s' result → result ≡ Err e → DiskRose f s f' s'
disk_rose f s f' s' result Failed cause is = rose_sum f s f' s' cause.faults_kept cause.stops_kept (cause.failed is)
disk_rose f s f' s' result Stopped cause is = rose_sum_stops f s f' s' cause.faults_kept cause.stops_kept (cause.stopped is)

-- and so they rose since an earlier moment
pub disk_rose_since : (f s m n f' s' : ℕ) → f ≤ m → s ≤ n → m ≤ f' → n ≤ s' → DiskRose m n f' s' → DiskRose f s f' s'
disk_rose_since f s m n f' s' fm sn mf ns up = rose_since (f + s) (m + n) (f' + s') (omega arith) (omega arith) up

-- an error after which calls may have continued means it too
pub was_rose : {A : Type 0} (f s f' s' : ℕ) (result : Result A DiskError) (e : DiskError) → WasCaused f f' s s' result → result ≡ Err e → DiskRose f s f' s'
was_rose f s f' s' result Failed cause is = rose_sum f s f' s' cause.faults_kept cause.stops_kept (cause.failed is)
was_rose f s f' s' result Stopped cause is = rose_sum_stops f s f' s' cause.faults_kept cause.stops_kept (cause.stopped is)

-- so does a reply that has the disk's error
pub reply_rose : {D : Type 0} (g : Ghosts D) (old new : D) (reply : Reply) (e : DiskError) → IsCausedBy g old new reply → reply_device reply ≡ Err e → DiskRose (g.faults old) (g.stops old) (g.faults new) (g.stops new)
reply_rose g old new reply e cause is = was_rose _ _ _ _ (reply_device reply) e cause is
