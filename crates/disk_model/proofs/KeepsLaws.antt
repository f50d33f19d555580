-- Laws of what calls keep of a disk: calls one after another, and the parts of a clause of one call.
use Rattle.std.specs.Prelude.{ℕ, ◌≡◌, ◌≢◌, ◌≤◌, List, IsTrue, Result, Ok, Err, refl}
use Rattle.std.proofs.Common.{◌∙◌, inl, inr, arith}
use Rattle.std.proofs.lemmas.Bool.{cases_lt}
use Rattle.counts.specs.Count.{Rose}
use Rattle.disk_model.specs.Disk.{HasCause}
use Rattle.disk_model.proofs.MomentLaws.{begins, weaker, joined}
use Rattle.disk_model.specs.Keeps.{KeepsDisk, SameContents, OnlyReads}
use Rattle.disk_model.specs.declared.disk.Disk.{Ghosts}
use Rattle.disk_model.specs.declared.disk.DiskError.{DiskError}
use Rattle.disk_model.specs.declared.disk.DiskError.TheVariants.{Failed, Stopped}

-- what rose after a moment rose since an earlier one
pub rose_since : (a b c : ℕ) → a ≤ b → b ≤ c → Rose b c → Rose a c
rose_since a b c ab bc (inl up) = inl (omega arith)
rose_since a b c ab bc (inr full) = elim (cases_lt a b) [ inl up ↦ inl (omega arith) | inr same_count ↦ inr (omega arith) ]

-- what rose before a moment rose until a later one
pub rose_until : (a b c : ℕ) → b ≤ c → Rose a b → Rose a c
rose_until a b c bc (inl up) = inl (omega arith)
rose_until a b c bc (inr full) = inr full

-- an answer that is no error is no error of the disk
pub ok_no_error : {T : Type 0} (result : Result T DiskError) (x : T) (e : DiskError) → result ≡ Ok x → result ≢ Err e
ok_no_error result x e is told = cc (is, told)

-- no call was made, and no error of the disk is reported
pub cause_none : {T : Type 0} (faults stops : ℕ) (x : T) → HasCause {T = T} faults faults stops stops (Ok x)
cause_none faults stops x = record { faults_kept = omega arith; stops_kept = omega arith; failed = λ is. absurd (cc is); stopped = λ is. absurd (cc is); faults_still = λ not. refl; stops_still = λ not. refl }

-- the causes of two calls, the first of which reported no error
pub cause_last : {S T : Type 0} (faults mid faults' stops mids stops' : ℕ) (first : Result S DiskError) (y : S) (result : Result T DiskError) → first ≡ Ok y → HasCause faults mid stops mids first → HasCause mid faults' mids stops' result → HasCause faults faults' stops stops' result
cause_last faults mid faults' stops mids stops' first y result done before cause = record {
  faults_kept = omega (arith, before.faults_kept, cause.faults_kept);
  stops_kept = omega (arith, before.stops_kept, cause.stops_kept);
  failed = λ is. rose_since faults mid faults' before.faults_kept cause.faults_kept (cause.failed is);
  stopped = λ is. rose_since stops mids stops' before.stops_kept cause.stops_kept (cause.stopped is);
  faults_still = λ not. cause.faults_still not ∙ before.faults_still (ok_no_error first y Failed done);
  stops_still = λ not. cause.stops_still not ∙ before.stops_still (ok_no_error first y Stopped done);
}

module _ {D : Type 0} (g : Ghosts D) where
  -- no call was made, and no error of the disk is reported
  pub keeps_none : {T : Type 0} (disk : D) (x : T) → KeepsDisk {T = T} g disk disk (Ok x)
  keeps_none disk x = record {
    extent = refl;
    origin = refl;
    cause = cause_none (g.faults disk) (g.stops disk) x;
    restarts = λ told. refl;
  }

  -- one more call, whose answer is returned, and which followed no error
  pub keeps_on : {S T : Type 0} (old mid new : D) (first : Result S DiskError) (y : S) (result : Result T DiskError) → first ≡ Ok y → KeepsDisk g old mid first → KeepsDisk g mid new result → KeepsDisk g old new result
  keeps_on old mid new first y result done before kept = record {
    extent = kept.extent ∙ before.extent;
    origin = kept.origin ∙ before.origin;
    cause = cause_last (g.faults old) (g.faults mid) (g.faults new) (g.stops old) (g.stops mid) (g.stops new) first y result done before.cause kept.cause;
    restarts = λ told. kept.restarts told ∙ before.restarts told;
  }

  -- nothing was read
  pub same_none : (disk : D) → ((c : List ℕ) → g.left_since disk (g.moment disk) c → g.may_leave disk c) → SameContents g disk disk
  same_none disk only_now = record { bytes = refl; crash = λ c left. left; moments = begins g.moment g.left_since disk (g.may_leave disk) only_now; passed = refl }

  -- two that wrote nothing
  pub same_on : (old mid new : D) → SameContents g old mid → SameContents g mid new → SameContents g old new
  same_on old mid new first second = record {
    bytes = second.bytes ∙ first.bytes;
    crash = λ c left. first.crash c (second.crash c left);
    moments = weaker g.moment g.left_since old new _ _ (joined g.moment g.left_since old mid new _ _ first.moments second.moments) (λ c left. elim left [ inl old ↦ old | inr mid ↦ first.crash c mid ]);
    passed = second.passed ∙ first.passed;
  }

  -- nothing was read, and no error of the disk is reported
  pub reads_none : {T : Type 0} (disk : D) (x : T) → (IsTrue g.tells → (c : List ℕ) → g.left_since disk (g.moment disk) c → g.may_leave disk c) → OnlyReads {T = T} g disk disk (Ok x)
  reads_none disk x only_now = record { disk = keeps_none disk x; contents = λ told. same_none disk (only_now told); no_first_stop = λ none. none }

  -- one more that only reads, whose answer is returned, and which followed no error
  pub reads_on : {S T : Type 0} (old mid new : D) (first : Result S DiskError) (y : S) (result : Result T DiskError) → first ≡ Ok y → OnlyReads g old mid first → OnlyReads g mid new result → OnlyReads g old new result
  reads_on old mid new first y result done before reads = record {
    disk = keeps_on old mid new first y result done before.disk reads.disk;
    contents = λ told. same_on old mid new (before.contents told) (reads.contents told);
    no_first_stop = λ none. reads.no_first_stop (before.no_first_stop none);
  }
