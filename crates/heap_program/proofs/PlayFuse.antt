-- A play on a disk, and one through a fuse, as steps on the disk that was handed in.
use Rattle.std.proofs.Common.{◌≡◌, ◌≢◌, inl, inr, ℕ, ◌+◌, ◌≤◌, List, [], ◌∷◌, Some, None, Result, Ok, Err, ap, refl, sym, ◌∙◌, subst, arith}
use Rattle.std.specs.Prelude.{IsTrue, OnOk}
use Rattle.counts.specs.Count.{Rose, counted}
use Rattle.disk_model.specs.declared.disk.Disk.{Ghosts}
use Rattle.disk_model.specs.declared.disk.DiskError.{DiskError}
use Rattle.disk_model.specs.declared.disk.DiskError.TheVariants.{Failed}
use Rattle.disk_model.specs.Disk.{HasCause}
use Rattle.disk_model.specs.declared.fuse.FuseDisk.{FuseDisk}
use Rattle.disk_model.specs.Fuse.{FuseOrigin, fuse_inner, fuse_origin, fuse_passed}
use Rattle.disk_model.proofs.KeepsLaws.{rose_until}
use Rattle.disk_model.specs.Moments.{LeavesOnly}
use Rattle.gate_slot.specs.Passing.{Passes}
use Rattle.graph_model.specs.declared.event.Event.{Event}
use Rattle.graph_model.specs.declared.reply.Refusal.TheVariants.{DiskFault, Stopped}
use Rattle.graph_model.specs.declared.reply.Reply.{Reply}
use Rattle.graph_model.specs.declared.reply.Reply.TheVariants.{Refused}
use Rattle.heap_core.specs.Causes.{reply_device}
use Rattle.heap_core.specs.Refinement.{IsLeftByStep}
use Rattle.heap_model.specs.Core.{Core, calls, cut}
use Rattle.heap_program.specs.Causes.{DiskRose, PlaysDisk}
use Rattle.heap_core.specs.Steps.{HeapStep, AreSteps}
use Rattle.heap_program.specs.Steps.{StopCause, Step}
use Rattle.heap_program.proofs.Causes.{rose_sum_stops}
use Rattle.heap_program.proofs.Counts.{counted-counted, counted_mono}

-- fuses that are made of the same have the same disk inside, and let through as much
pub same_disk : {D O : Type 0} (a b : FuseOrigin D O) → a ≡ b → a.disk ≡ b.disk
same_disk {D} {O} a b same = ap (λ (o : FuseOrigin D O). o.disk) same

pub same_limit : {D O : Type 0} (a b : FuseOrigin D O) → a ≡ b → a.limit ≡ b.limit
same_limit {D} {O} a b same = ap (λ (o : FuseOrigin D O). o.limit) same

-- a count that rose isn't 0
pub rose_some : (a b : ℕ) → a ≤ b → Rose a b → b ≢ 0
rose_some a b kept (inl up) none = omega arith
rose_some a b kept (inr full) none = omega arith

-- a reply that reports a failure of the disk is `diskfault`
told_fault : (reply : Reply) → reply_device reply ≡ Err Failed → reply ≡ Refused DiskFault
told_fault (Refused DiskFault) told = refl
told_fault (Refused Stopped) told = cc
told_fault (Refused why) told = cc
told_fault reply told = cc

-- A heap's steps on its own disk are steps of a run on it.
pub own_steps : {D : Type 0} (g : Ghosts D) (start : D) → IsTrue g.tells → (c d : Core) (old new : D) (events : List Event) → AreSteps (HeapStep g) c old events d new → AreSteps (Step g None start) c old events d new
own_steps g start tells c d old new [] steps = steps
own_steps g start tells c d old new (event ∷ events) steps =
    let made = steps.2 in
    let one : Step g None start c old event steps.0 steps.1 =
    record { reply = made.reply; step = made.step; cause = made.disk.cause; moments = made.moments; kept = made.kept; passes = λ u. made.passes; restarts = made.disk.restarts tells } in
    (steps.0, steps.1, one, own_steps g start tells steps.0 d steps.1 new events steps.3)

module _ {D : Type 0} {g : Ghosts D} where
  -- what a crash leaves of the disk inside a fuse
  pub fuse_since : (old new : FuseDisk D g) (P : List ℕ → Type 0) → LeavesOnly (λ fuse. g.moment (fuse_inner fuse)) (λ fuse. g.left_since (fuse_inner fuse)) old new P
      → LeavesOnly g.moment g.left_since (fuse_inner old) (fuse_inner new) P
  fuse_since old new P run = record { later = run.later; each = run.each; before = run.before }

  -- what the disk inside has let through, where it did what it was asked
  pub fuse_passes : (fuse : FuseDisk D g) (old : D) (n : ℕ) → IsTrue g.tells → (fuse_origin fuse).disk ≡ old
      → (DiskRose (g.faults old) (g.stops old) (g.faults (fuse_inner fuse)) (g.stops (fuse_inner fuse)) → ⊥) → fuse_passed fuse ≡ n
      → g.passed (fuse_inner fuse) ≡ counted n (g.passed old)
  fuse_passes fuse old n tells is unharmed some =
      let began = (fuse_origin fuse).disk in
      let still = subst (λ x. DiskRose (g.faults x) (g.stops x) (g.faults (fuse_inner fuse)) (g.stops (fuse_inner fuse)) → ⊥) (sym is) unharmed in
      fuse.tied tells (λ rose. still (rose_sum_stops (g.faults began) (g.stops began) (g.faults (fuse_inner fuse)) (g.stops (fuse_inner fuse)) fuse.faults_kept fuse.stops_kept rose))
      ∙ ap (λ x. counted (fuse_passed fuse) (g.passed x)) is
      ∙ ap (λ (k : ℕ). counted k (g.passed old)) some

  -- it has let through none where the fuse has not
  pub fuse_none : (fuse : FuseDisk D g) (old : D) → IsTrue g.tells → (fuse_origin fuse).disk ≡ old → fuse_passed fuse ≡ 0 → g.passed (fuse_inner fuse) ≡ g.passed old
  fuse_none fuse old tells is none =
      let began = (fuse_origin fuse).disk in
      let kept = fuse.passed_kept tells in
      let few = subst (λ (k : ℕ). g.passed (fuse_inner fuse) ≤ counted k (g.passed began)) none (fuse.few tells) in
      let same : g.passed (fuse_inner fuse) ≡ g.passed began = omega (arith, kept, few) in
      same ∙ ap g.passed is

  -- and never more than the fuse
  pub fuse_most : (fuse : FuseDisk D g) (old : D) (n : ℕ) → IsTrue g.tells → (fuse_origin fuse).disk ≡ old → fuse_passed fuse ≤ n → g.passed (fuse_inner fuse) ≤ counted n (g.passed old)
  fuse_most fuse old n tells is within =
      let few = subst (λ x. g.passed (fuse_inner fuse) ≤ counted (fuse_passed fuse) (g.passed x)) is (fuse.few tells) in
      let more = counted_mono (fuse_passed fuse) n (g.passed old) within in
      omega (arith, few, more)

  -- What the fuse says of itself as a disk is said of the disk inside.
  pub record IsFuse (h : Ghosts (FuseDisk D g)) : Type 0 where
    pub tells : IsTrue g.tells → IsTrue h.tells
    pub moments : (c : Core) (base : List ℕ) (a b : FuseDisk D g) → LeavesOnly h.moment h.left_since a b (IsLeftByStep c base) → LeavesOnly g.moment g.left_since (fuse_inner a) (fuse_inner b) (IsLeftByStep c base)
    pub bytes : (fuse : FuseDisk D g) → h.bytes fuse ≡ g.bytes (fuse_inner fuse)
    pub images : (fuse : FuseDisk D g) (image : List ℕ) → g.may_leave (fuse_inner fuse) image → h.may_leave fuse image
    pub origin : (a b : FuseDisk D g) → h.origin b ≡ h.origin a → fuse_origin b ≡ fuse_origin a
    pub passed : (fuse : FuseDisk D g) → h.passed fuse ≡ fuse_passed fuse
    pub faults : (fuse : FuseDisk D g) → h.faults fuse ≡ g.faults (fuse_inner fuse) + g.stops (fuse_inner fuse)
    pub stops : (fuse : FuseDisk D g) → h.stops fuse ≡ fuse.stops
    pub restarts : (fuse : FuseDisk D g) → h.restarts fuse ≡ g.restarts (fuse_inner fuse)

  module _ (h : Ghosts (FuseDisk D g)) (is : IsFuse h) where
    module _ (n : ℕ) (began : D) (tells : IsTrue g.tells) where
      passes_inside : (m : ℕ) (a b : FuseDisk D g) (result : Result (Unit {0}) DiskError) → g.passed (fuse_inner a) ≡ counted (fuse_passed a) (g.passed began) → g.passed (fuse_inner b) ≡ counted (fuse_passed b) (g.passed began)
          → Passes m (h.passed a) (h.passed b) result → Passes m (g.passed (fuse_inner a)) (g.passed (fuse_inner b)) result
      passes_inside m a b result at_a at_b passes = record {
        ok = ok_inside result passes.ok;
        some = (passes.some.0, passes.some.1, on passes.some.0 passes.some.2);
        stopped = λ e any. let short = passes.stopped e any in (short.0, short.1, on short.0 short.2);
      }
        where
          on : (k : ℕ) → h.passed b ≡ counted k (h.passed a) → g.passed (fuse_inner b) ≡ counted k (g.passed (fuse_inner a))
          on k more =
              let inside : fuse_passed b ≡ counted k (fuse_passed a) = sym (is.passed b) ∙ more ∙ ap (counted k) (is.passed a) in
              at_b ∙ ap (λ (i : ℕ). counted i (g.passed began)) inside ∙ counted-counted k (fuse_passed a) (g.passed began) ∙ ap (counted k) (sym at_a)

          ok_inside : (r : Result (Unit {0}) DiskError) → OnOk r (h.passed b ≡ counted m (h.passed a)) → OnOk r (g.passed (fuse_inner b) ≡ counted m (g.passed (fuse_inner a)))
          ok_inside (Ok done) more = on m more
          ok_inside (Err e) more = tt

      -- A step that the fuse cut short was cut short after n writes and syncs.
      cause_inside : (a b : FuseDisk D g) (reply : Reply) → (fuse_origin b).disk ≡ began → (fuse_origin b).limit ≡ n → HasCause {T = Unit {0}} (h.faults a) (h.faults b) (h.stops a) (h.stops b) (reply_device reply)
          → StopCause g n began (fuse_inner a) (fuse_inner b) reply
      cause_inside a b reply same limit cause = record {
        kept = omega (arith, cause.faults_kept, is.faults a, is.faults b);
        failed = λ fault. subst (λ (i : ℕ). Rose i (g.faults (fuse_inner b) + g.stops (fuse_inner b))) (is.faults a) (subst (λ (i : ℕ). Rose (h.faults a) i) (is.faults b) (cause.failed (ap reply_device fault)));
        still = λ other. sym (is.faults b) ∙ cause.faults_still (λ told. other (told_fault reply told)) ∙ is.faults a;
        stopped = λ stop still.
            let blown : b.stops ≢ 0 = subst (λ (i : ℕ). i ≢ 0) (is.stops b) (rose_some (h.stops a) (h.stops b) cause.stops_kept (cause.stopped (ap reply_device stop))) in
            let at : fuse_passed b ≡ n = b.blown blown ∙ limit in
            b.tied tells (subst (λ x. Rose (g.stops x) (g.stops (fuse_inner b)) → ⊥) (sym same) still)
            ∙ ap (λ x. counted (fuse_passed b) (g.passed x)) same
            ∙ ap (λ (k : ℕ). counted k (g.passed began)) at;
      }

      -- Steps on a fuse are steps on the disk inside.
      pub fuse_steps : (c d : Core) (old new : FuseDisk D g) (events : List Event) → (fuse_origin old).disk ≡ began → (fuse_origin old).limit ≡ n
          → AreSteps (HeapStep h) c old events d new → AreSteps (Step g (Some n) began) c (fuse_inner old) events d (fuse_inner new)
      fuse_steps c d old new [] same limit steps = (steps.0, ap fuse_inner steps.1)
      fuse_steps c d old new (event ∷ events) same limit steps =
          let mid = steps.1 in
          let made = steps.2 in
          let first = made.disk.cause.faults_kept in
          let origin = is.origin old mid made.disk.origin in
          let same_mid : (fuse_origin mid).disk ≡ began = same_disk _ _ origin ∙ same in
          let limit_mid : (fuse_origin mid).limit ≡ n = same_limit _ _ origin ∙ limit in
          let low : g.faults (fuse_inner old) + g.stops (fuse_inner old) ≤ g.faults (fuse_inner mid) + g.stops (fuse_inner mid) = omega (arith, is.faults old, is.faults mid, first) in
          let one : Step g (Some n) began c (fuse_inner old) event steps.0 (fuse_inner mid) = record {
            reply = made.reply;
            step = made.step;
            cause = cause_inside old mid made.reply same_mid limit_mid made.disk.cause;
            moments = subst (λ (bytes : List ℕ). LeavesOnly g.moment g.left_since (fuse_inner old) (fuse_inner mid) (IsLeftByStep (cut c event) bytes)) (is.bytes old) (is.moments (cut c event) (h.bytes old) old mid made.moments);
            kept = λ image left. made.kept image (is.images mid image left);
            passes = λ u. passes_inside (calls c event) old mid (reply_device made.reply)
                (fuse_passes old began (fuse_passed old) tells same (λ rose. u (rose_until _ _ _ low rose)) refl)
                (fuse_passes mid began (fuse_passed mid) tells same_mid u refl)
                made.passes;
            restarts = sym (is.restarts mid) ∙ made.disk.restarts (is.tells tells) ∙ is.restarts old;
          } in
          (steps.0, fuse_inner mid, one, fuse_steps steps.0 d mid new events same_mid limit_mid steps.3)

  -- the same, by what the fuse keeps
  pub fuse_steps_of : {h : Ghosts (FuseDisk D g)} {x y : FuseDisk D g} {r : Result (Unit {0}) DiskError} {done : Type 0} → PlaysDisk h x y r done → IsFuse h → (n : ℕ) (began : D) → IsTrue g.tells
      → (c d : Core) (old new : FuseDisk D g) (events : List Event) → (fuse_origin old).disk ≡ began → (fuse_origin old).limit ≡ n
      → AreSteps (HeapStep h) c old events d new → AreSteps (Step g (Some n) began) c (fuse_inner old) events d (fuse_inner new)
  fuse_steps_of {h} keeps is n began tells c d old new events same limit steps = fuse_steps h is n began tells c d old new events same limit steps
