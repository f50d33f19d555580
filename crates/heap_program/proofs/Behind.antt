-- Over a whole run each byte past the plan stays as it was.
use Rattle.std.proofs.Common.{inl, inr, ⊎_elim, ℕ, ◌+◌, ◌≤◌, List, [], ◌∷◌, Option, sym, subst, arith}
use Rattle.disk_model.specs.declared.disk.Disk.{Ghosts}
use Rattle.disk_model.specs.Moments.{LeavesOnly}
use Rattle.disk_model.proofs.MomentLaws.{begins, weaker}
use Rattle.graph_model.specs.declared.event.Event.{Event}
use Rattle.image_plan.specs.Plan.{image_size, log_offset}
use Rattle.heap_core.specs.Refinement.{SameBehind, IsLeftByStep}
use Rattle.heap_core.proofs.StepsLaws.{cut_behind}
use Rattle.heap_model.specs.Core.{Core, cut}
use Rattle.heap_model.specs.CoreCrash.{StandsForFirst, IsCommitPrefix, IsSuperOf}
use Rattle.heap_model.proofs.Outside.{outside_within, outside_then}
use Rattle.heap_model.proofs.Run.Calls.{same_step}
use Rattle.heap_model.proofs.Run.Opening.{SameOpening}
use Rattle.heap_recovery.specs.Faults.{IsLogLeft}
use Rattle.heap_program.specs.Headline.{KeepsFirst}
use Rattle.heap_core.specs.Steps.{AreSteps}
use Rattle.heap_program.specs.Steps.{Step}
use Rattle.heap_program.proofs.PlayOpen.{opening_then}
use Rattle.heap_model.specs.Image.{StoredHeap}

-- A core has the plan of the one that it comes from.
pub behind_on : (c d : Core) (base image : List ℕ) → SameOpening c d → SameBehind c base image → SameBehind d base image
behind_on c d base image same behind = outside_within 0 (image_size c.pages c.room) 0 (image_size d.pages d.room) base image (omega arith) (omega (arith, same.pages, same.room)) behind

pub behind_back : (c d : Core) (base image : List ℕ) → SameOpening c d → SameBehind d base image → SameBehind c base image
behind_back c d base image same behind = outside_within 0 (image_size d.pages d.room) 0 (image_size c.pages c.room) base image (omega arith) (omega (arith, same.pages, same.room)) behind

module _ {D : Type 0} (g : Ghosts D) where
  -- what a modelled disk says of its images
  pub record HasImages : Type 0 where
    pub counts : (disk : D) (t : ℕ) (image : List ℕ) → t ≤ g.moment disk → g.may_leave disk image → g.left_since disk t image
    pub now : (disk : D) (image : List ℕ) → g.left_since disk (g.moment disk) image → g.may_leave disk image
    pub reads : (disk : D) → g.may_leave disk (g.bytes disk)

  -- what a crash leaves at each moment, in two respects
  pub both : (old new : D) (P Q : List ℕ → Type 0) → LeavesOnly g.moment g.left_since old new P → LeavesOnly g.moment g.left_since old new Q → LeavesOnly g.moment g.left_since old new (λ image. P image × Q image)
  both old new P Q one other = record {
    later = one.later;
    each = λ image left. (one.each image left, other.each image left);
    before = λ t image le left. ⊎_elim inl (λ p. ⊎_elim inl (λ q. inr (p, q)) (other.before t image le left)) (one.before t image le left);
  }

  -- An opening writes in the log alone.
  pub opening_behind : (c : Core) (stored : StoredHeap) (base : List ℕ) (old new : D) → IsSuperOf stored.super c → LeavesOnly g.moment g.left_since old new (IsLogLeft stored base) → LeavesOnly g.moment g.left_since old new (SameBehind c base)
  opening_behind c stored base old new of moments =
      weaker g.moment g.left_since old new (IsLogLeft stored base) (SameBehind c base) moments
      (λ image left. outside_within log_offset (log_offset + stored.super.log_bytes) 0 (image_size c.pages c.room) base image (omega arith) (omega (arith, of.pages, of.room)) left.3)

  -- After a restart openings leave commit prefixes, and the bytes past the plan of an image that the crash left.
  pub first_leaves : (c : Core) (k : ℕ) (base : List ℕ) (old new : D) → SameBehind c base (g.bytes old) → KeepsFirst g c k old new → LeavesOnly g.moment g.left_since old new (IsLeftByStep c base)
  first_leaves c k base old new same keeps =
      weaker g.moment g.left_since old new (λ image. StandsForFirst c k image × SameBehind c (g.bytes old) image) (IsLeftByStep c base)
      (both old new (StandsForFirst c k) (SameBehind c (g.bytes old)) keeps.moments keeps.outside)
      (λ image is. record { commits = (k, is.0); outside = outside_then 0 (image_size c.pages c.room) base (g.bytes old) image same is.1 })

  module _ (has : HasImages) (base : List ℕ) where
    -- what holds at each moment holds now
    pub leaves_now : (old new : D) (P : List ℕ → Type 0) → LeavesOnly g.moment g.left_since old new P → (image : List ℕ) → g.may_leave new image → P image
    leaves_now old new P moments image may = moments.each image (has.counts new (g.moment old) image moments.later may)

    -- Each step leaves them.
    pub steps_behind : (stop : Option ℕ) (start : D) (c d : Core) (old new : D) (events : List Event) → ((image : List ℕ) → g.may_leave old image → SameBehind c base image) → AreSteps (Step g stop start) c old events d new
        → LeavesOnly g.moment g.left_since old new (SameBehind c base)
    steps_behind stop start c d old new [] here steps =
        subst (λ disk. LeavesOnly g.moment g.left_since old disk (SameBehind c base)) (sym steps.1) (begins g.moment g.left_since old (SameBehind c base) (λ image left. here image (has.now old image left)))
    steps_behind stop start c d old new (event ∷ events) here steps =
        let mid = steps.0 in
        let between = steps.1 in
        let step = steps.2 in
        let same = same_step c mid event step.reply step.step in
        let first = weaker g.moment g.left_since old between (IsLeftByStep (cut c event) (g.bytes old)) (SameBehind c base) step.moments
        (λ image left. outside_then 0 (image_size c.pages c.room) base (g.bytes old) image (here (g.bytes old) (has.reads old)) (cut_behind c event (g.bytes old) image left.outside)) in
        let rest = steps_behind stop start mid d between new events (λ image may. behind_on c mid base image same (leaves_now old between (SameBehind c base) first image may)) steps.3 in
        opening_then g.moment g.left_since old between new (SameBehind c base) (SameBehind c base) first
        (weaker g.moment g.left_since between new (SameBehind mid base) (SameBehind c base) rest (λ image. behind_back c mid base image same)) (λ image behind. behind)

    -- So do an opening and the steps after it.
    pub played_behind : (stop : Option ℕ) (start : D) (c d : Core) (first old new : D) (events : List Event) → LeavesOnly g.moment g.left_since first old (SameBehind c base) → AreSteps (Step g stop start) c old events d new
        → LeavesOnly g.moment g.left_since first new (SameBehind c base)
    played_behind stop start c d first old new events opening steps =
        opening_then g.moment g.left_since first old new (SameBehind c base) (SameBehind c base) opening
        (steps_behind stop start c d old new events (leaves_now first old (SameBehind c base) opening) steps) (λ image behind. behind)

    -- What a crash leaves then is a commit prefix with those bytes,
    pub leaves_both : (c d : Core) (first new : D) → SameOpening c d → LeavesOnly g.moment g.left_since first new (SameBehind c base) → ((image : List ℕ) → g.may_leave new image → IsCommitPrefix d image)
        → (image : List ℕ) → g.may_leave new image → IsLeftByStep d base image
    leaves_both c d first new same behind keeps image may = record { commits = keeps image may; outside = behind_on c d base image same (leaves_now first new (SameBehind c base) behind image may) }

    -- and the bytes stay when the disk is started again.
    pub again_behind : (c d : Core) (first stopped final : D) → SameOpening c d → LeavesOnly g.moment g.left_since first stopped (SameBehind c base) → LeavesOnly g.moment g.left_since stopped final (IsLeftByStep d base)
        → LeavesOnly g.moment g.left_since first final (SameBehind c base)
    again_behind c d first stopped final same behind rest =
        opening_then g.moment g.left_since first stopped final (SameBehind c base) (SameBehind c base) behind
        (weaker g.moment g.left_since stopped final (IsLeftByStep d base) (SameBehind c base) rest (λ image left. behind_back c d base image same left.outside)) (λ image is. is)

  pub leaves_commits : (c : Core) (base : List ℕ) (old new : D) → LeavesOnly g.moment g.left_since old new (IsLeftByStep c base) → LeavesOnly g.moment g.left_since old new (IsCommitPrefix c)
  leaves_commits c base old new moments = weaker g.moment g.left_since old new (IsLeftByStep c base) (IsCommitPrefix c) moments (λ image left. left.commits)
