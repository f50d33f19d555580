-- An image stands for one graph, up to the names of objects, and for one number of commits.
use Rattle.std.proofs.Common.{◌≡◌, ℕ, List, Some, sym, ap, ◌∙◌, subst, arith}
use Rattle.gate_slot.proofs.ImageLaws.{length_part}
use Rattle.graph_model.specs.Graph.{Graph}
use Rattle.graph_model.specs.Canon.{canon}
use Rattle.image_plan.specs.declared.superblock.Super.{Super}
use Rattle.image_plan.specs.Plan.{log_offset}
use Rattle.image_plan.proofs.SuperLaws.{one_super}
use Rattle.log_machine.specs.Machine.{State}
use Rattle.gated_log.specs.Log.{HoldsBatches}
use Rattle.gated_log.proofs.LogLaws.{holds_once}
use Rattle.page_cache.specs.Stored.{stored_pages}
use Rattle.object_layout.specs.Layout.{id_at, IsSeen}
use Rattle.object_layout.proofs.SeenLaws.{seen_canon}
use Rattle.heap_model.specs.Theorems.{OneMeaningTheorem}
use Rattle.heap_model.specs.Image.{StoredHeap, log_part, words_of, IsLegalLog, IsLegal, Says}

-- where an image holds two heaps with one superblock, they have one log
one_log : (stored other : StoredHeap) (image : List ℕ) → IsLegal stored image → IsLegal other image → stored.super ≡ other.super → stored.batches ≡ other.batches
one_log stored other image legal also same =
    let s = stored.super in
    let size = legal.held.size in
    let limits = legal.log.shaped.limits.small_log in
    let long = length_part image log_offset s.log_bytes (omega arith) in
    let there = subst (λ (x : Super). HoldsBatches (log_part x image) other.batches) (sym same) also.held.log in
    holds_once (log_part s image) (omega arith) stored.batches other.batches legal.log.shaped.good also.log.shaped.good legal.held.log there

-- an image holds one heap
pub one_held : (stored other : StoredHeap) (image : List ℕ) → IsLegal stored image → IsLegal other image → stored ≡ other
one_held stored other image legal also =
    let super : stored.super ≡ other.super = one_super stored.super other.super legal.log.shaped.limits also.log.shaped.limits (sym legal.held.super ∙ also.held.super) in
    let batches = one_log stored other image legal also super in
    let pages : stored.pages ≡ other.pages = sym legal.held.pages ∙ ap (λ (x : Super). stored_pages x.pages x.log_bytes image) super ∙ also.held.pages in
    λ i. record { super = super i; batches = batches i; pages = pages i }

-- a log says one state
one_state : (stored : StoredHeap) (legal other : IsLegalLog stored) → legal.shaped.state ≡ other.shaped.state
one_state stored legal other = let same : Some legal.shaped.state ≡ Some other.shaped.state = sym legal.shaped.reached ∙ other.shaped.reached in cc

-- one graph, up to names, and one number of commits
pub one_said : (g h : Graph) (k j : ℕ) (stored : StoredHeap) → Says g k stored → Says h j stored → (canon g ≡ canon h) × (k ≡ j)
one_said g h k j stored says other =
    let state = one_state stored says.legal other.legal in
    let base = ap (λ (x : State). x.base) state in
    let words = words_of stored in
    let there = subst (λ n. IsSeen words n says.seen) base says.shows in (
      sym says.graph ∙ seen_canon (id_at words) (id_at words) words other.legal.shaped.state.base says.seen other.seen there other.shows ∙ other.graph,
      sym says.count ∙ ap (λ (x : State). x.commits) state ∙ other.count,
    )

-- An image stands for one graph, up to names, and for one number of commits.
pub one_graph : OneMeaningTheorem
one_graph g h k j image stands other =
    let same = one_held stands.stored other.stored image (record { log = stands.says.legal; held = stands.held }) (record { log = other.says.legal; held = other.held }) in
    one_said g h k j stands.stored stands.says (subst (Says h j) (sym same) other.says)
