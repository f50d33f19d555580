-- What a disk holds stays where it is changed inside of the log alone, and what an opening leaves of it.
use Rattle.std.proofs.Common.{◌≡◌, inl, inr, ℕ, ◌+◌, ◌≤◌, List, take, refl, sym, ◌∙◌, subst, arith}
use Rattle.gate_slot.proofs.ImageLaws.{same_part}
use Rattle.graph_model.specs.Graph.{Graph}
use Rattle.graph_model.specs.History.{commits}
use Rattle.graph_model.specs.Transaction.{serial}
use Rattle.log_records.specs.declared.Record.{Record}
use Rattle.gated_log.specs.Log.{HoldsBatches}
use Rattle.page_cache.proofs.ImageLaws.{stored_behind_log}
use Rattle.heap_model.specs.Core.{Core}
use Rattle.heap_model.specs.CoreCrash.{IsSuperOf, StandsForFirst}
use Rattle.heap_model.proofs.Opening.Rolled.{next_is, rolled_shaped, rolled_says}
use Rattle.heap_model.specs.Image.{StoredHeap, log_part, SameOutsideLog, Holds, IsShapedLog, Says, StandsFor}
use Rattle.heap_model.specs.Opening.{rolled_back, next_of, IsLater, IsLeftByOpening}

-- an image with the same bytes outside of the log, whose log holds other batches
pub held_with : (stored : StoredHeap) (others : List (List Record)) (old new : List ℕ) → Holds stored old → SameOutsideLog stored.super old new
    → HoldsBatches (log_part stored.super new) others → Holds (record stored { batches = others }) new
held_with stored others old new held outside holds = record {
  size = omega (arith, held.size, outside.size);
  super = same_part 0 64 old new outside.size (λ i low high. outside.before i (omega arith)) ∙ held.super;
  log = holds;
  pages = stored_behind_log stored.super.pages stored.super.log_bytes old new outside ∙ held.pages;
}

-- an opening may leave the heap as it was found
pub left_as_found : {stored : StoredHeap} {image : List ℕ} → Holds stored image → IsLeftByOpening stored image
left_as_found {stored} held = (stored, inl refl, held)

-- or rolled back
pub left_rolled_back : {stored : StoredHeap} {image : List ℕ} → Holds (rolled_back stored) image → IsLeftByOpening stored image
left_rolled_back {stored} held = (rolled_back stored, inr refl, held)

-- what holds of a stored heap, and of it rolled back, holds of all that an opening may make of it
pub later_has : (P : StoredHeap → Type 0) {stored later : StoredHeap} → IsLater stored later → P stored → P (rolled_back stored) → P later
later_has P (inl same) found rolled = subst P (sym same) found
later_has P (inr same) found rolled = subst P (sym same) rolled

-- what a stored heap says, it says after an opening
pub later_says : (g : Graph) (k : ℕ) {stored later : StoredHeap} → IsLater stored later → Says g k stored → Says g k later
later_says g k {stored} is says = later_has (Says g k) is says (rolled_says g k stored says)

-- what an image stands for, each image stands for that an opening of it leaves
abbrev pub left_stands : (g : Graph) (k : ℕ) (image : List ℕ) (stands : StandsFor g k image) (new : List ℕ) → IsLeftByOpening stands.stored new → StandsFor g k new
left_stands g k image stands new left = record { stored = left.0; says = later_says g k left.1 stands.says; held = left.2 }

-- an opening changes neither superblock nor next number
pub later_of : {c : Core} {stored later : StoredHeap} → IsLater stored later → IsSuperOf stored.super c → IsSuperOf later.super c
later_of {c} is of = later_has (λ (x : StoredHeap). IsSuperOf x.super c) is of of

pub later_next : (first : ℕ) {stored later : StoredHeap} → IsLater stored later → IsShapedLog stored → first ≤ next_of stored → first ≤ next_of later
later_next first {stored} is shaped low =
    let same : next_of (rolled_back stored) ≡ next_of stored = next_is (rolled_back stored) (rolled_shaped stored shaped) ∙ sym (next_is stored shaped) in
    later_has (λ (x : StoredHeap). first ≤ next_of x) is low (omega (arith, low, same))

-- an image of the first k commits leaves images of the same when it is opened
pub left_first : (c : Core) (k : ℕ) (image : List ℕ) (first : StandsForFirst c k image) (new : List ℕ) → IsLeftByOpening first.stands.stored new → StandsForFirst c k new
left_first c k image first new left = record {
  stands = left_stands (serial c.g0 (take k (commits c.history))) (c.before + k) image first.stands new left;
  of = later_of {c = c} left.1 first.of;
  next = later_next c.first left.1 first.stands.says.legal.shaped first.next;
  kept = first.kept;
  forced = first.forced;
  some = first.some;
}
