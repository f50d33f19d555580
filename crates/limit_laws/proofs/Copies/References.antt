-- That references which gray objects had at the flip are still followed.
use Rattle.std.specs.Prelude.{◌≡◌, ℕ, true, Some, is_some, slice_get, Contains}
use Rattle.std.specs.FinSet.{contains}
use Rattle.graph_model.specs.declared.id.Id.{Id}
use Rattle.graph_model.specs.declared.val.Val.TheVariants.{Ref}
use Rattle.graph_model.specs.Graph.{Graph, fields}
use Rattle.graph_model.specs.History.{Account}
use Rattle.graph_model.specs.Locking.{Exclusive, locks_of}
use Rattle.graph_model.specs.Transaction.{Transaction, run, serial}
use Rattle.heap_spaces.specs.Collection.{Collection}
use Rattle.log_machine.specs.Machine.{State}
use Rattle.graph_words.specs.Places.{address_of}
use Rattle.heap_model.specs.Core.{Core}

-- Where a gray object referred at the flip to one that remains, it does so in a graph.
abbrev pub GraysRefer : Graph → Graph → Core → State → Type 0
GraysRefer g sealed e s = (k : Collection) → s.collection ≡ Some k → (z y : Id) (at i : ℕ) → address_of e.places z ≡ Some at → contains k.gray at ≡ true → slice_get (fields g z) i ≡ Some (Ref y)
    → is_some (address_of e.remaining y) ≡ true → slice_get (fields sealed z) i ≡ Some (Ref y)

-- By what an account says: it does so in the graph that the sealed transactions have left, and in what those see that have locked it exclusively.
pub record KeepsReferences (g : Graph) (a : Account) (e : Core) (s : State) : Type 0 where
  pub sealed : GraysRefer g (serial e.g0 a.sealed) e s
  pub seen : (k : Collection) → s.collection ≡ Some k → (r : ℕ) (t : Transaction) (z y : Id) (at i : ℕ) → a.active r ≡ Some t → Contains (locks_of (serial e.g0 a.sealed) t) (z, Exclusive) → address_of e.places z ≡ Some at
      → contains k.gray at ≡ true → slice_get (fields g z) i ≡ Some (Ref y) → is_some (address_of e.remaining y) ≡ true → slice_get (fields (run (serial e.g0 a.sealed) t).graph z) i ≡ Some (Ref y)

-- An event leaves it so, and what was gray before it with these references.
pub record StaysReferring (g : Graph) (b : Account) (e f : Core) (s n : State) : Type 0 where
  pub before : GraysRefer g (serial f.g0 b.sealed) e s
  pub later : KeepsReferences g b f n
