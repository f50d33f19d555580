-- What references lead to from the root and from what active transactions have overwritten references to.
use Rattle.std.specs.Prelude.{◌≡◌, ℕ, Contains, Some, slice_get}
use Rattle.graph_model.specs.declared.id.Id.{Id}
use Rattle.graph_model.specs.declared.val.Val.TheVariants.{Ref}
use Rattle.graph_model.specs.Graph.{fields, root}
use Rattle.graph_model.specs.Transaction.{Transaction}
use Rattle.heap_words.specs.declared.Word.TheVariants.{Stable}
use Rattle.heap_words.specs.Word.{meaning}
use Rattle.log_machine.specs.declared.UndoEntry.{UndoEntry}
use Rattle.graph_words.specs.Places.{address_of}
use Rattle.heap_model.specs.Core.{Core, all_records, undo_behind}
use Rattle.core_laws.specs.Active.{active_in}
use Rattle.limit_laws.specs.Copies.{sealed_graph}

-- An active transaction has overwritten a reference to an object: a write of it that may be taken back puts that reference back.
pub record IsOverwritten (c : Core) (id : Id) : Type 0 where
  pub session : ℕ
  pub transaction : Transaction
  pub active : active_in c session ≡ Some transaction
  pub entry : UndoEntry
  pub written : Contains (undo_behind c (all_records c) transaction.number) entry
  pub at : ℕ
  pub refers : meaning entry.was ≡ Some (Stable at)
  pub stands : address_of c.places id ≡ Some at

-- What references lead to in the graph that the sealed transactions have left, from there.
pub data IsKept (c : Core) : Id → Type 0 where
  of_root : IsKept c root
  of_overwritten : {id : Id} → IsOverwritten c id → IsKept c id
  of_field : {id : Id} (i : ℕ) (target : Id) → IsKept c id → slice_get (fields (sealed_graph c) id) i ≡ Some (Ref target) → IsKept c target
