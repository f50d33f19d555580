-- What the slow heap keeps, in the words of the model.
use Rattle.std.specs.Prelude.{◌≡◌, ℕ, ◌+◌, ◌≤◌, List, [], length, take, slice_index_or, None}
use Rattle.std.specs.Ordering.{nat_cmp}
use Rattle.std.specs.BTreeMap as tree
use Rattle.std.specs.BTreeMap.{BTreeMap}
use Rattle.graph_model.specs.declared.id.Id.{Id}
use Rattle.graph_model.specs.declared.val.Val.{Val}
use Rattle.graph_model.specs.declared.reply.Reply.{Reply}
use Rattle.slow_heap.specs.declared.transaction_view.TransactionView.{TransactionView}
use Rattle.graph_model.specs.Graph.{new_graph}
use Rattle.graph_model.specs.Transaction.{View, Outcome, Transaction, serial}
use Rattle.graph_model.specs.History.{Account}
use Rattle.slow_heap.specs.Objects.{graph_of}

-- what a transaction sees, as it is kept
abbrev pub seen_by : TransactionView → View
seen_by v = record { graph = graph_of v.objects; registers = v.handles; made = v.made }

-- What was done left the transaction its number, and this is what it sees after it and what it was answered.
pub record Leaves (before after : TransactionView) (reply : Reply) (done : Outcome) : Type 0 where
  pub number : after.number ≡ before.number
  pub outcome : done ≡ record { view = seen_by after; reply = reply }

-- What the slow heap keeps is what its history says.
pub record IsSlowHeap (a : Account) (next : ℕ) (active : BTreeMap ℕ Transaction) (states : List (List (Id × List Val))) : Type 0 where
  pub unfailed : a.failed ≡ None
  pub numbered : next ≡ 1 + a.begun
  pub own : (s : ℕ) → tree.get nat_cmp active s ≡ a.active s
  pub count : length states ≡ length a.sealed + 1
  pub graphs : (k : ℕ) → k ≤ length a.sealed → serial new_graph (take k a.sealed) ≡ graph_of (slice_index_or states k [])
