use Rattle.std.proofs.Common.{◌≡◌, List, sym, ap, ◌∙◌, subst}
use Rattle.commit_order.specs.Heard.{replies_of_commits}
use Rattle.commit_order.specs.SerialOrder.{IsCommitOrdered}
use Rattle.core_laws.proofs.Run.Replies.{ordered_law, replies_law}
use Rattle.graph_model.specs.declared.reply.Entry.{Entry}
use Rattle.graph_model.specs.History.{commits}
use Rattle.graph_model.specs.Transaction.{serial_replies}
use Rattle.heap_core.specs.HeapState.{entries_of}
use Rattle.heap_core.proofs.heap.Heap.history.Goals as goal

pub returns-clause-serial : goal.returns-clause-serial
returns-clause-serial g c core heap reached = subst (IsCommitOrdered core.g0) (sym (ap entries_of c.history.ensures ∙ heap.history)) (ordered_law core reached)

pub returns-clause-committed : goal.returns-clause-committed
returns-clause-committed g c core heap reached =
    let P : List Entry → Type 0 = λ entries. replies_of_commits entries ≡ serial_replies core.g0 (commits entries) in
    subst P (sym (ap entries_of c.history.ensures ∙ heap.history)) (replies_law core reached)
