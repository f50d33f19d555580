use Rattle.std.proofs.Common.{subst}
use Rattle.graph_model.specs.History.{account}
use Rattle.graph_model.specs.Graph.{new_graph}
use Rattle.graph_model.proofs.Refusals.Plain.{IsSoundReply, plain_reply-IsSoundReply}
use Rattle.slow_heap.proofs.Kept.{kept_entry, kept_refused}
use Rattle.slow_heap.proofs.slow_heap.SlowHeap.refuse.Goals as goal

pub invariant_of-self-2 : goal.invariant_of-self-2
invariant_of-self-2 c =
    kept_entry c.self.inside.history.items _ _ _ _ _ c.in_ok-push.ensures.items
    (kept_refused (account c.self.inside.history.items) _ _ _ c.args.event c.args.why
    (subst IsSoundReply c.requires (plain_reply-IsSoundReply 1 new_graph (account c.args.self.now) c.args.event)) c.self.invariant)
