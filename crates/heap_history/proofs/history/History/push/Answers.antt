use Rattle.std.proofs.Common.{◌++◌, ◌∷◌, [], ◌∙◌, ap, arith}
use Rattle.heap_history.specs.Kept.{entries_in}
use Rattle.heap_history.proofs.KeptLists.{entries_more, kept_more}
use Rattle.heap_history.proofs.history.History.push.Goals as goal

pub invariant_of-self : goal.invariant_of-self
invariant_of-self c =
    let old = c.self.inside in (
      kept_more old.whole.items c.keep-kept.new.whole.items old.kept.items c.push_reserved.new.self.items c.keep-kept.result (record { event = c.args.event; reply = c.args.reply }) old.durable _ c.keep-kept.ensures.others c.self.invariant.0 c.keep-kept.ensures.within c.keep-kept.ensures.same c.push_reserved.ensures.items
          (c.greatest_durable-self-inside.ensures (entries_in old.whole.items old.kept.items) c.args.event),
      omega arith,
      omega arith,
    )

pub returns-clause-entries : goal.returns-clause-entries
returns-clause-entries c =
    let old = c.self.inside in
    entries_more old.whole.items c.keep-kept.new.whole.items old.kept.items c.push_reserved.new.self.items c.keep-kept.result (record { event = c.args.event; reply = c.args.reply }) c.keep-kept.ensures.others c.self.invariant.0.within c.keep-kept.ensures.same c.push_reserved.ensures.items
    ∙ ap (λ recorded. recorded.entries ++ record { event = c.args.event; reply = c.args.reply } ∷ []) c.self.view_is
