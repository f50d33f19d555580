use Rattle.std.proofs.Common.{rules, ◌≡◌, [], ◌∷◌, ◌++◌, ap, subst, inl, sym, ◌∙◌, append-nil}
use Rattle.turn_lock.specs.Turning.{IsBeginning, added}
use Rattle.turn_lock.specs.TwinPasses.{owes_of, seen_of, mine_of}
use Rattle.twin_ledger.proofs.Mirrors.{posting, rises_on}
use Rattle.twin_ledger.proofs.posting.post.Goals as goal

pub raise-requires-clause-beside : goal.raise-requires-clause-beside
raise-requires-clause-beside g c = let held = c.wait-held.ensures in let owes : owes_of c.wait-held.new.pass ≡ 0 = search rules in
    (c.wait-held.result.value, held.own, posting _ c.wait-held.result.value c.post.new.self (c.args.number ∷ []) _ 0 c.if-post.ensures.posted.0 c.if-post.ensures.same.2 owes)

pub raise-requires-else-post-clause-beside : goal.raise-requires-else-post-clause-beside
raise-requires-else-post-clause-beside g c = let held = c.wait-held.ensures in let owes : owes_of c.wait-held.new.pass ≡ 0 = search rules in
    (c.wait-held.result.value, held.own, posting _ c.wait-held.result.value c.post.new.self [] _ 0 (c.if-post.ensures.posted.0 ∙ sym (append-nil _)) c.if-post.ensures.same.2 owes)

pub returns-then-post-clause-rise : goal.returns-then-post-clause-rise
returns-then-post-clause-rise g c = let held = c.wait-held.ensures in let raised = c.raise.ensures in let put = c.put.ensures in let queued = c.queue-ticket.ensures.queued.2 in let mid = c.wait-held.new.pass in
    rises_on c.args.lock.now c.args.pass.now mid c.put.new.pass (subst (λ l. IsBeginning l (seen_of mid)) (ap (λ m. m.0.value.seen) queued) held.history.1) (held.mine.0 ∙ ap (λ m. m.0.value.mine) queued) held.mine.1
    (put.seen.1 ∙ (raised.mine ∙ ap (λ l. mine_of mid ++ added (seen_of mid) l) (sym put.seen.0)))
    (inl (c.args.number, put.seen.0 ∙ (sym raised.pass.1.entries_are ∙ (c.if-post.ensures.posted.0 ∙ ap (λ l. l ++ c.args.number ∷ []) held.history.0))))
