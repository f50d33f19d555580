use Rattle.std.proofs.Common.{rules, ◌≡◌, ap, sym, subst, ◌∙◌, ◌++◌, arith, ⊎_elim, List, ℕ}
use Rattle.std.proofs.lemmas.Option.{same_Some}
use Rattle.turn_lock.specs.Rule.{is_held}
use Rattle.turn_lock.specs.Turning.{IsBeginning, added}
use Rattle.turn_lock.specs.TwinPasses.{uncounted, seen_of, mine_of}
use Rattle.twin_ledger.proofs.Mirrors.{OneMore, following, as_raised, no_more, more_posts, one_more, rises_on}
use Rattle.twin_ledger.proofs.posting.post_and_follow.Goals as goal

pub follow-owes-requires : goal.follow-owes-requires
follow-owes-requires g c =
    let more = more_posts _ _ _ _ c.post_one-posted.ensures.posted in let queued = c.queue_device-place.ensures.value in let held = c.wait-held.ensures in let beside = c.wait_device-mirror.ensures.beside in
    let shown : c.as_slice.result.now ≡ c.post_one-posted.new.self.posts.items = search rules in
    let own = sym (beside.4 (ap (λ v. is_held v.stage) queued.view ∙ ap is_held held.pass.1.value)) ∙ (queued.own ∙ held.own) in
    record { fewer = no_more _ _ more.0 _ (subst (λ j. IsBeginning c.wait_device-mirror.result.device.copied.items j.posts.items) (same_Some _ _ own) beside.3.first) (shown ∙ more.1) }

pub raise_both-requires-clause-beside : goal.raise_both-requires-clause-beside
raise_both-requires-clause-beside g c = let more = more_posts _ _ _ _ c.post_one-posted.ensures.posted in let shown : c.as_slice.result.now ≡ c.post_one-posted.new.self.posts.items = search rules in (
  c.wait-held.result.value,
  c.wait_device-mirror.result.device,
  search rules,
  c.wait_device-mirror.ensures.device.0,
  following c.wait-held.result.value c.post_one-posted.new.self c.wait_device-mirror.result.device c.follow-owes.new.self more.0 _ _ _ shown more.1
      c.post_one-posted.ensures.same.2 c.follow-owes.ensures,
)

pub put_device-requires-clause-beside : goal.put_device-requires-clause-beside
put_device-requires-clause-beside g c = let raised = c.raise_both.ensures in (c.follow-owes.new.self, raised.raised.1, as_raised _ c.follow-owes.new.self _ _ raised.owes)

pub returns-clause-owing : goal.returns-clause-owing
returns-clause-owing g c =
    let held = c.wait_device-mirror.ensures in let gave = c.put_device.ensures in let put = c.put.ensures in let does = c.follow-owes.ensures in (
      record {
        of_lock = search rules;
        at_rest = record { value = put.passed.0; device = ap (λ v. v.stage) put.device.0.view ∙ gave.passed.0; slots = put.passed.1 };
        owes_is = put.device.1 ∙ gave.saw.1;
        saw = λ e. ⊎_elim (λ w. absurd (omega (arith, e, w.0))) (λ f. (_, ap uncounted put.device.0.saw ∙ gave.saw.0, f.1)) does;
      },
      ⊎_elim (λ w. omega (arith, w.0)) (λ f. omega (arith, f.0)) does,
    )

pub returns-clause-rise : goal.returns-clause-rise
returns-clause-rise g c =
    let held = c.wait-held.ensures in let raised = c.raise_both.ensures in let gave = c.put_device.ensures in let put = c.put.ensures in let queued = c.queue-ticket.ensures.queued.2 in let mid = c.wait-held.new.pass in
    let view = c.wait_device-mirror.ensures.value.0.view ∙ c.queue_device-place.ensures.value.view in
    let seen : seen_of c.put.new.pass ≡ seen_of c.raise_both.new.pass = put.seen.0 ∙ ap (λ v. v.seen) gave.value.view in
    let now = raised.raised.3 ∙ sym seen in
    rises_on c.args.lock.now c.args.pass.now mid c.put.new.pass (subst (λ l. IsBeginning l (seen_of mid)) (ap (λ m. m.0.value.seen) queued) held.history.1) (held.mine.0 ∙ ap (λ m. m.0.value.mine) queued) held.mine.1
    (put.seen.1 ∙ (ap (λ v. v.mine) gave.value.view ∙ (raised.mine ∙ (ap (λ v. v.mine ++ added v.seen (seen_of c.raise_both.new.pass)) view ∙ ap (λ l. mine_of mid ++ added (seen_of mid) l) (sym seen)))))
    (subst (λ (p : List ℕ × List ℕ). OneMore p.0 p.1) (λ i. (held.history.0 i, now i)) (one_more _ _ _ _ c.post_one-posted.ensures.posted))
