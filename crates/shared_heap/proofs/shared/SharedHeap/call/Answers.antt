use Rattle.std.proofs.Common.{◌++◌, ℕ, drop, sym, ap, ◌∙◌, subst, arith}
use Rattle.heap_core.specs.HeapState.{history_of}
use Rattle.shared_heap.proofs.CallLaws.{Leaves, leaves, recorded_on, sent_of_session}
use Rattle.shared_heap.proofs.FollowsLaws.{follows_lacking, follows_told}
use Rattle.shared_heap.proofs.FrontLaws.{front_of_entry, acknowledged_greatest}
use Rattle.turn_lock.specs.Passes.{label_of, seen_of, mine_of}
use Rattle.turn_lock.specs.Turning.{StandIn, added, greatest}
use Rattle.shared_heap.proofs.shared.SharedHeap.call.Goals as goal

pub step-answer-requires : goal.step-answer-requires
step-answer-requires g c = sent_of_session (label_of c.args.pass.now) c.args.event c.requires.event

left : (g : _) (c : goal.After-give g) → Leaves c.args.event (seen_of c.args.pass.now) (seen_of c.give.new.pass) (mine_of c.args.pass.now) (mine_of c.give.new.pass) c.step-answer.result
left g c =
    let held = c.hold-held.ensures in
    let gave = c.give.ensures in
    leaves c.args.event (seen_of c.args.pass.now) (seen_of c.hold-held.new.pass) (seen_of c.give.new.pass) (mine_of c.args.pass.now) (mine_of c.give.new.pass) c.step-answer.result
    (recorded_on c.args.event (seen_of c.hold-held.new.pass) (seen_of c.give.new.pass) (history_of c.hold-held.result.value.heap) (history_of c.step-answer.new.self.heap) c.step-answer.result gave.history held.history.0 c.step-answer.ensures.recorded)
    held.history.1
    (subst (StandIn (seen_of c.hold-held.new.pass)) held.mine.0 held.mine.1)
    c.requires.pass.rises
    (gave.mine ∙ ap (λ l. l ++ added (seen_of c.hold-held.new.pass) (seen_of c.give.new.pass)) held.mine.0)

pub returns-clause-pass : goal.returns-clause-pass
returns-clause-pass g c =
    let held = c.hold-held.ensures.pass.0 in
    let gave = c.give.ensures.pass in
    let of = c.requires.pass.of_lock in (
      record {
        of_lock = record {
          lock_is = gave.0.lock ∙ (held.lock ∙ of.lock_is);
          first_is = gave.0.first ∙ (held.first ∙ of.first_is);
          number = λ none. of.number (sym held.numbers ∙ (sym gave.0.numbers ∙ none));
        };
        resting = gave.1;
        rises = (left g c).rises;
      },
      record { lock = gave.0.lock ∙ held.lock; first = gave.0.first ∙ held.first; label = gave.0.label ∙ held.label; numbers = gave.0.numbers ∙ held.numbers; parts = gave.0.parts ∙ held.parts },
    )

pub returns-clause-seen : goal.returns-clause-seen
returns-clause-seen g c = (left g c).seen_on

pub returns-clause-answered : goal.returns-clause-answered
returns-clause-answered g c = (left g c).answered

pub returns-clause-core : goal.returns-clause-core
returns-clause-core g c = follows_told _ c.step-answer.new.self.heap (seen_of c.give.new.pass) c.give.ensures.history (c.step-answer.ensures.follows _ c.hold-held.ensures.same_value.1)

pub returns-clause-memory : goal.returns-clause-memory
returns-clause-memory g c = let step = c.step-answer.ensures in
    follows_lacking _ c.hold-held.result.value.heap c.args.event (seen_of c.give.new.pass) (history_of c.step-answer.new.self.heap) c.step-answer.result c.give.ensures.history step.recorded step.memory c.hold-held.ensures.same_value.1

pub returns-clause-front : goal.returns-clause-front
returns-clause-front g c =
    let held = c.hold-held.ensures.front in
    let gave = c.give.ensures.front in
    let seen = seen_of c.give.new.pass in
    (gave.0 ∙ (ap (λ (n : ℕ). greatest front_of_entry (drop n seen)) c.args.self.now.began ∙ acknowledged_greatest (drop _ seen)), omega (arith, held.1, gave.1))
