use Rattle.std.proofs.Common.{◌≡◌, [], ◌<◌, drop, length, ap, sym, ◌∙◌, arith}
use Rattle.log_machine.specs.Machine.{undo_in}
use Rattle.log_machine.proofs.Lists.{is_found, put_list, stands_at, stands_not, kept_shorter, popped}
use Rattle.log_machine.proofs.Seen.{seen}
use Rattle.log_machine.proofs.undo_lists.UndoLists.shorten.Goals.{After-pop}
use Rattle.log_machine.proofs.undo_lists.UndoLists.shorten.Goals as goal

-- the writes that stood there
before : (c : After-pop) → undo_in c.args.self.now c.args.t ≡ seen c.in-Some.list.now
before c = ap (λ undo. undo_in undo c.args.t) (sym c.self.view_is) ∙ stands_at c.self.inside.lists.entries c.args.t c.in-Some.list.now c.in-Some.ensures.value

long : (c : After-pop) → 1 < length (seen c.in-Some.list.now)
long c = let many = c.requires in let same = ap length (before c) in omega arith

less : (c : After-pop) → seen c.pop.new.self ≡ drop 1 (seen c.in-Some.list.now)
less c = popped c.in-Some.list.now c.pop.new.self c.pop.result c.pop.ensures.items c.pop.ensures.variant.1 (long c)

pub overflow_sub-self : goal.overflow_sub-self
overflow_sub-self c =
    let old = c.in-Some.list.now in
    let changes = (c.get_mut.follows.holds c.pop.new.self).3 (is_found _ old c.in-Some.ensures.value) in
    (kept_shorter c.self.inside.reserve c.self.inside.lists.entries _ c.args.t old c.pop.new.self c.self.invariant c.in-Some.ensures.value changes.0 (less (goal.at.overflow_sub-self c).After-pop) (long (goal.at.overflow_sub-self c).After-pop)).0

pub invariant_of-self : goal.invariant_of-self
invariant_of-self c =
    let old = c.in-Some.list.now in
    let changes = (c.get_mut.follows.holds c.pop.new.self).3 (is_found _ old c.in-Some.ensures.value) in
    (kept_shorter c.self.inside.reserve c.self.inside.lists.entries _ c.args.t old c.pop.new.self c.self.invariant c.in-Some.ensures.value changes.0 (less (goal.at.invariant_of-self c).After-pop) (long (goal.at.invariant_of-self c).After-pop)).1

pub returns-in-Some : goal.returns-in-Some
returns-in-Some c =
    let old = c.in-Some.list.now in
    let changes = (c.get_mut.follows.holds c.pop.new.self).3 (is_found _ old c.in-Some.ensures.value) in
    put_list c.self.inside.lists.entries _ c.args.self.now c.args.t c.pop.new.self (drop 1 (undo_in c.args.self.now c.args.t)) c.self.view_is changes.0
    (less (goal.at.returns-in-Some c).After-pop ∙ ap (λ l. drop 1 l) (sym (before (goal.at.returns-in-Some c).After-pop)))

pub returns-in_default : goal.returns-in_default
returns-in_default c =
    let none : undo_in c.args.self.now c.args.t ≡ [] = ap (λ undo. undo_in undo c.args.t) (sym c.self.view_is) ∙ stands_not c.self.inside.lists.entries c.args.t c.in_default.ensures.value in
    let many = c.requires in
    let short = ap length none in
    absurd (omega arith)
