-- The search begins with what was written and continues until nothing is waiting.
use Rattle.std.proofs.Common.{◌≡◌, ℕ, List, [], ◌≤◌, length, sym, ap, ◌∙◌, subst, arith, get_or}
use Rattle.std.specs.Prelude.{IfOk}
use Rattle.std.proofs.lemmas.List.{length_push}
use Rattle.std.proofs.lemmas.List.Elements.{Contains-get_or}
use Rattle.stability_tracker.specs.Promotion.{need}
use Rattle.stability_tracker.specs.Search.{WereFollowed}
use Rattle.stability_tracker.proofs.Searching.{IsSearching}
use Rattle.stability_tracker.proofs.Steps.{searching_begins, searching_on, popped_found, searching_ends, reached_starts, found_few, some_promoted, named_reached}
use Rattle.stability_tracker.proofs.tracker.promotion.Goals.{In_ok-follow-2}
use Rattle.stability_tracker.proofs.tracker.promotion.Goals as goal

pub returns-in_err-follow-clause-free : goal.returns-in_err-follow-clause-free
returns-in_err-follow-clause-free c none =
    let at = c.in_err-follow.ensures.err in
    absurd (some_promoted c.args.volatile.now c.args.written.now at.0 (named_reached c.args.volatile.now c.args.written.now at.0 at.1) none)

pub loop-object-init : goal.loop-object-init
loop-object-init c =
    let new = c.follow.new.self in
    let From : List ℕ → List ℕ → Type 0 = λ found waiting. WereFollowed c.args.volatile.now c.args.written.now found waiting new.found.keys new.waiting.items in
    let Found : List ℕ → Type 0 = λ found. From found c.new-search.result.waiting.items in
    searching_begins c.args.volatile.now c.args.written.now new.found.keys new.waiting.items
    (subst (From []) c.new-search.ensures.waiting (subst Found c.new-search.ensures.found c.in_ok-follow.ensures.ok))

pub fields-requires : goal.fields-requires
fields-requires c =
    let search = c.loop-object.search in
    let there = popped_found c.args.volatile.now c.args.written.now search.found.keys c.pop.new.self.items c.in-Some.object search.waiting.items c.loop-object.invariant c.in-Some.ensures.items in
    reached_starts c.args.volatile.now c.args.written.now c.in-Some.object (c.loop-object.invariant.reached c.in-Some.object there)

-- after its fields were followed the search stands as before
on : (c : In_ok-follow-2) → IsSearching c.args.volatile.now c.args.written.now c.follow-in-Some.new.self.found.keys c.follow-in-Some.new.self.waiting.items
on c =
    let old = c.loop-object.search in
    let new = c.follow-in-Some.new.self in
    let Words : List ℕ → Type 0 = λ ws. WereFollowed c.args.volatile.now ws old.found.keys c.pop.new.self.items new.found.keys new.waiting.items in
    searching_on c.args.volatile.now c.args.written.now old.found.keys c.pop.new.self.items c.in-Some.object old.waiting.items new.found.keys new.waiting.items
    c.loop-object.invariant c.in-Some.ensures.items (subst Words c.fields.ensures.words c.in_ok-follow-2.ensures.ok)

pub loop-object-preserved : goal.loop-object-preserved
loop-object-preserved c = on (goal.at.loop-object-preserved c).In_ok-follow-2

pub loop-object-smaller : goal.loop-object-smaller
loop-object-smaller c =
    let new = c.follow-in-Some.new.self in
    let few : length new.found.keys ≤ c.args.volatile.now.made =
    found_few c.args.volatile.now c.args.written.now new.found.keys new.waiting.items (on (goal.at.loop-object-smaller c).In_ok-follow-2) in
    let waiting = ap (λ (xs : List ℕ). length xs) c.in-Some.ensures.items ∙ length_push c.pop.new.self.items c.in-Some.object in
    let counted = c.in_ok-follow-2.ensures.ok.counted in
    omega arith

pub returns-in_err-follow-2-clause-free : goal.returns-in_err-follow-2-clause-free
returns-in_err-follow-2-clause-free c none =
    let search = c.loop-object.search in
    let there = popped_found c.args.volatile.now c.args.written.now search.found.keys c.pop.new.self.items c.in-Some.object search.waiting.items c.loop-object.invariant c.in-Some.ensures.items in
    absurd (some_promoted c.args.volatile.now c.args.written.now c.in-Some.object (c.loop-object.invariant.reached c.in-Some.object there) none)

pub measured-requires-clause-there : goal.measured-requires-clause-there
measured-requires-clause-there c k d within =
    let found = c.loop-object.search.found.keys in
    let object = get_or found k d in
    reached_starts c.args.volatile.now c.args.written.now object (c.loop-object.invariant.reached object (Contains-get_or found k d within))

pub measured-requires-clause-few : goal.measured-requires-clause-few
measured-requires-clause-few c = found_few c.args.volatile.now c.args.written.now c.loop-object.search.found.keys c.loop-object.search.waiting.items c.loop-object.invariant

pub returns-clause-promoted : goal.returns-clause-promoted
returns-clause-promoted c =
    let search = c.loop-object.search in
    let none : length search.waiting.items ≡ 0 = sym search.waiting.ok.0 ∙ c.in_default.ensures.cases.0 in
    let Found : List ℕ → Type 0 = λ xs. IfOk c.measured.result (λ found. found.0.items ≡ xs) in
    subst Found (searching_ends c.args.volatile.now c.args.written.now search.found.keys search.waiting.items c.loop-object.invariant none) c.measured.ensures.objects

pub returns-clause-need : goal.returns-clause-need
returns-clause-need c =
    let search = c.loop-object.search in
    let none : length search.waiting.items ≡ 0 = sym search.waiting.ok.0 ∙ c.in_default.ensures.cases.0 in
    let Found : List ℕ → Type 0 = λ xs. IfOk c.measured.result (λ found. found.1 ≡ need c.args.volatile.now xs) in
    subst Found (searching_ends c.args.volatile.now c.args.written.now search.found.keys search.waiting.items c.loop-object.invariant none) c.measured.ensures.need

pub returns-clause-free : goal.returns-clause-free
returns-clause-free c nothing =
    let search = c.loop-object.search in
    let none : length search.waiting.items ≡ 0 = sym search.waiting.ok.0 ∙ c.in_default.ensures.cases.0 in
    c.measured.ensures.free (searching_ends c.args.volatile.now c.args.written.now search.found.keys search.waiting.items c.loop-object.invariant none ∙ nothing)
