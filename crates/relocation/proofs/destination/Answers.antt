-- The search ends at the object's pair, or nowhere.
use Rattle.std.proofs.Common.{◌≡◌, rules, sym, Some, None, Result, ℕ, subst, get_or}
use Rattle.std.specs.Prelude.{MatchResult}
use Rattle.std.proofs.lemmas.List.Sorted.{answers_always}
use Rattle.relocation.specs.Relocation.{destination}
use Rattle.relocation.proofs.Found.{searched}
use Rattle.relocation.proofs.destination.Goals as goal

pub returns-in-Ok : goal.returns-in-Ok
returns-in-Ok c =
    let facts = c.binary_search_by_key.ensures in
    let by_key = facts.position (λ pair. pair.0) (answers_always _ _ _ (λ f a r g called. search rules)) in
    let found = searched c.args.pairs.now c.requires c.args.from c.binary_search_by_key.result facts.bound by_key in
    let Says : Result ℕ ℕ → Type 0 = λ r. MatchResult r (λ i. destination c.args.pairs.now c.args.from ≡ Some (get_or c.args.pairs.now i (0, 0)).1) (λ i. destination c.args.pairs.now c.args.from ≡ None) in
    sym (subst Says c.in-Ok.is found)

pub returns-in-Err : goal.returns-in-Err
returns-in-Err c =
    let facts = c.binary_search_by_key.ensures in
    let by_key = facts.position (λ pair. pair.0) (answers_always _ _ _ (λ f a r g called. search rules)) in
    let found = searched c.args.pairs.now c.requires c.args.from c.binary_search_by_key.result facts.bound by_key in
    let Says : Result ℕ ℕ → Type 0 = λ r. MatchResult r (λ i. destination c.args.pairs.now c.args.from ≡ Some (get_or c.args.pairs.now i (0, 0)).1) (λ i. destination c.args.pairs.now c.args.from ≡ None) in
    sym (subst Says c.in-Err.is found)
