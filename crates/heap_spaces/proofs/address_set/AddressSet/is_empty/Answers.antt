use Rattle.std.proofs.Common.{ap, ◌∙◌, sym}
use Rattle.std.proofs.lemmas.Bool.{false≢true}
use Rattle.std.specs.Ordering.{nat_cmp}
use Rattle.std.specs.FinSet.{FinSet, contains, contains-empty}
use Rattle.heap_spaces.proofs.address_set.AddressSet.is_empty.Goals as goal

pub returns-in-Some : goal.returns-in-Some
returns-in-Some c =
    let at = c.in-Some.field-0 in
    (λ yes. absurd (false≢true yes), λ none. absurd (false≢true (sym (contains-empty nat_cmp at) ∙ sym (ap (λ (s : FinSet nat_cmp). contains s at) none) ∙ c.in-Some.ensures.some.0)))
