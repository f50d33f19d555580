-- What lies below the next address is a start; the search finds whether that one is.
use Rattle.std.proofs.Common.{ℕ, ◌∙◌, inl, inr, sym, subst, arith}
use Rattle.std.specs.Prelude.{Contains}
use Rattle.std.proofs.lemmas.Bool.{cases_lt, cases_order}
use Rattle.object_layout.proofs.Starts.{searched_start}
use Rattle.object_layout.proofs.OldStarts.{not_found, was_found}
use Rattle.object_layout.proofs.collection_walk.first_stray.Goals as goal

pub returns-then-is_err-clause-some : goal.returns-then-is_err-clause-some
returns-then-is_err-clause-some c ascend =
    let starts = c.args.starts.now in
    let said = searched_start starts c.in-Some.at c.binary_search.result c.binary_search.ensures.position ascend in
    record {
      gray_there = c.in-Some.ensures.some.0;
      stray = not_found _ _ c.binary_search.result (sym c.is_err.ensures.value ∙ c.if-is_err.true) said;
      first = λ before gray less. elim (cases_lt before c.loop-at.from) [
        | inl low ↦ c.loop-at.invariant.among ascend before gray low
        | inr high ↦ let least = c.in-Some.ensures.some.2 before gray high in absurd (omega arith)
      ];
    }

pub returns-in_err-from-clause-none : goal.returns-in_err-from-clause-none
returns-in_err-from-clause-none c ascend few =
    let starts = c.args.starts.now in
    let said = searched_start starts c.in-Some.at c.binary_search.result c.binary_search.ensures.position ascend in
    let has = was_found _ _ c.binary_search.result (sym c.is_err.ensures.value ∙ c.if-is_err.false) said in
    absurd (c.in_err-from.ensures (few c.in-Some.at has))

pub loop-at-preserved : goal.loop-at-preserved
loop-at-preserved c = record {
  among = λ ascend q gray below.
      let starts = c.args.starts.now in
      let said = searched_start starts c.in-Some.at c.binary_search.result c.binary_search.ensures.position ascend in
      let has = was_found _ _ c.binary_search.result (sym c.is_err.ensures.value ∙ c.if-is_err.false) said in
      elim (cases_order q c.in-Some.at) [
        | inl same ↦ subst (λ (x : ℕ). Contains starts x) (sym same) has
        | inr (inl less) ↦ elim (cases_lt q c.loop-at.from) [
          | inl low ↦ c.loop-at.invariant.among ascend q gray low
          | inr high ↦ let least = c.in-Some.ensures.some.2 q gray high in absurd (omega arith)
        ]
        | inr (inr more) ↦ let next = c.in_ok-from.ensures.1 in absurd (omega arith)
      ];
}
