use Rattle.std.proofs.Common.{◌≡◌, ◌+◌, ◌-◌, ◌∙◌, ap, sym, arith}
use Rattle.heap_spaces.specs.Addresses.{is_set}
use Rattle.heap_spaces.proofs.AddressLaws.{if_none}
use Rattle.heap_spaces.proofs.PageLaws.{shifted, within, none_set}
use Rattle.heap_spaces.proofs.page_bits.first_bit_from.Goals as goal

pub returns-in_err-first_bit-clause-none : goal.returns-in_err-first_bit-clause-none
returns-in_err-first_bit-clause-none c =
    let bits = c.args.bits in
    let place = c.args.place in
    if_none c.from_residual.result _ (λ i from.
    let apart : i ≡ place + (i - place) = omega arith in
    ap (is_set bits) apart ∙ sym (shifted bits place (i - place)) ∙ ap (λ v. is_set v (i - place)) c.in_err-first_bit.ensures.none ∙ none_set (i - place))

pub returns-clause-low : goal.returns-clause-low
returns-clause-low c =
    let found = c.in_ok-first_bit.field-0 in
    within c.args.bits (c.args.place + found) (omega arith) (sym (shifted c.args.bits c.args.place found) ∙ c.in_ok-first_bit.ensures.some)

pub returns-clause-some : goal.returns-clause-some
returns-clause-some c = sym (shifted c.args.bits c.args.place c.in_ok-first_bit.field-0) ∙ c.in_ok-first_bit.ensures.some

pub returns-clause-first : goal.returns-clause-first
returns-clause-first c i from before =
    let bits = c.args.bits in
    let place = c.args.place in
    let apart : i ≡ place + (i - place) = omega arith in
    ap (is_set bits) apart ∙ sym (shifted bits place (i - place)) ∙ c.in_ok-first_bit.ensures.first (i - place) (omega arith)
