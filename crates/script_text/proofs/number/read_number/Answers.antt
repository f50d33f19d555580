use Rattle.std.proofs.Common.{sym, ◌∙◌, arith}
use Rattle.std.proofs.lemmas.Bool.{eqb-false}
use Rattle.script_text.proofs.Digits.{too_large, is_read}
use Rattle.script_text.proofs.number.read_number.Goals as goal

pub returns-in_err-checked_mul : goal.returns-in_err-checked_mul
returns-in_err-checked_mul c =
    let h = c.in_err-checked_mul.ensures in
    c.from_residual.ensures ∙ sym (too_large c.args.digits.now c.loop-digit.digit-index c.loop-digit.value c.loop-digit-test.true c.loop-digit.invariant.value (omega (arith, h)))

pub returns-in_err-value : goal.returns-in_err-value
returns-in_err-value c =
    let h = c.in_err-value.ensures in
    let k = c.in_ok-checked_mul.ensures in
    c.from_residual-in_err-value.ensures ∙ sym (too_large c.args.digits.now c.loop-digit.digit-index c.loop-digit.value c.loop-digit-test.true c.loop-digit.invariant.value (omega (arith, h, k, c.from.ensures)))

pub returns : goal.returns
returns c =
    sym (is_read c.args.digits.now c.loop-digit.digit-index c.loop-digit.value (omega (arith, eqb-false _ _ (sym c.if-is_empty.ensures))) c.if-digits-gt-MOST_DIGITS.false c.loop-digit-test.false c.loop-digit.invariant.small c.loop-digit.invariant.value c.loop-digit.invariant.digits)
