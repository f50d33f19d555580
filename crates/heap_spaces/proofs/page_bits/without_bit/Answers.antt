use Rattle.std.proofs.Common.{◌==◌, ap, w64}
use Rattle.std.proofs.lemmas.Nat.Bits.{bit_at_clear_same, bit_at_clear_other}
use Rattle.heap_spaces.proofs.page_bits.without_bit.Goals as goal

pub returns-clause-here : goal.returns-clause-here
returns-clause-here c = ap (λ b. b == 1) (bit_at_clear_same w64 c.args.bits c.args.place c.requires)

pub returns-clause-other : goal.returns-clause-other
returns-clause-other c i low apart = ap (λ b. b == 1) (bit_at_clear_other w64 c.args.bits c.args.place c.requires i low apart)
