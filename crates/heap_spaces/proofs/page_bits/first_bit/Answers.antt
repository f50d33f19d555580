use Rattle.std.proofs.Common.{◌==◌, ap, w64, arith}
use Rattle.std.proofs.lemmas.Nat.Bits.{bit_at-trailing_zeros}
use Rattle.heap_spaces.proofs.page_bits.first_bit.Goals as goal

pub returns-clause-some : goal.returns-clause-some
returns-clause-some c = ap (λ b. b == 1) (bit_at-trailing_zeros w64 c.args.bits (omega arith) (omega arith)).1

pub returns-clause-first : goal.returns-clause-first
returns-clause-first c i before = ap (λ b. b == 1) ((bit_at-trailing_zeros w64 c.args.bits (omega arith) (omega arith)).2 i before)
