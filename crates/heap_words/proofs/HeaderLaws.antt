-- Headers and births are read as they are written, and no word has two readings.
use Rattle.std.proofs.Common.{◌≡◌, ℕ, ◌^◌, ◌<◌, Some, None, refl, arith}
use Rattle.heap_words.specs.declared.Header.{Header}
use Rattle.heap_words.specs.declared.Header.TheVariants.{Length, Forward}
use Rattle.heap_words.specs.Header.{header_bits, header, birth_bits, born_in, born_as}
use Rattle.heap_words.proofs.Headers.{IsHeader}

-- a header's word is read as that header
pub header-header_bits : (h : Header) → IsHeader h → header (header_bits h) ≡ Some h
unfolding header
header-header_bits (Length n) within = grind arith
header-header_bits (Forward address) within = grind arith

-- a word that is read as a header is that header's word
pub bits-header : (w : ℕ) (h : Header) → header w ≡ Some h → IsHeader h × (w ≡ header_bits h)
unfolding header
bits-header w (Length n) is = (grind arith, grind arith)
bits-header w (Forward address) is = (grind arith, grind arith)

-- zero is no header
pub header_zero : header 0 ≡ None
unfolding header
header_zero = refl

-- a birth gives the transaction
pub born_in-birth_bits : (t k : ℕ) → k < 2 ^ 32 → born_in (birth_bits t k) ≡ t
born_in-birth_bits t k within = omega arith

-- and the index
pub born_as-birth_bits : (t k : ℕ) → k < 2 ^ 32 → born_as (birth_bits t k) ≡ k
born_as-birth_bits t k within = omega arith

-- a birth word is determined by the two
pub birth_bits-born : (birth : ℕ) → birth_bits (born_in birth) (born_as birth) ≡ birth
birth_bits-born birth = omega arith
