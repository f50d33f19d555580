-- How many words an object takes, by its fields.
use Rattle.std.proofs.Common.{◌≡◌, ℕ, ◌+◌, ◌<◌, ap}
use Rattle.heap_words.specs.declared.Header.TheVariants.{Length}
use Rattle.heap_words.specs.Header.{header_bits}
use Rattle.heap_words.specs.Size.{payload, payload_of, object_size}
use Rattle.heap_words.proofs.HeaderLaws.{header-header_bits}

-- the header says how many fields there are
pub payload-header_bits : (n : ℕ) → n < 511 → payload (header_bits (Length n)) ≡ n
payload-header_bits n few = ap payload_of (header-header_bits (Length n) few)

-- so an object takes as many words and two more
pub object_size-header_bits : (n : ℕ) → n < 511 → object_size (header_bits (Length n)) ≡ 2 + n
object_size-header_bits n few = ap (λ m. 2 + m) (payload-header_bits n few)
