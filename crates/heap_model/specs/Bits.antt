-- Words of 64 bits.
use Rattle.std.specs.Prelude.{ℕ, ◌^◌, ◌<◌, List, slice_index}

-- each word has 64 bits
abbrev pub AreOf64Bits : List ℕ → Type 0
AreOf64Bits words = (at : ℕ) → slice_index words at < 2 ^ 64
