-- The words in front of an object's fields: its header, and the word of its birth.
use Rattle.std.specs.Prelude.{ℕ, ◌+◌, ◌*◌, ◌/◌, ◌%◌, ◌^◌, ◌==◌, nat_le, nat_lt, Option, None, Some, if◌then◌else◌}
use Rattle.heap_words.specs.declared.TheConstants.{STABLE_WORDS, MOST_FIELDS}
use Rattle.heap_words.specs.declared.Header.{Header}
use Rattle.heap_words.specs.declared.Header.TheVariants.{Length, Forward}

-- the word of a header
abbrev pub header_bits : Header → ℕ
header_bits (Length n) = 4 * n + 1
header_bits (Forward address) = 4 * address + 2

-- the header that a word is, if it is one
unfoldable pub header : ℕ → Option Header
header w =
    if w % 4 == 1 then (if nat_le (w / 4) MOST_FIELDS then Some (Length (w / 4)) else None)
    else (if w % 4 == 2 then (if nat_lt (w / 4) STABLE_WORDS then Some (Forward (w / 4)) else None) else None)

-- the birth word of the kth object that transaction t made
abbrev pub birth_bits : ℕ → ℕ → ℕ
birth_bits t k = t * 2 ^ 32 + k

-- the transaction that made an object of this birth
abbrev pub born_in : ℕ → ℕ
born_in birth = birth / 2 ^ 32

-- which of its objects it is
abbrev pub born_as : ℕ → ℕ
born_as birth = birth % 2 ^ 32
