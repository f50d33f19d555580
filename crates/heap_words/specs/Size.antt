-- How many words an object takes.
use Rattle.std.specs.Prelude.{ℕ, ◌+◌, Option, None, Some}
use Rattle.heap_words.specs.declared.Header.{Header}
use Rattle.heap_words.specs.declared.Header.TheVariants.{Length, Forward}
use Rattle.heap_words.specs.declared.TheConstants.{FIELDS_AT}
use Rattle.heap_words.specs.Header.{header}

-- how many words follow an object's header and birth, by what its header means; none where it is no object's
abbrev pub payload_of : Option Header → ℕ
payload_of None = 0
payload_of (Some (Length n)) = n
payload_of (Some (Forward address)) = 0

-- the same by the word of its header: as many as it has fields
abbrev pub payload : ℕ → ℕ
payload word = payload_of (header word)

-- how many words an object with such a header takes
abbrev pub object_size : ℕ → ℕ
object_size word = FIELDS_AT + payload word
