-- Which words are headers.
use Rattle.std.specs.Prelude.{◌<◌}
use Rattle.heap_words.specs.declared.Header.{Header}
use Rattle.heap_words.specs.declared.Header.TheVariants.{Length, Forward}
use Rattle.heap_words.specs.Header.{header}

-- the bounds of a header
abbrev pub IsHeader : Header → Type 0
IsHeader (Length n) = n < 511
IsHeader (Forward address) = address < 2097152
