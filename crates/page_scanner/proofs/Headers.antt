-- No header stands past the words.
use Rattle.std.proofs.Common.{◌≡◌, ℕ, ◌≤◌, List, length, None, ap, ◌∙◌}
use Rattle.std.specs.Prelude.{slice_index}
use Rattle.std.proofs.lemmas.List.{get_or_past}
use Rattle.heap_words.specs.Header.{header}
use Rattle.heap_words.proofs.HeaderLaws.{header_zero}

pub header_past : (words : List ℕ) (at : ℕ) → length words ≤ at → header (slice_index words at) ≡ None
header_past words at past = ap header (get_or_past words at 0 past) ∙ header_zero
