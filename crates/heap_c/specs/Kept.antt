-- What a pointer owns that C keeps between calls.
use base.Fraction.{full_share}
use base.Fml.{Fml, fex}
use denote.RawPtr.{Ptr, lies_at, room_at}
use Rattle.heap_c.specs.contracts.kept.Kept.{the_row}

-- some heap lies there
abbrev pub kept : Ptr → Fml
kept p = fex the_row.Denot (λ s. lies_at the_row full_share p s)

-- there is room for one
abbrev pub room : Ptr → Fml
room p = room_at the_row p
