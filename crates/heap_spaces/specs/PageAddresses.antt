-- Addresses of one page that wait to be added to a set.
use Rattle.std.specs.Prelude.{◌≢◌, ℕ, ◌%◌, ◌==◌, ◌&&◌, Bool, List}
use Rattle.heap_spaces.specs.Addresses.{is_set}
use Rattle.heap_spaces.specs.Collection.{page_of}
use Rattle.heap_spaces.specs.PageTable.{HasRoom}
use Rattle.heap_spaces.specs.declared.address_set.PageAddresses.{PageAddresses}

-- the address is one of those that wait
abbrev pub waits_in : PageAddresses → ℕ → Bool
waits_in waiting at = page_of at == waiting.page && is_set waiting.bits (at % 64)

-- there is memory for their page, if any address waits
abbrev pub HasRoomFor : List ℕ → PageAddresses → Type 0
HasRoomFor room waiting = waiting.bits ≢ 0 → HasRoom room waiting.page
