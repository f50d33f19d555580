-- A load: the lines of a play that are made from a number, round by round.
use Rattle.std.specs.Prelude.{ℕ, ◌+◌, ◌*◌, ◌/◌, ◌%◌, ◌^◌, ◌==◌, ◌&&◌, nat_le, List, [], ◌∷◌, ◌++◌, if◌then◌else◌}
use Rattle.std.proofs.Common.{zero, suc}
use Rattle.graph_model.specs.declared.event.Event.TheVariants.{Begin, Root, New, Put, Clear, Link, Get, Abort, Flip, Scan, Flush}
use Rattle.script_text.specs.declared.line.Line.{Line}
use Rattle.script_text.specs.declared.line.Line.TheVariants.{One, Commit}
use Rattle.script_text.specs.declared.load.Round.{Round}

-- the state of the generator after a draw from state x
abbrev pub state_after : ℕ → ℕ
state_after x = (x * 1103515245 + 12345) % 2 ^ 31

-- what the draw gives that leaves the generator in state x
abbrev pub drawn : ℕ → ℕ
drawn x = x / 65536

-- the state after the three draws of a round
abbrev pub state_after_round : ℕ → ℕ
state_after_round x = state_after (state_after (state_after x))

-- round i, as its three draws from state x decide it
abbrev pub round_of : ℕ → ℕ → Round
round_of i x = record {
  number = i;
  length = drawn (state_after x) % 8;
  field = drawn (state_after (state_after x)) % 4;
  act = drawn (state_after_round x) % 8;
}

-- a transaction begins, and reads a field of the root
abbrev pub opening_lines : Round → List Line
opening_lines r = One (Begin 1) ∷ One (Root 1 0) ∷ One (Get 1 0 r.field 2) ∷ []

-- it makes an object, with the round's number in its first field and at times what was read in its second, and the field refers to that
abbrev pub object_lines : Round → List Line
object_lines r =
    One (New 1 1 r.length) ∷ []
    ++ (if nat_le 1 r.length then One (Put 1 1 0 r.number) ∷ [] else [])
    ++ (if nat_le 2 r.length && nat_le 4 r.act then One (Link 1 1 1 2) ∷ [] else [])
    ++ One (Link 1 0 r.field 1) ∷ []

-- or it clears the field
abbrev pub change_lines : Round → List Line
change_lines r = if r.act == 0 then One (Clear 1 0 r.field) ∷ [] else object_lines r

-- its end
abbrev pub ending_line : Round → Line
ending_line r = if r.act == 1 then One (Abort 1) else Commit 1

-- after each round a page is scanned; after each eighth one a page is flushed, and after each sixteenth a collection begins
abbrev pub upkeep_lines : ℕ → List Line
upkeep_lines i =
    One Scan ∷ []
    ++ (if i % 8 == 0 then One (Flush (i / 8 % 2)) ∷ [] else [])
    ++ (if i % 16 == 0 then One Flip ∷ [] else [])

-- the lines of a round
abbrev pub round_lines : Round → List Line
round_lines r = opening_lines r ++ change_lines r ++ ending_line r ∷ [] ++ upkeep_lines r.number

-- the lines of n rounds, of which the first is round i, from state x
abbrev pub rounds_lines : ℕ → ℕ → ℕ → List Line
rounds_lines zero i x = []
rounds_lines (suc n) i x = round_lines (round_of i x) ++ rounds_lines n (i + 1) (state_after_round x)

-- the lines of the load of n rounds that is made from the seed
abbrev pub load_lines : ℕ → ℕ → List Line
load_lines seed n = rounds_lines n 1 seed
