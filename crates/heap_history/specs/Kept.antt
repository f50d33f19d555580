-- A list of kept entries with a list of whole ones.
use Rattle.std.specs.Prelude.{◌≡◌, ℕ, List, ◌++◌, map}
use Rattle.std.specs.List.{All}
use Rattle.graph_model.specs.declared.reply.Entry.{Entry}
use Rattle.graph_model.specs.History.{acknowledged}
use Rattle.brief_entries.specs.declared.kept_entry.KeptEntry.{KeptEntry}
use Rattle.brief_entries.specs.Brief.{IsWithin, entry_of}

-- the place of each entry that is kept whole is a place of the second list
abbrev pub AreWithin : List Entry → List KeptEntry → Type 0
AreWithin whole kept = All (IsWithin whole) kept

-- the entries that they stand for
abbrev pub entries_in : List Entry → List KeptEntry → List Entry
entries_in whole kept = map (entry_of whole) kept

-- one list of whole entries begins with another
abbrev pub Extends : List Entry → List Entry → Type 0
Extends old new = (more : List Entry) × (new ≡ old ++ more)

-- What a history keeps: places that are there, and the greatest number that was answered `durable`.
pub record IsKept (whole : List Entry) (kept : List KeptEntry) (durable : ℕ) : Type 0 where
  pub within : AreWithin whole kept
  pub told : durable ≡ acknowledged (entries_in whole kept)
