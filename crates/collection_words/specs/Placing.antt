-- Where objects stand, and where they go as records of a collection copy them.
use Rattle.std.specs.Prelude.{ℕ, ◌==◌, List, [], ◌++◌, Bool, not, map, filter, fold}
use Rattle.std.specs.List.{flat_map}
use Rattle.std.specs.FinSet.{empty, contains}
use Rattle.heap_spaces.specs.Addresses.{with_all}
use Rattle.log_records.specs.declared.copies.ObjectCopy.{ObjectCopy}
use Rattle.log_records.specs.declared.Record.{Record}
use Rattle.log_records.specs.declared.Record.TheVariants.{Copy, Flip, Collected}
use Rattle.graph_words.specs.Places.{Places}
use Rattle.collection_words.specs.Completed.{without}

-- Which objects are current and which a collection has not copied yet, each with its address.
pub record Placing : Type 0 where
  pub places : Places
  pub remaining : Places

-- these are current, and those remain
abbrev pub placing_of : Places → Places → Placing
placing_of places remaining = record { places = places; remaining = remaining }

-- the object at one address, at another
abbrev pub put_at : Places → ℕ → ℕ → Places
put_at places from to = map (λ p. (p.0, to)) (filter (λ p. p.1 == from) places)

-- the objects that these copy, each where its copy stands
abbrev pub copied_places : List ObjectCopy → Places → Places
copied_places copies places = flat_map (λ (copy : ObjectCopy). put_at places copy.from copy.to) copies

-- those that they do not copy
abbrev pub uncopied_places : List ObjectCopy → Places → Places
uncopied_places copies places = filter (λ p. not (contains (with_all empty (map (λ (copy : ObjectCopy). copy.from) copies)) p.1)) places

-- Where objects stand after a record. Only records of a collection copy objects; one that makes an object stable does not name it, so that
-- place is for the seal to add.
abbrev pub moved_by : Placing → Record → Placing
moved_by p (Flip copies) = placing_of (copied_places copies p.places) (uncopied_places copies p.places)
moved_by p (Copy from to words) = placing_of (p.places ++ put_at p.remaining from to) (without p.remaining from)
moved_by p Collected = placing_of p.places []
moved_by p rec = p

-- where they stand after these
abbrev pub moved_by_all : Placing → List Record → Placing
moved_by_all p records = fold moved_by p records
