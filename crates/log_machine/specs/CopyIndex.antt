-- How the copies of a flip are found.
use Rattle.std.specs.Prelude.{◌≡◌, ℕ, ◌<◌, List, slice_get, option_and_then}
use Rattle.std.specs.List.{All}
use Rattle.std.specs.Map.{lookup}
use Rattle.std.specs.BTreeMap.{is_at}
use Rattle.std.specs.Ordering.{nat_cmp}
use Rattle.log_records.specs.declared.copies.ObjectCopy.{ObjectCopy}
use Rattle.log_machine.specs.Collecting.{copy_of}
use Rattle.heap_words.specs.declared.TheConstants.{STABLE_WORDS}

-- a map has, by where their objects stood, the places of some of these copies in their list
abbrev pub AreIndexed : List ObjectCopy → List ObjectCopy → List (ℕ × ℕ) → Type 0
AreIndexed all copies places = (from : ℕ) → option_and_then (λ place. slice_get all place) (lookup (is_at (nat_cmp from)) places) ≡ copy_of copies from

-- a reference has room for where each copy stands
abbrev pub StandInside : List ObjectCopy → Type 0
StandInside copies = All (λ (copy : ObjectCopy). copy.to < STABLE_WORDS) copies
