-- The invariant of the search for what is reached.
use Rattle.std.specs.Prelude.{ℕ, ◌⊎◌, List, Contains}
use Rattle.std.specs.List.Sorted.{IsStrictlyIncreasing}
use Rattle.object_layout.specs.Layout.{field_words}
use Rattle.volatile_area.specs.Area.{AreaState}
use Rattle.stability_tracker.proofs.Reached.{IsReached}
use Rattle.stability_tracker.specs.Search.{IsNamed}

-- The state of a search that began with the words that were written: what it found is reached, and what is no longer waiting was followed.
pub record IsSearching (area : AreaState) (written found waiting : List ℕ) : Type 0 where
  pub begun : (b : ℕ) → IsNamed area written b → Contains found b
  pub reached : (b : ℕ) → Contains found b → IsReached area written b
  pub followed : (b : ℕ) → Contains found b → Contains waiting b ⊎ ((c : ℕ) → IsNamed area (field_words area.words b) c → Contains found c)
  pub known : (b : ℕ) → Contains waiting b → Contains found b
  pub rises : IsStrictlyIncreasing found
