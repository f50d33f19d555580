-- A search for what is reached: what it has found, and which of that is still to be followed.
use Rattle.std.specs.Prelude.{◌≡◌, ℕ, ◌+◌, ◌⊎◌, List, length, slice_get, Some, Contains}
use Rattle.std.specs.List.Sorted.{IsStrictlyIncreasing}
use Rattle.heap_words.specs.declared.Word.TheVariants.{Volatile}
use Rattle.heap_words.specs.Word.{meaning}
use Rattle.volatile_area.specs.Area.{AreaState, starts_of}

-- one of these words refers to an object of the area
abbrev pub IsNamed : AreaState → List ℕ → ℕ → Type 0
IsNamed area words at = (i : ℕ) × (w : ℕ) × (slice_get words i ≡ Some w) × (meaning w ≡ Some (Volatile at)) × Contains (starts_of area) at

-- An object was visited: it is found, and it is waiting if it was not found before.
pub record Meets (at : ℕ) (found waiting new_found new_waiting : List ℕ) : Type 0 where
  pub met : Contains new_found at
  pub only : (b : ℕ) → Contains new_found b → Contains found b ⊎ (b ≡ at)
  pub kept : (b : ℕ) → Contains found b → Contains new_found b
  pub waits : (b : ℕ) → Contains new_found b → Contains found b ⊎ Contains new_waiting b
  pub stays : (b : ℕ) → Contains waiting b → Contains new_waiting b
  pub known : (b : ℕ) → Contains new_waiting b → Contains waiting b ⊎ (b ≡ at)
  pub counted : length new_found + length waiting ≡ length found + length new_waiting
  pub rises : IsStrictlyIncreasing found → IsStrictlyIncreasing new_found

-- Words were followed: each object to which one of them refers was visited, and no other.
pub record WereFollowed (area : AreaState) (words found waiting new_found new_waiting : List ℕ) : Type 0 where
  pub met : (b : ℕ) → IsNamed area words b → Contains new_found b
  pub only : (b : ℕ) → Contains new_found b → Contains found b ⊎ IsNamed area words b
  pub kept : (b : ℕ) → Contains found b → Contains new_found b
  pub waits : (b : ℕ) → Contains new_found b → Contains found b ⊎ Contains new_waiting b
  pub stays : (b : ℕ) → Contains waiting b → Contains new_waiting b
  pub known : (b : ℕ) → Contains new_waiting b → Contains waiting b ⊎ Contains new_found b
  pub counted : length new_found + length waiting ≡ length found + length new_waiting
  pub rises : IsStrictlyIncreasing found → IsStrictlyIncreasing new_found
