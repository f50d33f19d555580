-- Where objects go, and how that is found.
use Rattle.std.specs.Prelude.{◌≡◌, ◌⊎◌, ℕ, ◌-◌, ◌%◌, ◌<◌, ◌≤◌, ◌^◌, ◌==◌, List, length, map, fold, take, slice_index, slice_index_or, Option, None, Some, if◌then◌else◌}
use Rattle.page_scanner.specs.declared.destinations.Move.{Move}
use Rattle.page_scanner.specs.declared.destinations.TheConstants.{BUCKETS}

-- where an object goes, if one of these moves says so: as the last of them says
abbrev pub goes_to : List (ℕ × ℕ) → ℕ → Option ℕ
goes_to moves b = fold (λ found m. if m.0 == b then Some m.1 else found) None moves

-- moves, each by where an object stood and where it goes
abbrev pub pairs : List Move → List (ℕ × ℕ)
pairs moves = map (λ (m : Move). (m.from, m.to)) moves

-- the move at a place
abbrev pub move_at : List Move → ℕ → Move
move_at moves i = slice_index_or moves i (record { from = 0; to = 0; earlier = 0 })

-- Where the object at `b` goes by the first `end` moves is said by the first `link` of them, and the last of these is in the bucket of `b`.
pub record IsLink (moves : List Move) (end link b : ℕ) : Type 0 where
  pub before : link ≤ end
  pub bucket : 0 < link → (move_at moves (link - 1)).from % BUCKETS ≡ b % BUCKETS
  pub same : goes_to (pairs (take end moves)) b ≡ goes_to (pairs (take link moves)) b

-- Each bucket's head leads to its last move, and each move to the one before it in its bucket. Heads that are not there yet lead nowhere.
pub record AreChained (moves : List Move) (heads : List ℕ) : Type 0 where
  pub few : length moves < 2 ^ 32
  pub buckets : length heads ≡ 0 ⊎ length heads ≡ BUCKETS
  pub latest : (b : ℕ) → IsLink moves (length moves) (slice_index heads (b % BUCKETS)) b
  pub earlier : (i b : ℕ) → i < length moves → (move_at moves i).from % BUCKETS ≡ b % BUCKETS → IsLink moves i (move_at moves i).earlier b
