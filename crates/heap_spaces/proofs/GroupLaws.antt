-- The groups of a table as the code has them, each a vector.
use Rattle.std.proofs.Common.{◌≡◌, ◌<◌, ◌*◌, ◌/◌, ◌%◌, ℕ, List, [], length, map, get_or, set, ap, sym, ◌∙◌, arith, Vec, Global}
use Rattle.std.proofs.lemmas.List.{length-map, map-set}
use Rattle.heap_spaces.specs.PageTable.{HasRoom, PageNumbers, numbers_in, rooms_of}
use Rattle.heap_spaces.proofs.TableLaws.{Each, group-is, group-there, numbers-length, room-is, zeros}

-- the numbers of a group that are in memory
abbrev pub items : Vec ℕ Global → List ℕ
items v = v.items

-- the table that has these groups
abbrev pub table_of : List (Vec ℕ Global) → PageNumbers
table_of all = record { numbers = numbers_in (map items all); room = rooms_of (map items all) }

-- for how many pages of a group it has memory
pub room-of : (all : List (Vec ℕ Global)) (t : PageNumbers) (k : ℕ) → table_of all ≡ t → get_or t.room k 0 ≡ length (get_or (map items all) k [])
room-of all t k is = ap (λ (s : PageNumbers). get_or s.room k 0) (sym is) ∙ room-is (map items all) k

-- a group that has a place in the room is there
pub group-below : (all : List (Vec ℕ Global)) (t : PageNumbers) (k : ℕ) → table_of all ≡ t → k < length t.room → (k < length all) × (k < length (map items all))
group-below all t k is lt =
    let long = ap (λ (s : PageNumbers). length s.room) is in
    let rooms = length-map (map items all) (length {A = ℕ}) in
    let groups = length-map all items in
    (omega (arith, lt, long, rooms, groups), omega (arith, lt, long, rooms))

-- how many pages it has
pub pages-length : (all : List (Vec ℕ Global)) (t : PageNumbers) → table_of all ≡ t → Each (map items all) → length t.numbers ≡ 64 * length all
pages-length all t is each = ap (λ (s : PageNumbers). length s.numbers) (sym is) ∙ numbers-length (map items all) each ∙ ap (λ n. 64 * n) (length-map all items)

-- a group that is read
pub group-at : (all : List (Vec ℕ Global)) (k : ℕ) (group : Vec ℕ Global) → k < length all → group ≡ get_or all k group → get_or (map items all) k [] ≡ group.items
group-at all k group lt is = group-is items all k group lt ∙ ap items (sym is)

-- and one that is read of a slice of them
pub group-in : (all slice : List (Vec ℕ Global)) (k : ℕ) (group : Vec ℕ Global) → slice ≡ all → k < length slice → group ≡ get_or slice k group → (k < length all) × (get_or (map items all) k [] ≡ group.items)
group-in all slice k group is below found =
    let lt : k < length all = omega (arith, below, ap length is) in
    (lt, group-at all k group lt (found ∙ ap (λ l. get_or l k group) is))

-- a page for which there is room lies in the memory of its group
pub place-within : (all : List (Vec ℕ Global)) (t : PageNumbers) (page : ℕ) → table_of all ≡ t → HasRoom t.room page → page % 64 < length (get_or (map items all) (page / 64) [])
place-within all t page is room = omega (arith, room, room-of all t (page / 64) is)

-- and its group is there
pub group-within : (all : List (Vec ℕ Global)) (t : PageNumbers) (page : ℕ) → table_of all ≡ t → HasRoom t.room page → page / 64 < length all
group-within all t page is room = group-there items all (page / 64) (page % 64) (place-within all t page is room)

-- a group that gets memory
pub filled : (all : List (Vec ℕ Global)) (k : ℕ) (group : Vec ℕ Global) → group.items ≡ zeros → map items (set all k group) ≡ set (map items all) k zeros
filled all k group is = map-set items all k group ∙ ap (λ (g : List ℕ). set (map items all) k g) is
