-- Which of the objects that a transaction has made become stable with what it wrote into stable fields.
use Rattle.std.specs.Prelude.{ℕ, zero, suc, ◌+◌, ◌==◌, List, [], Bool, false, ◌||◌, filter, sum_by, Option, Some}
use Rattle.std.specs.List.{list_any}
use Rattle.heap_words.specs.declared.Word.{Word}
use Rattle.heap_words.specs.declared.Word.TheVariants.{Volatile}
use Rattle.heap_words.specs.Word.{meaning}
use Rattle.object_layout.specs.Layout.{field_words}
use Rattle.volatile_area.specs.Area.{AreaState, length_at, starts_of}

-- whether a word of this meaning refers to the object of an area that has that index
abbrev pub refers : ℕ → Option Word → Bool
refers at (Some (Volatile index)) = index == at
refers at meant = false

-- whether one of these words does
abbrev pub some_refers : ℕ → List ℕ → Bool
some_refers at words = list_any (λ w. refers at (meaning w)) words

-- whether a word that was written does, or a field of one of these objects
abbrev pub is_led_to : AreaState → List ℕ → List ℕ → ℕ → Bool
is_led_to area written objects at = some_refers at written || list_any (λ from. some_refers at (field_words area.words from)) objects

-- the objects of the area that are reached in at most that many steps, ascending
unfoldable pub reached_in : ℕ → AreaState → List ℕ → List ℕ
reached_in zero area written = []
reached_in (suc steps) area written = filter (is_led_to area written (reached_in steps area written)) (starts_of area)

-- the objects of the area that are reached, ascending: as many steps suffice as there are objects
unfoldable pub promoted : AreaState → List ℕ → List ℕ
promoted area written = reached_in area.made area written

-- the words that these objects take
abbrev pub need : AreaState → List ℕ → ℕ
need area objects = sum_by (λ at. 2 + length_at area.words at) objects
