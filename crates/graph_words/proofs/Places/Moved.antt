-- Laws of a field's word after a move: it refers to no object of the area, if all that it may refer to move.
use Rattle.std.proofs.Common.{◌≡◌, ℕ, ◌<◌, Bool, true, false, not, ◌&&◌, List, [], ◌∷◌, map, Option, None, Some, refl, sym, ap, ◌∙◌, subst}
use Rattle.std.specs.List.{AllByRecursion}
use Rattle.heap_words.specs.declared.Word.{Word}
use Rattle.heap_words.specs.declared.Word.TheVariants.{Null, Int, Stable, Volatile}
use Rattle.heap_words.specs.Word.{bits, meaning, IsFieldWord, is_volatile, is_stable, refers_to_volatile}
use Rattle.heap_words.proofs.WordLaws.{is_stable-bits, is_volatile-bits}
use Rattle.log_machine.specs.Machine.{none_volatile}
use Rattle.graph_words.specs.Promotion.{Move, moved, moved_word, moved_meant, stable_or}

plain_meant : (moves : List Move) (w : ℕ) (meant : Option Word) → refers_to_volatile meant ≡ false → moved_meant moves w meant ≡ w
plain_meant moves w None off = refl
plain_meant moves w (Some Null) off = refl
plain_meant moves w (Some (Int n)) off = refl
plain_meant moves w (Some (Stable a)) off = refl
plain_meant moves w (Some (Volatile at)) off = cc

-- a word that refers to no object of the area stays
pub moved_word-plain : (moves : List Move) (w : ℕ) → is_volatile w ≡ false → moved_word moves w ≡ w
moved_word-plain moves w off = plain_meant moves w (meaning w) off

-- one that refers to an object that moves refers to its address
pub moved_word-moved : (moves : List Move) (w at new : ℕ) → meaning w ≡ Some (Volatile at) → moved moves at ≡ Some new → moved_word moves w ≡ bits (Stable new)
moved_word-moved moves w at new is there = ap (moved_meant moves w) is ∙ ap (stable_or w) there

-- and one that refers to another object of the area stays
pub moved_word-left : (moves : List Move) (w at : ℕ) → meaning w ≡ Some (Volatile at) → moved moves at ≡ None → moved_word moves w ≡ w
moved_word-left moves w at is there = ap (moved_meant moves w) is ∙ ap (stable_or w) there

volatile_meant : (meant : Option Word) → refers_to_volatile meant ≡ true → (at : ℕ) × (meant ≡ Some (Volatile at))
volatile_meant None is = cc
volatile_meant (Some Null) is = cc
volatile_meant (Some (Int n)) is = cc
volatile_meant (Some (Stable a)) is = cc
volatile_meant (Some (Volatile at)) is = (at, refl)

-- a word that refers to an object of the area
pub volatile_told : (w : ℕ) → is_volatile w ≡ true → (at : ℕ) × (meaning w ≡ Some (Volatile at))
volatile_told w is = volatile_meant (meaning w) is

-- Each object moves that a word refers to, and to an address of the space.
pub record IsMoved (moves : List Move) (w : ℕ) : Type 0 where
  pub word : IsFieldWord w
  pub goes : (at : ℕ) → meaning w ≡ Some (Volatile at) → (new : ℕ) × (moved moves at ≡ Some new) × (new < 2097152)

-- A word of a field that refers to no object of an area.
pub record IsSettled (w : ℕ) : Type 0 where
  pub word : IsFieldWord w
  pub settled : is_volatile w ≡ false

settled_plain : (moves : List Move) (w : ℕ) → IsFieldWord w → is_volatile w ≡ false → IsSettled (moved_word moves w)
settled_plain moves w word off = subst IsSettled (sym (moved_word-plain moves w off)) (record { word = word; settled = off })

settled_stable : (new : ℕ) → new < 2097152 → IsSettled (bits (Stable new))
settled_stable new within = record { word = (Stable new, within, refl); settled = is_volatile-bits (Stable new) within }

settled_by : (moves : List Move) (w : ℕ) (volatile : Bool) → is_volatile w ≡ volatile → IsMoved moves w → IsSettled (moved_word moves w)
settled_by moves w false is moves_on = settled_plain moves w moves_on.word is
settled_by moves w true is moves_on =
    let told = volatile_told w is in
    let there = moves_on.goes told.0 told.1 in
    subst IsSettled (sym (moved_word-moved moves w told.0 there.0 told.1 there.1)) (settled_stable there.0 there.2)

-- such a word is settled after the move
pub moved_word-settled : (moves : List Move) (w : ℕ) → IsMoved moves w → IsSettled (moved_word moves w)
moved_word-settled moves w moves_on = settled_by moves w (is_volatile w) refl moves_on

-- and one that refers to an object of the area is a reference to a stable one then
pub moved_word-stable : (moves : List Move) (w : ℕ) → IsMoved moves w → is_volatile w ≡ true → is_stable (moved_word moves w) ≡ true
moved_word-stable moves w moves_on is =
    let told = volatile_told w is in
    let there = moves_on.goes told.0 told.1 in
    ap is_stable (moved_word-moved moves w told.0 there.0 told.1 there.1) ∙ is_stable-bits (Stable there.0) there.2

-- each of these fields' words after the move is a field's word
pub moved_words-field_words : (moves : List Move) (ws : List ℕ) → AllByRecursion (IsMoved moves) ws → AllByRecursion IsFieldWord (map (moved_word moves) ws)
moved_words-field_words moves [] all = tt
moved_words-field_words moves (w ∷ ws) all = ((moved_word-settled moves w all.0).word, moved_words-field_words moves ws all.1)

-- and refers to no object of the area
pub moved_words-settled : (moves : List Move) (ws : List ℕ) → AllByRecursion (IsMoved moves) ws → none_volatile (map (moved_word moves) ws) ≡ true
moved_words-settled moves [] all = refl
moved_words-settled moves (w ∷ ws) all =
    ap (λ b. not b && none_volatile (map (moved_word moves) ws)) (moved_word-settled moves w all.0).settled ∙ moved_words-settled moves ws all.1
