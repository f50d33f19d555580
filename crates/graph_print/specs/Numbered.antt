-- What a field and the fields of an object leave when what they refer to is numbered.
use Rattle.std.specs.Prelude.{◌≡◌, ℕ, List}
use Rattle.heap_words.specs.Word.{meaning}
use Rattle.graph_print.specs.Order.{with_place, with_places, target, targets, IsWholeField, AreWhole}

-- A field is visited: if it is a reference it names an object, which has a number then.
pub record IsFieldNumbered (words : List ℕ) (places after : List ℕ) (w : ℕ) : Type 0 where
  pub whole : IsWholeField words (meaning w)
  pub order : after ≡ with_place places (target words w)

-- The same for fields one after another.
pub record AreFieldsNumbered (words : List ℕ) (places after : List ℕ) (ws : List ℕ) : Type 0 where
  pub whole : AreWhole words ws
  pub order : after ≡ with_places places (targets words ws)
