-- What a field and the fields of an object leave when they are printed.
use Rattle.std.specs.Prelude.{◌≡◌, ℕ, List, ◌++◌}
use Rattle.heap_words.specs.Word.{meaning}
use Rattle.graph_model.specs.Text.{field_text, fields_text}
use Rattle.graph_print.specs.Order.{with_place, with_places, target, targets, IsWholeField, AreWhole, shown_word, row}

-- A field is printed: if it is a reference it names an object, which has a number then, and its text is appended.
pub record IsFieldPrinted (words : List ℕ) (places after text printed : List ℕ) (w : ℕ) : Type 0 where
  pub whole : IsWholeField words (meaning w)
  pub order : after ≡ with_place places (target words w)
  pub bytes : printed ≡ text ++ field_text (shown_word words after (meaning w))

-- The same for fields one after another.
pub record AreFieldsPrinted (words : List ℕ) (places after text printed : List ℕ) (ws : List ℕ) : Type 0 where
  pub whole : AreWhole words ws
  pub order : after ≡ with_places places (targets words ws)
  pub bytes : printed ≡ text ++ fields_text (row words after ws)
