-- The text of rows, one after another.
use Rattle.std.proofs.Common.{◌≡◌, ℕ, ◌+◌, List, [], ◌∷◌, ◌++◌, length, sym, ap, ◌∙◌, append_assoc, arith}
use Rattle.std.specs.Prelude.{codes}
use Rattle.std.specs.Fmt.{decimal}
use Rattle.std.proofs.lemmas.List.{append-nil}
use Rattle.graph_model.specs.Canon.{Shown}
use Rattle.graph_model.specs.Text.{field_text, fields_text, rows_text}
pub use Rattle.graph_model.specs.Text.{row_text}

-- one more field
pub fields_text_push : (row : List Shown) (field : Shown) → fields_text (row ++ field ∷ []) ≡ fields_text row ++ field_text field
fields_text_push [] field = append-nil (field_text field)
fields_text_push (f ∷ row) field = ap (λ t. field_text f ++ t) (fields_text_push row field) ∙ sym (append_assoc (field_text f) (fields_text row) (field_text field))

-- one more row
pub rows_text_push : (number : ℕ) (rows : List (List Shown)) (row : List Shown) → rows_text number (rows ++ row ∷ []) ≡ rows_text number rows ++ row_text (number + length rows) row
rows_text_push number [] row = let same : number ≡ number + 0 = omega arith in ap (λ n. row_text n row) same
rows_text_push number (r ∷ rows) row =
    let same : number + 1 + length rows ≡ number + length (r ∷ rows) = omega arith in
    let front = decimal number ++ codes ":" ++ fields_text r in
    ap (λ t. front ++ 10 ∷ t) (rows_text_push (number + 1) rows row ∙ ap (λ n. rows_text (number + 1) rows ++ row_text n row) same)
    ∙ sym (append_assoc front (10 ∷ rows_text (number + 1) rows) (row_text (number + length (r ∷ rows)) row))
