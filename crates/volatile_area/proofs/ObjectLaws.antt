-- A new object, whose fields are null, and where objects that stand end to end start.
use Rattle.std.proofs.Common.{◌≡◌, ℕ, zero, suc, ◌+◌, ◌*◌, ◌<◌, ◌≤◌, List, [], ◌∷◌, ◌++◌, length, Some, refl, sym, ap, ◌∙◌, subst, arith}
use Rattle.std.specs.Prelude.{replicate}
use Rattle.std.proofs.lemmas.List.{length-replicate}
use Rattle.object_layout.specs.Layout.{object_at, field_words}
use Rattle.object_layout.specs.Walk.{AreEndToEnd}
use Rattle.object_layout.proofs.LayoutLaws.{length-field_words}
use Rattle.object_layout.proofs.ObjectLaws as object
use Rattle.volatile_area.specs.Area.{length_at, starts_from}

-- A new object.

-- it stands after all words
pub object_behind : (words : List ℕ) (birth n : ℕ) → n < 511 → object_at (words ++ (4 * n + 1) ∷ birth ∷ replicate n 0) (length words) ≡ Some n
object_behind words birth n small =
    subst (λ m. object_at (words ++ (4 * m + 1) ∷ birth ∷ replicate n 0) (length words) ≡ Some m) (length-replicate {A = ℕ} n 0)
    (object.object_behind words birth (replicate n 0) (omega (arith, length-replicate {A = ℕ} n 0)))

-- its fields are null
pub field_words_behind : (words : List ℕ) (birth n : ℕ) → n < 511 → field_words (words ++ (4 * n + 1) ∷ birth ∷ replicate n 0) (length words) ≡ replicate n 0
field_words_behind words birth n small =
    subst (λ m. field_words (words ++ (4 * m + 1) ∷ birth ∷ replicate n 0) (length words) ≡ replicate n 0) (length-replicate {A = ℕ} n 0)
    (object.field_words_behind words birth (replicate n 0) (omega (arith, length-replicate {A = ℕ} n 0)))

-- Objects end to end.

-- each takes two words at least
pub end_to_end_long : (words : List ℕ) (from : ℕ) (starts : List ℕ) (end : ℕ) → AreEndToEnd words from starts end → from + 2 * length starts ≤ end
end_to_end_long words from [] end objects = omega arith
end_to_end_long words from (a ∷ rest) end (n, same, first, later) =
    let long = end_to_end_long words (a + 2 + n) rest end later in omega arith

-- Starts as a function.

pub length-starts_from : (more : ℕ) (words : List ℕ) (at : ℕ) → length (starts_from more words at) ≡ more
length-starts_from zero words at = refl
length-starts_from (suc more) words at = ap suc (length-starts_from more words (at + 2 + length_at words at))

-- objects that stand end to end stand where the function says
pub starts_from-end_to_end : (words : List ℕ) (from : ℕ) (starts : List ℕ) (end : ℕ) → AreEndToEnd words from starts end → starts_from (length starts) words from ≡ starts
starts_from-end_to_end words from [] end objects = refl
starts_from-end_to_end words from (a ∷ rest) end (n, same, first, later) =
    let long : length_at words from ≡ n = length-field_words words from n (ap (object_at words) (sym same) ∙ first) in
    let next : from + 2 + length_at words from ≡ a + 2 + n = omega arith in
    ap (λ l. from ∷ l) (ap (λ x. starts_from (length rest) words x) next ∙ starts_from-end_to_end words (a + 2 + n) rest end later)
    ∙ ap (λ x. x ∷ rest) (sym same)
