-- How a graph is numbered and printed, step by step.
use Rattle.std.proofs.Common.{◌≡◌, ℕ, zero, suc, ◌+◌, ◌-◌, ◌<◌, List, ◌++◌, map, drop, Some, None, refl, sym, ap, ◌∙◌, arith}
use Rattle.std.specs.Prelude.{slice_get}
use Rattle.graph_model.specs.declared.id.Id.{Id}
use Rattle.graph_model.specs.Graph.{Graph, fields}
use Rattle.graph_model.specs.Canon.{with_targets, visit, Shown, shown}
use Rattle.graph_model.specs.Text.{rows_text}

-- what is numbered once the visits have continued from the ith
abbrev pub visited : Graph → ℕ → ℕ → List Id → List Id
visited g end i ids = visit g (end - i) i (slice_get ids i) ids

-- the ith leads to the next
pub visited-next : (g : Graph) (end i : ℕ) (id : Id) (ids more : List Id) (fs : _) → i < end → slice_get ids i ≡ Some id → fs ≡ fields g id → more ≡ with_targets ids fs
    → visited g end (i + 1) more ≡ visited g end i ids
visited-next g end i id ids more fs within is are leads =
    let turns : end - i ≡ suc (end - (i + 1)) = omega arith in
    ap (visited g end (i + 1)) (leads ∙ ap (with_targets ids) are)
    ∙ sym (ap (λ o. visit g (suc (end - (i + 1))) i o ids) is)
    ∙ sym (ap (λ n. visit g n i (slice_get ids i) ids) turns)

stopped : (g : Graph) (turns i : ℕ) (ids : List Id) → visit g turns i None ids ≡ ids
stopped g zero i ids = refl
stopped g (suc turns) i ids = refl

-- and where none is left
pub visited-none : (g : Graph) (end i : ℕ) (ids : List Id) → slice_get ids i ≡ None → visited g end i ids ≡ ids
visited-none g end i ids is = ap (λ o. visit g (end - i) i o ids) is ∙ stopped g (end - i) i ids

-- the row of an object, where these ids are numbered
abbrev pub row_of : Graph → List Id → Id → List Shown
row_of g ids id = map (shown ids) (fields g id)

-- the text so far, and that of the rows from the ith on
abbrev pub with_rows : List ℕ → Graph → List Id → ℕ → List ℕ
with_rows text g ids i = text ++ rows_text i (map (row_of g ids) (drop i ids))
