-- A reference leads inside if the search finds it.
use Rattle.std.proofs.Common.{◌≡◌, Bool, Option, Some, is_ok, ◌∙◌, ap, sym, subst}
use Rattle.std.specs.Prelude.{MatchBool}
use Rattle.heap_words.specs.declared.Word.{Word}
use Rattle.heap_words.specs.declared.Word.TheVariants.{Stable}
use Rattle.heap_words.specs.Word.{meaning}
use Rattle.object_layout.specs.Walk.{IsInside}
use Rattle.object_layout.proofs.Starts.{searched_start}
use Rattle.object_layout.proofs.space.is_inside.Goals as goal

pub returns-in-Some-Stable : goal.returns-in-Some-Stable
returns-in-Some-Stable c ascend =
    let starts = c.args.starts.now in
    let b = c.in-Some-Stable.address in
    let read : Some (Stable b) ≡ meaning c.args.word = ap Some (sym c.in-Some-Stable.field-0-is) ∙ c.in-Some-Stable.ensures.read in
    let Meant : Option Word → Type 0 = λ m. MatchBool (is_ok c.binary_search.result) (IsInside starts m) (IsInside starts m → ⊥) in
    let Told : Bool → Type 0 = λ t. MatchBool t (IsInside starts (meaning c.args.word)) (IsInside starts (meaning c.args.word) → ⊥) in
    subst Told (sym c.is_ok.ensures.value) (subst Meant read (searched_start starts b c.binary_search.result c.binary_search.ensures.position ascend))
