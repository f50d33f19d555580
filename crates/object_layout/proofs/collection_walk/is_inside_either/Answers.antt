-- Either list decides it.
use Rattle.std.proofs.Common.{Bool, false, subst}
use Rattle.std.specs.Prelude.{MatchBool}
use Rattle.heap_words.specs.Word.{meaning}
use Rattle.object_layout.specs.Walk.{IsInside}
use Rattle.object_layout.proofs.OldStarts.{inside_either}
use Rattle.object_layout.proofs.collection_walk.is_inside_either.Goals as goal

pub returns-else-is_inside : goal.returns-else-is_inside
returns-else-is_inside c ascend ascend_more =
    let starts = c.args.starts.now in
    let more = c.args.more.now in
    let meant = meaning c.args.word in
    let Told : Bool → Type 0 = λ t. MatchBool t (IsInside starts meant) (IsInside starts meant → ⊥) in
    inside_either starts more meant false c.is_inside-else-is_inside.result (subst Told c.if-is_inside.false (c.is_inside.ensures ascend)) (c.is_inside-else-is_inside.ensures ascend_more)
