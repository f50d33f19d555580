-- The forwarding word leads to a start exactly if the search finds it.
use Rattle.std.proofs.Common.{◌≡◌, Some, ◌∙◌, ap, sym, get_or}
use Rattle.heap_words.specs.declared.Header.TheVariants.{Forward}
use Rattle.heap_words.specs.Header.{header}
use Rattle.object_layout.specs.Layout.{object_at}
use Rattle.object_layout.specs.CollectionWalk.{ending, copy_length}
use Rattle.object_layout.proofs.Starts.{searched_start}
use Rattle.object_layout.proofs.OldStarts.{found_there, found_none, copy_there, copy_nowhere}
use Rattle.object_layout.proofs.from_space.copied_object.Goals as goal

pub returns-in_ok-length-in-Some-Forward-clause-object : goal.returns-in_ok-length-in-Some-Forward-clause-object
returns-in_ok-length-in-Some-Forward-clause-object g c told ascend =
    let words = g.W.Words.content c.args.words.now in
    let starts = c.args.starts.now in
    let end = c.args.end in
    let at = c.args.at in
    let to = c.in-Some-Forward.to in
    let named : header (get_or words at 0) ≡ Some (Forward to) =
    ap header (sym (c.in_ok-word.ensures.word told)) ∙ sym c.header_of.ensures ∙ c.in-Some-Forward.is ∙ ap Some c.in-Some-Forward.field-0-is in
    let said = searched_start starts to c.binary_search.result c.binary_search.ensures.position ascend in
    let has = found_there _ _ _ (sym c.is_ok.ensures.value ∙ c.if-is_ok.true) said in
    c.ending_before.ensures.length
    ∙ ap (ending end at) (c.in_ok-length-in-Some-Forward.ensures.object told ∙ ap (λ ws. object_at ws to) (c.in_ok-word.ensures.read.same_words told) ∙ sym (copy_there words starts to has))
    ∙ ap (λ h. ending end at (copy_length words starts h)) (sym named)

pub returns-in_default-clause-object : goal.returns-in_default-clause-object
returns-in_default-clause-object g c told ascend =
    let words = g.W.Words.content c.args.words.now in
    let starts = c.args.starts.now in
    let end = c.args.end in
    let at = c.args.at in
    let to = c.in-Some-Forward.to in
    let named : header (get_or words at 0) ≡ Some (Forward to) =
    ap header (sym (c.in_ok-word.ensures.word told)) ∙ sym c.header_of.ensures ∙ c.in-Some-Forward.is ∙ ap Some c.in-Some-Forward.field-0-is in
    let said = searched_start starts to c.binary_search.result c.binary_search.ensures.position ascend in
    let none = found_none _ _ _ (sym c.is_ok.ensures.value ∙ c.if-is_ok.false) said in
    sym (ap (λ h. ending end at (copy_length words starts h)) named ∙ ap (ending end at) (copy_nowhere words starts to none))
