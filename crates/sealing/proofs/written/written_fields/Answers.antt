-- One more write.
use Rattle.std.proofs.Common.{◌≡◌, ◌+◌, List, [], ◌∷◌, reverse, take, get_or, sym, ap, ◌∙◌}
use Rattle.std.proofs.lemmas.List.{take_more, reverse-append}
use Rattle.std.specs.BTreeSet.{insert_key}
use Rattle.graph_words.specs.Promotion.{Field, field_cmp, field_of, written_fields}
use Rattle.sealing.proofs.Fields.{written_inserted, written_none}
use Rattle.sealing.proofs.written.written_fields.Goals as goal
use Rattle.log_machine.specs.UndoEntry.{undo_entry}

pub loop-entry-init : goal.loop-entry-init
loop-entry-init c = c.new-fields.ensures.empty ∙ sym written_none

pub loop-entry-preserved : goal.loop-entry-preserved
loop-entry-preserved c =
    let undo = c.args.undo.now in
    let i = c.loop-entry.entry-index in
    let u = get_or undo i (undo_entry 0 0 0) in
    let now : reverse (take (i + 1) undo) ≡ u ∷ reverse (take i undo) =
    ap reverse (take_more undo i _ c.loop-entry-test.true) ∙ reverse-append (take i undo) (u ∷ []) in
    written_inserted u (reverse (take i undo)) c.insert.new.self.keys
    (c.in_ok-insert.ensures.keys ∙ ap (λ (fs : List Field). insert_key field_cmp fs (field_of u)) c.loop-entry.invariant) c.in_ok-insert.ensures.ordered
    ∙ ap written_fields (sym now)
