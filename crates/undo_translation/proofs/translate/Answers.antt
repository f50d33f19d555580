-- One more entry is translated.
use Rattle.std.proofs.Common.{◌≡◌, ◌++◌, map, take, drop, get_or, set, sym, ap, ◌∙◌, add-one, refl}
use Rattle.log_machine.specs.declared.UndoEntry.{UndoEntry}
use Rattle.log_machine.specs.Translation.{translated_entry}
use Rattle.log_machine.specs.UndoEntry.{undo_entry}
use Rattle.undo_translation.proofs.Mapped.{put_mapped}
use Rattle.undo_translation.proofs.translate.Goals as goal

pub loop-entry-preserved : goal.loop-entry-preserved
loop-entry-preserved c =
    let xs = c.args.entries.now in
    let i = c.loop-entry.entry-index in
    let f = translated_entry c.args.pairs.now in
    let d : UndoEntry = undo_entry 0 0 0 in
    let before = map f (take i xs) ++ drop i xs in
    let is : c.loop-entry.entries ≡ before = c.loop-entry.invariant in
    ap (λ es. set es i c.translated.result) is
    ∙ ap (λ y. set before i y) (c.translated.ensures ∙ ap (λ es. f (get_or es i d)) is)
    ∙ put_mapped f xs i (get_or before i d) d c.loop-entry-test.true refl
    ∙ ap (λ n. map f (take n xs) ++ drop n xs) (sym (add-one i))
