-- One more handle holds the same object, at its new place.
use Rattle.std.proofs.Common.{◌≡◌, ◌++◌, map, take, drop, get_or, set, None, refl, sym, ap, ◌∙◌, add-one}
use Rattle.undo_translation.proofs.Mapped.{put_mapped}
use Rattle.txn_table.specs.Translation.{translated_handle}
use Rattle.txn_table.proofs.roots.translate_handles.Goals as goal

pub loop-handle-preserved : goal.loop-handle-preserved
loop-handle-preserved c =
    let xs = c.args.handles.now in
    let i = c.loop-handle.handle-index in
    let f = translated_handle c.args.pairs.now in
    let before = map f (take i xs) ++ drop i xs in
    let is : c.loop-handle.handles ≡ before = c.loop-handle.invariant in
    ap (λ hs. set hs i c.translated_handle.result) is
    ∙ ap (λ h. set before i h) (c.translated_handle.ensures ∙ ap (λ hs. f (get_or hs i None)) is)
    ∙ put_mapped f xs i (get_or before i None) None c.loop-handle-test.true refl
    ∙ ap (λ n. map f (take n xs) ++ drop n xs) (sym (add-one i))
