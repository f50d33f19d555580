use Rattle.std.proofs.Common.{◌≡◌, ◌∷◌, map, take, zip}
use Rattle.std.specs.Prelude.{slice_index}
use Rattle.object_layout.specs.Layout.{birth_at}
use Rattle.graph_words.specs.Promotion.{moved_word as moved}
use Rattle.sealing.proofs.records.base.Given as goal

abbrev pub invariant-loop-word : goal.invariant-loop-word
invariant-loop-word l =
    l.words.items ≡ slice_index l.area.words l.object ∷ birth_at l.area.words l.object ∷ map (moved (zip l.objects l.addresses)) (take l.word-index l.word-items)
