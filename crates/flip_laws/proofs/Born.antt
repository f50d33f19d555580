-- Births after a flip: a copy has the birth of its object, and the from-space gives those of all that stood there.
use Rattle.std.proofs.Common.{◌≡◌, ℕ, Bool, List, not, subst}
use Rattle.std.specs.FinSet.{contains}
use Rattle.graph_model.specs.declared.id.Id.{Id}
use Rattle.object_layout.specs.Layout.{id_at}
use Rattle.log_machine.specs.Machine.{State}
use Rattle.log_machine.proofs.ListLaws.{AllByRecursion-append}
use Rattle.graph_words.specs.Places.{Places}
use Rattle.graph_words.specs.Stands.{AreNamedByBirth}
use Rattle.collection_words.specs.Placed.{HaveOwnNames}
use Rattle.walk_laws.specs.Heap.{TellsBirths}
use Rattle.walk_laws.proofs.Birth.Flipped as flipped
use Rattle.flip_laws.specs.Flip.{CanFlip, collection_begun, copy_places, left_places, root_places, state_behind, words_behind}
use Rattle.flip_laws.proofs.Placed.{all_kept}
use Rattle.flip_laws.proofs.Roots.{flip_begun, flip_flipping, moved_root, root_start, words_are}

-- Births are known after a flip, where they gave the names before.
pub flip_births : {s : State} {places : Places} {words roots : List ℕ} → CanFlip s places words roots → HaveOwnNames places → AreNamedByBirth places words
    → TellsBirths (state_behind s words roots) (copy_places s words roots places) (left_places s words roots places) (words_behind s words roots)
flip_births {s} {places} {words} {roots} can own born =
    let Named : Id × ℕ → Type 0 = λ p. id_at words p.1 ≡ p.0 in
    let moved : ℕ → Bool = λ at. contains (collection_begun s words roots).moved at in
    let chosen = root_places s words roots places in
    let left = left_places s words roots places in
    let parted = AllByRecursion-append Named chosen left (all_kept Named (λ p. moved p.1) places born) (all_kept Named (λ p. not (moved p.1)) places born) in
    subst (TellsBirths (state_behind s words roots) (copy_places s words roots places) left) (words_are can)
    (flipped.flip_births (flip_flipping can) (flip_begun can) (λ at has. root_start can at (moved_root can at has)) own born parted)
