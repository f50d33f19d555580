use Rattle.log_machine.proofs.ListLaws.{AllByRecursion-map}
use Rattle.log_machine.specs.declared.UndoEntry.{UndoEntry}
use Rattle.graph_words.proofs.Stands.Field.{IsField}
use Rattle.graph_words.specs.Places.{addresses}
use Rattle.collection_words.specs.Writes.{IsCurrentField}
use Rattle.collection_words.proofs.Laid.Write.{as_field}
use Rattle.collection_words.proofs.Relocated.Writes.{relocated_taken_back}
use Rattle.collection_words.proofs.completing.relocations_survive_writes_taken_back.Goals as goal

pub returns : goal.returns
returns c places others words moved from end to stop us vs here there is entries fields =
    let moves = relocated_taken_back us vs (record { here = here; there = there; is = is }) entries
    (AllByRecursion-map (λ (u : UndoEntry). IsCurrentField places words u.object u.field) (λ u. IsField words (addresses places) u.object u.field) us (λ u field. as_field field) fields) in
    (moves.there, moves.is)
