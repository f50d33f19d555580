-- The record of a flip has a spelling.
use Rattle.std.proofs.Common.{◌≡◌, None, refl, ap, arith}
use Rattle.std.specs.Prelude.{slice_index}
use Rattle.graph_model.specs.History.{Account}
use Rattle.heap_words.specs.Word.{IsFieldWord, meaning}
use Rattle.heap_spaces.specs.Spaces.{IsSpaces}
use Rattle.log_records.specs.Record.{IsRecord}
use Rattle.log_machine.specs.Machine.{field_at, spaces_of}
use Rattle.graph_words.specs.Places.{addresses}
use Rattle.collection_words.specs.LaidOut.{is_gray_field}
use Rattle.collection_words.proofs.Laid.Within.{start_within}
use Rattle.flip_copy.proofs.FlipRecord.{planned_record}
use Rattle.flip_laws.proofs.Roots.{flip_planned, root_start}
use Rattle.scan_laws.proofs.Olds.{all_fields}
use Rattle.heap_model.specs.Core.{Core, all_words}
use Rattle.heap_model.proofs.Step.Bits.{here_word}
use Rattle.core_laws.proofs.Collecting.Flip as flip
use Rattle.core_laws.specs.Valid.{Agrees}

pub flip_spelled : (a : Account) (c : Core) (h : Agrees a c) (none : h.behind.collection ≡ None) → IsRecord (flip.rec a c h none)
flip_spelled a c h none =
    let s = h.behind in
    let small = h.told.heap.small in
    let spaces : IsSpaces (spaces_of s) = record { few = omega (arith, small); first = h.told.heap.spaced.first; room = h.told.heap.spaced.room } in
    let can = flip.can a c h none in
    planned_record (spaces_of s) (all_words c) (flip.roots a c h none) spaces (flip_planned can).copied (record {
      words_fit = h.told.fit;
      fields = λ at has.
          let start = root_start can at has in
          let object = start_within can.laid at start in
          all_fields IsFieldWord (all_words c) at object.fields object.object (λ i below.
          here_word (addresses c.places) (slice_index (all_words c) (field_at at i)) (meaning (slice_index (all_words c) (field_at at i))) refl
          (can.laid.here at start object.fields i object.object below (ap (λ o. is_gray_field o at i) none)));
    })
