-- The bytes that are appended are those of the copies' records.
use Rattle.std.proofs.Common.{◌≡◌, List, [], ◌∷◌, ◌++◌, length, map, sym, ◌∙◌}
use Rattle.std.proofs.lemmas.List.{length-map}
use Rattle.gated_log.specs.LogState.{Keeps}
use Rattle.log_records.specs.declared.Record.{Record}
use Rattle.log_records.specs.declared.Record.TheVariants.{Scan}
use Rattle.log_records.specs.Record.{copy_record, spellings}
use Rattle.heap_engine.proofs.Appended.{room_front, spare_front, appended_bytes}
use Rattle.logged_pages.proofs.CarriedLaws.{ok_gives}
use Rattle.heap_engine.proofs.planned.append_copies.Goals as goal

pub append_spelled-requires-clause-spelled : goal.append_spelled-requires-clause-spelled
append_spelled-requires-clause-spelled c =
    let copies = c.args.scan.now.copies in
    (map copy_record copies, c.spelled_copies-spelled.ensures, length-map copies copy_record ∙ sym c.copy_count.ensures)

pub append_spelled-requires-clause-room : goal.append_spelled-requires-clause-room
append_spelled-requires-clause-room c =
    let scan = c.args.scan.now in
    room_front c.args.log.now (map copy_record scan.copies) (Scan scan.page scan.writes ∷ []) c.spelled_copies-spelled.result.now c.spelled_copies-spelled.ensures c.requires.room

pub unwrap-requires : goal.unwrap-requires
unwrap-requires c =
    let scan = c.args.scan.now in
    c.append_spelled.ensures.in_room (spare_front c.args.log.now (map copy_record scan.copies) (Scan scan.page scan.writes ∷ []) c.spelled_copies-spelled.result.now c.spelled_copies-spelled.ensures c.requires.memory)

pub returns : goal.returns
returns c =
    let scan = c.args.scan.now in
    let records = map copy_record scan.copies in
    let bytes = c.spelled_copies-spelled.result.now in
    let told = c.append_spelled.ensures in
    let ok = told.in_room (spare_front c.args.log.now records (Scan scan.page scan.writes ∷ []) bytes c.spelled_copies-spelled.ensures c.requires.memory) in
    let added : (batches : List (List Record)) (pending all : List Record) → bytes ≡ spellings all → length all ≡ c.copy_count.result → Keeps c.args.log.now batches pending → Keeps c.append_spelled.new.self batches (pending ++ all) =
    λ batches pending all spelled counted keeps. ok_gives c.append_spelled.result ok (told.added batches pending all spelled counted keeps) in
    appended_bytes c.args.log.now c.append_spelled.new.self records bytes c.copy_count.result c.spelled_copies-spelled.ensures (length-map scan.copies copy_record ∙ sym c.copy_count.ensures) told.place added
    (ok_gives c.append_spelled.result ok told.size) (ok_gives c.append_spelled.result ok told.count) told.memory
