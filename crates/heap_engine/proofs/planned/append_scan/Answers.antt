-- The record of a scan comes after those of its copies.
use Rattle.std.proofs.Common.{◌+◌, ◌≤◌, List, [], ◌∷◌, ◌++◌, length, map, sym, subst}
use Rattle.gated_log.specs.LogState.{Keeps, log_used, log_need, log_room, HasSpare}
use Rattle.log_records.specs.declared.Record.{Record}
use Rattle.log_records.specs.declared.Record.TheVariants.{Scan}
use Rattle.log_records.specs.Record.{copy_record, spelling}
use Rattle.logged_pages.specs.Appended.{IsAppended}
use Rattle.heap_engine.proofs.Appended.{appended_more, room_next, spare_next}
use Rattle.logged_pages.proofs.CarriedLaws.{ok_gives}
use Rattle.heap_engine.proofs.planned.append_scan.Goals as goal

pub append-requires : goal.append-requires
append-requires c =
    let scan = c.args.scan.now in
    let mid = c.append_copies.new.log in
    subst (λ (r : Record). log_used mid + log_need mid (length (spelling r)) ≤ log_room mid) (sym c.record.ensures)
    (room_next c.args.log.now mid (map copy_record scan.copies) (Scan scan.page scan.writes) [] c.append_copies.ensures c.requires.room)

pub unwrap-requires : goal.unwrap-requires
unwrap-requires c =
    let scan = c.args.scan.now in
    let mid = c.append_copies.new.log in
    c.append.ensures.in_room (subst (λ (r : Record). HasSpare mid (length (spelling r))) (sym c.record.ensures)
    (spare_next c.args.log.now mid (map copy_record scan.copies) (Scan scan.page scan.writes) [] c.append_copies.ensures c.requires.memory))

pub returns : goal.returns
returns c =
    let scan = c.args.scan.now in
    let mid = c.append_copies.new.log in
    let told = c.append.ensures in
    let rec = c.record.result.now in
    let ok = told.in_room (subst (λ (r : Record). HasSpare mid (length (spelling r))) (sym c.record.ensures)
    (spare_next c.args.log.now mid (map copy_record scan.copies) (Scan scan.page scan.writes) [] c.append_copies.ensures c.requires.memory)) in
    let added : (batches : List (List Record)) (pending : List Record) → Keeps mid batches pending → Keeps c.append.new.self batches (pending ++ rec ∷ []) = λ batches pending keeps. ok_gives c.append.result ok (told.added batches pending keeps) in
    subst (λ (r : Record). IsAppended c.args.log.now c.append.new.self (map copy_record scan.copies ++ r ∷ [])) c.record.ensures
    (appended_more c.args.log.now mid c.append.new.self (map copy_record scan.copies) rec c.append_copies.ensures told.place added
    (ok_gives c.append.result ok told.used) (ok_gives c.append.result ok told.count) told.memory)
