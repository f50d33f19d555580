use Rattle.std.proofs.Common.{rules, ◌+◌, Some, length, sym, ◌∙◌}
use Rattle.gated_log.specs.LogState.{HasSpare}
use Rattle.log_records.specs.Record.{spellings}
use Rattle.heap_memory.specs.Collecting.{spaces_behind, collection_behind}
use Rattle.heap_memory.specs.Refusals.{scan_refusal}
use Rattle.heap_memory.specs.Replies.{scan_reply}
use Rattle.logged_pages.specs.State.{log_of}
use Rattle.heap_engine.specs.Barrier.{planned_records}
use Rattle.heap_engine.specs.EngineState.{memory}
use Rattle.heap_engine.proofs.Carried.{adds_carried, carried}
use Rattle.heap_engine.proofs.Left.{from_same}
use Rattle.heap_engine.proofs.Scanned.{same_ready, noted, noted_owes, noted_sound}
use Rattle.heap_engine.proofs.ScanEvent.{page_low, page_refused, page_scans, answers_refused}
use Rattle.heap_engine.proofs.engine.Engine.scan_page.Goals as goal

pub plan_page-requires : goal.plan_page-requires
plan_page-requires g c =
    let s = c.args.self.now in
    page_low s.spaces s.collection c.args.page c.next_free-end.ensures.sound s.gray c.requires.next

pub returns-in-Some-clause-reply : goal.returns-in-Some-clause-reply
returns-in-Some-clause-reply g c =
    let m = memory c.args.self.now in
    let scan = c.in_ok-scan.scan in
    let why = page_refused m c.args.page c.requires.next (planned_records scan.scan) c.in_ok-scan.ensures.records c.in_ok-why.field-0 c.in_ok-why.ensures.why in
    answers_refused (scan_refusal m (Some c.args.page)) c.in-Some.why c.refused.result (scan_reply m (Some c.args.page)) (sym why ∙ c.in-Some.is) c.refused.ensures

pub invariant_of-self-2-clause-owed : goal.invariant_of-self-2-clause-owed
invariant_of-self-2-clause-owed g c =
    let s = c.args.self.now in
    let mid = c.make_room_for.new.self in
    let plan = c.in_ok-scan.scan in
    let is = noted plan mid.spaces c.note_scan.new.spaces mid.collection c.keep_copies.new.collection c.note_scan.new.collection c.copies.result.now c.copies.ensures c.in_ok-keep_copies.ensures.ok c.note_scan.ensures.spaces c.note_scan.ensures.collection in
    let ready = same_ready (memory s) (memory mid) (planned_records plan.scan) c.make_room_for.ensures.same c.in_ok-scan.ensures.ready in
    noted_owes (memory mid) (planned_records plan.scan) ready c.note_scan.new.spaces c.note_scan.new.collection is

pub invariant_of-self-2-clause-gray : goal.invariant_of-self-2-clause-gray
invariant_of-self-2-clause-gray g c =
    let s = c.args.self.now in
    let mid = c.make_room_for.new.self in
    let plan = c.in_ok-scan.scan in
    let is = noted plan mid.spaces c.note_scan.new.spaces mid.collection c.keep_copies.new.collection c.note_scan.new.collection c.copies.result.now c.copies.ensures c.in_ok-keep_copies.ensures.ok c.note_scan.ensures.spaces c.note_scan.ensures.collection in
    let ready = same_ready (memory s) (memory mid) (planned_records plan.scan) c.make_room_for.ensures.same c.in_ok-scan.ensures.ready in
    noted_sound (memory mid) (planned_records plan.scan) ready c.note_scan.new.spaces c.note_scan.new.collection is

pub returns-clause-scanned : goal.returns-clause-scanned
returns-clause-scanned g c objects words is =
    let s = c.args.self.now in
    let mid = c.make_room_for.new.self in
    let same = c.make_room_for.ensures.same in
    let plan = c.in_ok-scan.scan in
    let records = planned_records plan.scan in
    let is = noted plan mid.spaces c.note_scan.new.spaces mid.collection c.keep_copies.new.collection c.note_scan.new.collection c.copies.result.now c.copies.ensures c.in_ok-keep_copies.ensures.ok c.note_scan.ensures.spaces c.note_scan.ensures.collection in
    page_scans (memory s) c.args.page c.requires.next records c.in_ok-scan.ensures.records _
    (from_same (memory s) (memory mid) _ records s.table s.locks (spaces_behind s.spaces records) (collection_behind s.collection records) s.sealed same (record {
      log = adds_carried _ _ _ c.in_ok-carry_out.ensures.carries;
      words = c.in_ok-carry_out.ensures.carries.words;
      lsns = c.in_ok-carry_out.ensures.carries.lsns;
      store = c.in_ok-carry_out.ensures.carries.store;
      table = same.table;
      locks = same.locks;
      spaces = is.spaces ∙ (λ i. spaces_behind (same.spaces i) records);
      collection = is.collection ∙ (λ i. collection_behind (same.collection i) records);
      sealed = same.sealed;
    }))

pub invariant_of-self-2-clause-spare : goal.invariant_of-self-2-clause-spare
invariant_of-self-2-clause-spare g c =
    let mid = c.make_room_for.new.self in
    let spare : HasSpare (log_of mid.pages) (length (spellings (planned_records c.in_ok-scan.scan.scan)) + mid.reserved) = search rules in
    (carried c.carry_out.result c.carry_out.ensures.still.1 c.carry_out.ensures.carries).spare mid.reserved spare
