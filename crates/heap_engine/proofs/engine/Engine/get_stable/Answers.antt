use Rattle.std.proofs.Common.{rules, ◌≡◌, ℕ, ◌+◌, None, Some, Option, List, length, refl, sym, ap, ◌∙◌}
use Rattle.std.specs.List.{fold}
use Rattle.log_machine.specs.Machine.{put_record}
use Rattle.gated_log.specs.LogState.{HasSpare}
use Rattle.log_records.specs.Record.{spellings}
use Rattle.std.specs.Prelude.{slice_index}
use Rattle.std.specs.FinSet as set
use Rattle.object_layout.specs.Layout.{field_words}
use Rattle.logged_pages.specs.State.{log_of, pages_in_memory, store_of}
use Rattle.heap_memory.specs.Collecting.{barrier_records}
use Rattle.heap_memory.specs.Memory.{Memory}
use Rattle.heap_engine.specs.Barrier.{planned_records}
use Rattle.heap_engine.specs.EngineState.{memory}
use Rattle.graph_model.specs.Plain.{busy_with}
use Rattle.graph_model.specs.declared.reply.Refusal.{Refusal}
use Rattle.graph_model.specs.declared.reply.Reply.TheVariants.{Refused}
use Rattle.heap_words.specs.declared.Word.{Word}
use Rattle.heap_words.specs.declared.Word.TheVariants as word
use Rattle.heap_words.specs.Word.{meaning}
use Rattle.object_locks.specs.Holder.{holder_of}
use Rattle.object_locks.specs.declared.holding.Holding.{Holding}
use Rattle.object_locks.specs.declared.holding.Mode.TheVariants.{Shared}
use Rattle.heap_memory.specs.Refusals.{asked, records_room}
use Rattle.heap_memory.specs.Replies.{word_reply}
use Rattle.heap_engine.proofs.Carried.{adds_carried, carried}
use Rattle.heap_engine.proofs.FieldRefused.{read_answer}
use Rattle.heap_engine.proofs.Scanned.{same_ready, noted, noted_owes, noted_sound, got_at}
use Rattle.heap_engine.proofs.engine.Engine.get_stable.Goals as goal

pub invariant_of-self-2-clause-owed : goal.invariant_of-self-2-clause-owed
invariant_of-self-2-clause-owed g c =
    let s = c.args.self.now in
    let mid = c.make_room_for.new.self in
    let plan = c.in_ok-scan.scan in
    let is = noted plan mid.spaces c.note_scan.new.spaces mid.collection c.keep_copies.new.collection c.note_scan.new.collection c.copies.result.now c.copies.ensures c.in_ok-keep_copies.ensures.ok c.note_scan.ensures.spaces c.note_scan.ensures.collection in
    let ready = same_ready (memory s) (memory mid) (planned_records plan.scan) c.make_room_for.ensures.same c.in_ok-scan.ensures.ready in
    noted_owes (memory mid) (planned_records plan.scan) ready c.note_scan.new.spaces c.note_scan.new.collection is

pub invariant_of-self-2-clause-gray : goal.invariant_of-self-2-clause-gray
invariant_of-self-2-clause-gray g c =
    let s = c.args.self.now in
    let mid = c.make_room_for.new.self in
    let plan = c.in_ok-scan.scan in
    let is = noted plan mid.spaces c.note_scan.new.spaces mid.collection c.keep_copies.new.collection c.note_scan.new.collection c.copies.result.now c.copies.ensures c.in_ok-keep_copies.ensures.ok c.note_scan.ensures.spaces c.note_scan.ensures.collection in
    let ready = same_ready (memory s) (memory mid) (planned_records plan.scan) c.make_room_for.ensures.same c.in_ok-scan.ensures.ready in
    noted_sound (memory mid) (planned_records plan.scan) ready c.note_scan.new.spaces c.note_scan.new.collection is

pub returns-clause-got : goal.returns-clause-got
returns-clause-got g c granted =
    let s = c.args.self.now in
    let mid = c.make_room_for.new.self in
    let plan = c.in_ok-scan.scan in
    let now : Memory = record {
      log = log_of c.carry_out.new.pages;
      words = (pages_in_memory c.carry_out.new.pages).words;
      lsns = (pages_in_memory c.carry_out.new.pages).lsns;
      store = store_of c.carry_out.new.pages;
      spaces = c.note_scan.new.spaces;
      collection = c.note_scan.new.collection;
      table = mid.table;
      locks = c.take.new.self;
      sealed = mid.sealed;
    } in
    let is = noted plan mid.spaces c.note_scan.new.spaces mid.collection c.keep_copies.new.collection c.note_scan.new.collection c.copies.result.now c.copies.ensures c.in_ok-keep_copies.ensures.ok c.note_scan.ensures.spaces c.note_scan.ensures.collection in
    let word : c.unwrap_or-word.result ≡ slice_index (field_words (pages_in_memory c.carry_out.new.pages).words c.args.object) c.args.field = search rules in
    got_at (memory s) (memory mid) now (memory c.read_into.new.self) c.args.session c.args.h c.args.object c.args.field c.number.result c.unwrap_or-word.result (planned_records plan.scan) c.make_room_for.ensures.same
    c.in_ok-scan.ensures.records
    (record {
      log = adds_carried _ _ _ c.in_ok-carry_out.ensures.carries;
      words = c.in_ok-carry_out.ensures.carries.words;
      lsns = c.in_ok-carry_out.ensures.carries.lsns;
      store = c.in_ok-carry_out.ensures.carries.store;
      table = refl;
      locks = c.in_default-take.ensures.taken ∙ ap (set.insert mid.locks) c.lock_of-lock.ensures;
      spaces = is.spaces;
      collection = is.collection;
      sealed = refl;
    })
    c.requires.active c.number.ensures word c.read_into.ensures.left

pub invariant_of-self-2-clause-spare : goal.invariant_of-self-2-clause-spare
invariant_of-self-2-clause-spare g c =
    let mid = c.make_room_for.new.self in
    let spare : HasSpare (log_of mid.pages) (length (spellings (planned_records c.in_ok-scan.scan.scan)) + mid.reserved) = search rules in
    (carried c.carry_out.result c.carry_out.ensures.still.1 c.carry_out.ensures.carries).spare mid.reserved spare

pub returns-in-Some-2-clause-reply : goal.returns-in-Some-2-clause-reply
returns-in-Some-2-clause-reply g c =
    let m = memory c.args.self.now in
    let free : busy_with (holder_of m.locks (asked c.number.result Shared c.args.object)) ≡ None = ap (λ (lock : Holding). busy_with (holder_of m.locks lock)) (sym c.lock_of-lock.ensures) ∙ sym c.lock_refusal.ensures.why ∙ c.in_default.is in
    let room : records_room m (barrier_records m c.args.object c.args.field) ≡ Some c.in-Some-2.why = ap (records_room m) (sym c.in_ok-scan.ensures.records) ∙ sym c.in_ok-why.ensures.why ∙ c.in-Some-2.is in
    read_answer m c.args.session c.args.object c.args.field c.number.result (Some c.in-Some-2.why) c.refused-in-Some-2.result _ c.requires.active c.number.ensures c.requires.there free room c.refused-in-Some-2.ensures

pub returns-clause-reply : goal.returns-clause-reply
returns-clause-reply g c =
    let m = memory c.args.self.now in
    let words = (pages_in_memory c.args.self.now.pages).words in
    let free : busy_with (holder_of m.locks (asked c.number.result Shared c.args.object)) ≡ None = ap (λ (lock : Holding). busy_with (holder_of m.locks lock)) (sym c.lock_of-lock.ensures) ∙ sym c.lock_refusal.ensures.why ∙ c.in_default.is in
    let room : records_room m (barrier_records m c.args.object c.args.field) ≡ None = ap (records_room m) (sym c.in_ok-scan.ensures.records) ∙ sym c.in_ok-why.ensures.why ∙ c.in_default-2.is in
    let word : c.unwrap_or-word.result ≡ slice_index (field_words (pages_in_memory c.carry_out.new.pages).words c.args.object) c.args.field = search rules in
    let behind : (pages_in_memory c.carry_out.new.pages).words ≡ fold put_record words (barrier_records m c.args.object c.args.field) =
    c.in_ok-carry_out.ensures.carries.words ∙ (λ i. fold put_record (c.make_room_for.ensures.same.words i) (c.in_ok-scan.ensures.records i)) in
    let told = c.read_into.ensures.reply
    ∙ ap (λ n. word_reply (meaning n)) (word ∙ ap (λ (ws : List ℕ). slice_index (field_words ws c.args.object) c.args.field) behind) in
    read_answer m c.args.session c.args.object c.args.field c.number.result None c.read_into.result _ c.requires.active c.number.ensures c.requires.there free room told

-- what is read is no refusal
not_refused : (w : Option Word) (why : Refusal) → word_reply w ≡ Refused why → ⊥
not_refused None why is = cc is
not_refused (Some word.Null) why is = cc is
not_refused (Some (word.Int n)) why is = cc is
not_refused (Some (word.Stable at)) why is = cc is
not_refused (Some (word.Volatile at)) why is = cc is

pub returns-clause-refused : goal.returns-clause-refused
returns-clause-refused g c why is =
    let read : c.read_into.result ≡ Refused why = cc is in
    absurd (not_refused (meaning c.unwrap_or-word.result) why (sym c.read_into.ensures.reply ∙ read))
