use Rattle.std.proofs.Common.{rules, ◌≡◌, ◌+◌, ◌≤◌, None, Some, ◌++◌, [], ◌∷◌, length, refl, sym, ap, ◌∙◌, subst, arith}
use Rattle.gated_log.specs.LogState.{log_room, log_used_with, HasSpare}
use Rattle.heap_spaces.specs.Spaces.{SpacesState}
use Rattle.log_machine.specs.declared.UndoEntry.{UndoEntry}
use Rattle.log_machine.specs.Machine.{field_at, words_in}
use Rattle.log_records.specs.declared.Record.TheVariants.{Update}
use Rattle.log_records.specs.Record.{spellings}
use Rattle.logged_pages.specs.State.{log_of, pages_in_memory, store_of}
use Rattle.page_cache.specs.CacheState.{cached, cache_store}
use Rattle.page_cache.specs.declared.cache.PageCache.{PageCache}
use Rattle.std.specs.Prelude.{slice_index}
use Rattle.std.specs.FinSet as set
use Rattle.heap_memory.specs.Leaves.{IsAsItWas}
use Rattle.heap_memory.specs.Memory.{Memory}
use Rattle.heap_engine.specs.Barrier.{planned_records, page_in, word_after}
use Rattle.heap_engine.specs.EngineState.{memory}
use Rattle.heap_engine.proofs.ObjectFields.{field_within}
use Rattle.graph_model.specs.Plain.{busy_with}
use Rattle.graph_model.specs.declared.reply.Reply.TheVariants.{Done}
use Rattle.log_machine.specs.Effect.{EachWritesBelow, WritesBelow}
use Rattle.log_machine.proofs.ListLaws.{AllByRecursion-append}
use Rattle.log_machine.specs.UndoEntry.{undo_entry}
use Rattle.object_locks.specs.Holder.{holder_of}
use Rattle.object_locks.specs.declared.holding.Holding.{Holding}
use Rattle.object_locks.specs.declared.holding.Mode.TheVariants.{Exclusive}
use Rattle.txn_table.specs.declared.place.Place.TheVariants.{Stable}
use Rattle.heap_memory.specs.Refusals.{asked, write_room}
use Rattle.heap_engine.proofs.Carried.{adds_carried, carried}
use Rattle.heap_engine.proofs.FieldRefused.{write_answer}
use Rattle.heap_engine.proofs.Scanned.{noted, noted_owes, noted_sound, update_bytes, wrote_at}
use Rattle.heap_engine.proofs.Tables.{sound_same, sound_write}
use Rattle.heap_engine.proofs.engine.Engine.write_stable.Goals as goal

pub invariant_of-self-2-clause-owed : goal.invariant_of-self-2-clause-owed
invariant_of-self-2-clause-owed g c =
    let s = c.args.self.now in
    let plan = c.in_ok-scan.scan in
    let is = noted plan s.spaces c.note_scan.new.spaces s.collection c.keep_copies.new.collection c.note_scan.new.collection c.copies.result.now c.copies.ensures c.in_ok-keep_copies.ensures.ok c.note_scan.ensures.spaces c.note_scan.ensures.collection in
    noted_owes (memory s) (planned_records plan.scan) c.in_ok-scan.ensures.ready c.note_scan.new.spaces c.note_scan.new.collection is

pub invariant_of-self-2-clause-gray : goal.invariant_of-self-2-clause-gray
invariant_of-self-2-clause-gray g c =
    let s = c.args.self.now in
    let plan = c.in_ok-scan.scan in
    let is = noted plan s.spaces c.note_scan.new.spaces s.collection c.keep_copies.new.collection c.note_scan.new.collection c.copies.result.now c.copies.ensures c.in_ok-keep_copies.ensures.ok c.note_scan.ensures.spaces c.note_scan.ensures.collection in
    noted_sound (memory s) (planned_records plan.scan) c.in_ok-scan.ensures.ready c.note_scan.new.spaces c.note_scan.new.collection is

pub invariant_of-self-2-clause-room : goal.invariant_of-self-2-clause-room
invariant_of-self-2-clause-room g c =
    let s = c.args.self.now in
    let mid = log_of c.reserve_room.new.pages in
    let n = length (spellings (planned_records c.in_ok-scan.scan.scan)) in
    let records = planned_records c.in_ok-scan.scan.scan in
    let written = Update c.number-t.result c.args.object c.args.field c.word_behind-was.result c.args.word in
    let room : log_used_with mid (c.bytes.result + 27) + (s.reserved + 19) ≤ log_room mid = search rules in
    let size : length (spellings (records ++ written ∷ [])) ≡ c.bytes.result + 27 =
    update_bytes records c.number-t.result c.args.object c.args.field c.word_behind-was.result c.args.word
    ∙ ap (λ k. k + 27) (sym c.bytes.ensures) in
    omega (arith, (carried c.carry_out.result c.carry_out.ensures.still.1 c.carry_out.ensures.carries).used ∙ ap (log_used_with mid) size, room, (carried c.carry_out.result c.carry_out.ensures.still.1 c.carry_out.ensures.carries).log.place.room)

pub invariant_of-self-2-clause-sound : goal.invariant_of-self-2-clause-sound
invariant_of-self-2-clause-sound g c =
    let s = c.args.self.now in
    let entry : UndoEntry = undo_entry c.args.object c.args.field c.word_behind-was.result in
    let here = field_within (pages_in_memory s.pages).words c.args.object c.args.field c.requires.there in
    let table = c.keep_write.new.table in
    let written = sound_write s.table table (length (pages_in_memory s.pages).words) s.reserved s.sealed c.args.session entry s.sound c.requires.active c.in_default-keep_write.ensures.kept here in
    let size = (carried c.carry_out.result c.carry_out.ensures.still.1 c.carry_out.ensures.carries).size ∙ ap (λ (k : PageCache). length (cached k).words) c.reserve_room.ensures.cache in
    sound_same table table (length (pages_in_memory s.pages).words) (length (pages_in_memory c.carry_out.new.pages).words) (s.reserved + 19) (s.reserved + 19) s.sealed written refl size refl

pub invariant_of-self-2-clause-sized : goal.invariant_of-self-2-clause-sized
invariant_of-self-2-clause-sized g c =
    (carried c.carry_out.result c.carry_out.ensures.still.1 c.carry_out.ensures.carries).size
    ∙ ap (λ (k : PageCache). length (cached k).words) c.reserve_room.ensures.cache
    ∙ c.args.self.now.sized
    ∙ sym (ap (λ (sp : SpacesState). words_in sp.pages) c.note_scan.ensures.spaces)

pub returns-clause-done : goal.returns-clause-done
returns-clause-done g c was =
    let s = c.args.self.now in
    let plan = c.in_ok-scan.scan in
    let records = planned_records c.in_ok-scan.scan.scan in
    let at = field_at c.args.object c.args.field in
    let pages = c.reserve_room.new.pages in
    let cache = c.reserve_room.ensures.cache in
    let mid : Memory = record (memory s) { log = log_of pages; words = (pages_in_memory pages).words; lsns = (pages_in_memory pages).lsns; store = store_of pages } in
    let same : IsAsItWas (memory s) mid =
    record {
      log = c.reserve_room.ensures.same;
      words = ap (λ (k : PageCache). (cached k).words) cache;
      lsns = ap (λ (k : PageCache). (cached k).lsns) cache;
      store = ap (λ (k : PageCache). cache_store k) cache;
      table = refl;
      locks = refl;
      spaces = refl;
      collection = refl;
      sealed = refl;
    } in
    let is = noted plan s.spaces c.note_scan.new.spaces s.collection c.keep_copies.new.collection c.note_scan.new.collection c.copies.result.now c.copies.ensures c.in_ok-keep_copies.ensures.ok c.note_scan.ensures.spaces c.note_scan.ensures.collection in
    let behind : c.word_behind-was.result ≡ word_after at (slice_index (pages_in_memory s.pages).words at) records = search rules in
    wrote_at (memory s) mid _ c.args.session c.args.object c.args.field c.number-t.result c.word_behind-was.result c.args.word (page_in plan.scan) records same c.in_ok-scan.ensures.records plan.scans c.in_ok-scan.ensures.ready
    (field_within (pages_in_memory s.pages).words c.args.object c.args.field c.requires.there) behind
    (record {
      log = adds_carried _ _ _ c.in_ok-carry_out.ensures.carries;
      words = c.in_ok-carry_out.ensures.carries.words;
      lsns = c.in_ok-carry_out.ensures.carries.lsns;
      store = c.in_ok-carry_out.ensures.carries.store;
      table = refl;
      locks = c.in_default-keep_write.ensures.locked ∙ ap (set.insert s.locks) c.lock_of-lock.ensures;
      spaces = is.spaces;
      collection = is.collection;
      sealed = refl;
    })
    c.requires.active c.number-t.ensures c.in_default-keep_write.ensures.kept

pub invariant_of-self-2-clause-spare : goal.invariant_of-self-2-clause-spare
invariant_of-self-2-clause-spare g c =
    let s = c.args.self.now in
    let records = planned_records c.in_ok-scan.scan.scan in
    let written = Update c.number-t.result c.args.object c.args.field c.word_behind-was.result c.args.word in
    let spare : HasSpare (log_of c.reserve_room.new.pages) (c.bytes.result + 27 + (s.reserved + 19)) = search rules in
    let size : length (spellings (records ++ written ∷ [])) ≡ c.bytes.result + 27 =
    update_bytes records c.number-t.result c.args.object c.args.field c.word_behind-was.result c.args.word
    ∙ ap (λ k. k + 27) (sym c.bytes.ensures) in
    (carried c.carry_out.result c.carry_out.ensures.still.1 c.carry_out.ensures.carries).spare (s.reserved + 19) (omega (arith, size, spare))

pub word-requires : goal.word-requires
word-requires g c = let here = field_within (pages_in_memory c.args.self.now.pages).words c.args.object c.args.field c.requires.there in omega (arith, here, c.from-2.ensures)

pub carry_out-requires-clause-inside : goal.carry_out-requires-clause-inside
carry_out-requires-clause-inside g c =
    let s = c.args.self.now in
    let here = field_within (pages_in_memory s.pages).words c.args.object c.args.field c.requires.there in
    let update = Update c.number-t.result c.args.object c.args.field c.word_behind-was.result c.args.word in
    let records = planned_records c.in_ok-scan.scan.scan in
    subst (λ (k : PageCache). EachWritesBelow (length (cached k).words) (records ++ update ∷ [])) (sym c.reserve_room.ensures.cache)
    (AllByRecursion-append (WritesBelow (length (pages_in_memory s.pages).words)) records (update ∷ []) c.in_ok-scan.ensures.ready.below ((here, tt), tt))

pub returns-in-Some-2-clause-reply : goal.returns-in-Some-2-clause-reply
returns-in-Some-2-clause-reply g c =
    let m = memory c.args.self.now in
    let free : busy_with (holder_of m.locks (asked c.number-t.result Exclusive c.args.object)) ≡ None = ap (λ (lock : Holding). busy_with (holder_of m.locks lock)) (sym c.lock_of-lock.ensures) ∙ sym c.lock_refusal.ensures.why ∙ c.in_default.is in
    let room : write_room m (Stable c.args.object) c.args.field ≡ Some c.in-Some-2.why = search rules in
    write_answer m c.args.session c.args.object c.args.field c.number-t.result (Some c.in-Some-2.why) c.refused-in-Some-2.result _ c.requires.active c.number-t.ensures c.requires.there free room c.refused-in-Some-2.ensures

pub returns-clause-reply : goal.returns-clause-reply
returns-clause-reply g c =
    let m = memory c.args.self.now in
    let free : busy_with (holder_of m.locks (asked c.number-t.result Exclusive c.args.object)) ≡ None = ap (λ (lock : Holding). busy_with (holder_of m.locks lock)) (sym c.lock_of-lock.ensures) ∙ sym c.lock_refusal.ensures.why ∙ c.in_default.is in
    let room : write_room m (Stable c.args.object) c.args.field ≡ None = search rules in
    write_answer m c.args.session c.args.object c.args.field c.number-t.result None Done Done c.requires.active c.number-t.ensures c.requires.there free room refl
