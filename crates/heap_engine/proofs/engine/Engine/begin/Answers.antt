use Rattle.std.proofs.Common.{◌+◌, ◌<◌, ◌^◌, length, refl, sym, ap, ◌∙◌, arith}
use Rattle.log_machine.specs.Machine.{end_bytes}
use Rattle.logged_pages.specs.State.{log_of, pages_in_memory}
use Rattle.page_cache.specs.CacheState.{cached, cache_store}
use Rattle.page_cache.specs.declared.cache.PageCache.{PageCache}
use Rattle.txn_table.specs.Table.{transaction_of, with_begun}
use Rattle.heap_engine.proofs.Tables.{idle, sound_same, sound_begun}
use Rattle.heap_engine.proofs.Room.{room_left}
use Rattle.heap_engine.proofs.Reserved.{adds_none, used_same}
use Rattle.heap_engine.proofs.engine.Engine.begin.Goals as goal

pub invariant_of-self-2-clause-sound : goal.invariant_of-self-2-clause-sound
invariant_of-self-2-clause-sound c =
    let old = c.args.self.now in
    let none = idle (transaction_of old.table c.args.session) c.active.result c.active.ensures c.if-active.false in
    let small : old.table.next + 1 < 2 ^ 32 = omega arith in
    let begun = sound_begun old.table (length (pages_in_memory old.pages).words) old.reserved old.sealed c.args.session old.sound (c.requires.first, c.requires.last) none small in
    sound_same (with_begun old.table c.args.session) c.begin-number.new.self (length (pages_in_memory old.pages).words) (length (pages_in_memory c.reserve.new.self).words) (old.reserved + end_bytes 0) (old.reserved + c.end_bytes.result) old.sealed
    begun c.begin-number.ensures.begun (ap (λ (k : PageCache). length (cached k).words) c.reserve.ensures.cache) (omega (arith, c.end_bytes.ensures))

pub invariant_of-self-2-clause-room : goal.invariant_of-self-2-clause-room
invariant_of-self-2-clause-room c =
    let old = c.args.self.now in
    let left = room_left (log_of old.pages) 0 (old.reserved + c.end_bytes.result) (sym c.log_refusal.ensures ∙ c.in_default.is) in
    omega (arith, left, used_same (log_of old.pages) (log_of c.reserve.new.self) c.reserve.ensures.same, c.reserve.ensures.same.place.room)

pub reserve-requires : goal.reserve-requires
reserve-requires c =
    let old = c.args.self.now in
    let left = room_left (log_of old.pages) 0 (old.reserved + c.end_bytes.result) (sym c.log_refusal.ensures ∙ c.in_default.is) in
    omega (arith, left, (log_of old.pages).small)

pub returns-clause-begun : goal.returns-clause-begun
returns-clause-begun c n is = record {
  log = adds_none (log_of c.args.self.now.pages) (log_of c.reserve.new.self) c.reserve.ensures.same;
  words = ap (λ (k : PageCache). (cached k).words) c.reserve.ensures.cache;
  lsns = ap (λ (k : PageCache). (cached k).lsns) c.reserve.ensures.cache;
  store = ap (λ (k : PageCache). cache_store k) c.reserve.ensures.cache;
  table = c.begin-number.ensures.begun;
  locks = refl;
  spaces = refl;
  collection = refl;
  sealed = refl;
}

pub invariant_of-self-2-clause-spare : goal.invariant_of-self-2-clause-spare
invariant_of-self-2-clause-spare c = omega (arith, c.in_ok-reserve.ensures.spare)
