use Rattle.std.proofs.Common.{ℕ, ◌+◌, ◌≤◌, ◌<◌, refl, subst, arith}
use Rattle.gated_log.specs.LogState.{log_room, log_used}
use Rattle.log_machine.specs.Machine.{reserve}
use Rattle.page_redo.specs.Redo.{EachLacks}
use Rattle.page_cache.specs.CacheState.{cached, IsFirstPast}
use Rattle.heap_recovery.proofs.LogReplay.{was_read, reserve_told, page_told, all_readable}
use Rattle.heap_recovery.proofs.replaying.Replay.finish.Goals as goal

pub returns-then-used-reserve-clause-refused : goal.returns-then-used-reserve-clause-refused
returns-then-used-reserve-clause-refused c stored image holds is =
    let lack : log_room c.args.log < log_used c.args.log + reserve c.args.self.state = omega (arith, c.used.ensures.value, c.reserve.ensures, c.room.ensures, c.if-used-reserve.true) in
    reserve_told stored c.args.log c.args.self is image holds c.in_default.is lack

pub returns-in-Some-first_past-clause-refused : goal.returns-in-Some-first_past-clause-refused
returns-in-Some-first_past-clause-refused c stored image holds is =
    let enough : log_used c.args.log + reserve c.args.self.state ≤ log_room c.args.log = omega (arith, c.used.ensures.value, c.reserve.ensures, c.room.ensures, c.if-used-reserve.false) in
    let page = c.in-Some-first_past.page in
    page_told stored c.args.log c.args.self is image holds page c.in_default.is enough
    (subst (λ (n : ℕ). IsFirstPast n page (cached c.args.self.cache)) c.records.ensures (c.in-Some-first_past.ensures.found page refl))

pub returns-clause-read : goal.returns-clause-read
returns-clause-read c stored of is =
    let lacking = subst (λ (n : ℕ). EachLacks (n + 1) (cached c.args.self.cache)) c.records.ensures (c.first_past.ensures.none c.in_default-first_past.is) in
    was_read stored c.args.log c.args.self is _ of refl refl refl c.in_default.is lacking

pub returns-clause-readable : goal.returns-clause-readable
returns-clause-readable c stored image holds is =
    let enough : log_used c.args.log + reserve c.args.self.state ≤ log_room c.args.log = omega (arith, c.used.ensures.value, c.reserve.ensures, c.room.ensures, c.if-used-reserve.false) in
    let lacking = subst (λ (n : ℕ). EachLacks (n + 1) (cached c.args.self.cache)) c.records.ensures (c.first_past.ensures.none c.in_default-first_past.is) in
    all_readable stored c.args.log c.args.self is image holds c.args.self.state refl c.in_default.is enough lacking
