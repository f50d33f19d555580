use Rattle.std.proofs.Common.{◌≡◌, ◌+◌, Result, Ok, Err, refl, ap, sym, ◌∙◌, subst, rules}
use Rattle.disk_model.specs.declared.disk.DiskError.{DiskError}
use Rattle.disk_model.specs.Disk.{part, Only, SameOutside}
use Rattle.disk_model.specs.Keeps.{KeepsDisk}
use Rattle.disk_model.proofs.KeepsLaws.{keeps_on}
use Rattle.gated_log.specs.Log.{with_batch, HoldsBatches}
use Rattle.log_machine.specs.Machine.{rollback}
use Rattle.heap_model.proofs.Opening.Held.{held_with}
use Rattle.page_store.proofs.GateLaws.{gates_behind_log}
use Rattle.heap_model.specs.Opening.{rolled_back}
use Rattle.heap_recovery.proofs.Opening.{only_still, held, outside_log, rolled_held, recovered, opened_shaped, forced_passes, nothing_waits, known_still, known_found, placed_there}
use Rattle.page_cache.specs.CacheState.{cached}
use Rattle.heap_recovery.specs.declared.error.RecoverError.TheVariants.{NoMemory, Disk}
use Rattle.heap_recovery.specs.Opens.{outcome}
use Rattle.heap_recovery.proofs.OpensLaws.{only_read, opens_forced}
use Rattle.heap_recovery.proofs.Refusals.{finish_passes, finish_told, finish_late, found_whole, on_ok, on_damaged, device_of, walk_told, found_on, forced_run}
use Rattle.heap_recovery.proofs.recovery.recover.Goals as goal

-- What is opened.

pub returns-clause-opens : goal.returns-clause-opens
returns-clause-opens g c =
    let read = c.in_ok-read.read in
    let found = c.in_ok-read.ensures.read in
    let stored = found.0 in
    let is = found.1 in
    let roll = c.in_ok-roll_back.ensures in
    let keeps = c.in_ok-force.ensures.kept stored.batches (rollback read.state) (roll.kept stored.batches is.log) in
    let opened = recovered stored read is c.finish.result c.force.new.self c.roll_back.new.self.cache c.roll_back.new.self.state roll.state (c.force.ensures.at ∙ roll.place) (c.force.ensures.same_room ∙ roll.same_room) roll.pages roll.store keeps c.finish.ensures.log c.finish.ensures.cache c.finish.ensures.state in
    opened_shaped stored read is c.finish.result (cached c.roll_back.new.self.cache).words c.roll_back.new.self.state c.in_ok-fault.fault c.in_ok-read.ensures.room roll.state roll.words c.in_ok-fault.ensures.fit c.in_ok-fault.ensures.passes c.finish.ensures.walked opened

pub returns-clause-found : goal.returns-clause-found
returns-clause-found g c tells stored shaped =
    let read = c.in_ok-read.read in
    let is = c.in_ok-read.ensures.found tells stored shaped in
    let roll = c.in_ok-roll_back.ensures in
    let keeps = c.in_ok-force.ensures.kept stored.batches (rollback read.state) (roll.kept stored.batches is.log) in
    recovered stored read is c.finish.result c.force.new.self c.roll_back.new.self.cache c.roll_back.new.self.state roll.state (c.force.ensures.at ∙ roll.place) (c.force.ensures.same_room ∙ roll.same_room) roll.pages roll.store keeps c.finish.ensures.log c.finish.ensures.cache c.finish.ensures.state

-- a force writes into the log alone, so the pages are still stored as they were
pub returns-clause-known : goal.returns-clause-known
returns-clause-known g c tells =
    let d = g.D.Disk in
    let read = c.in_ok-read.read in
    let found = c.in_ok-read.ensures.sound tells in
    let roll = c.in_ok-roll_back.ensures in
    let image = d.bytes c.args.disk.now in
    let now = d.bytes c.read_image.new.disk in
    let new = d.bytes c.force.new.disk in
    let outside = placed_there read.log c.roll_back.new.self.log (λ n m. SameOutside n (n + m) now new) roll.place roll.same_room (c.in_ok-force.ensures.outside tells) in
    known_found c.finish.result c.roll_back.new.self.cache new c.finish.ensures.cache
    (known_still found.0 read found.1 c.roll_back.new.self.cache image now new roll.store (c.in_ok-read.ensures.known tells) (c.read_image.ensures.disk.contents tells).bytes outside)

pub returns-clause-sound : goal.returns-clause-sound
returns-clause-sound g c tells =
    let read = c.in_ok-read.read in
    let found = c.in_ok-read.ensures.sound tells in
    let stored = found.0 in
    let image = g.D.Disk.bytes c.args.disk.now in
    let is = found.1 in
    let roll = c.in_ok-roll_back.ensures in
    let keeps = c.in_ok-force.ensures.kept stored.batches (rollback read.state) (roll.kept stored.batches is.log) in
    let opened = recovered stored read is c.finish.result c.force.new.self c.roll_back.new.self.cache c.roll_back.new.self.state roll.state (c.force.ensures.at ∙ roll.place) (c.force.ensures.same_room ∙ roll.same_room) roll.pages roll.store keeps c.finish.ensures.log c.finish.ensures.cache c.finish.ensures.state in
    found_on stored image read is found.2 c.finish.result (cached c.roll_back.new.self.cache).words c.roll_back.new.self.state c.in_ok-fault.fault c.in_ok-read.ensures.room roll.state roll.words c.in_ok-fault.ensures.fit c.in_ok-fault.ensures.passes c.finish.ensures.walked opened

-- Until the force the disk is only read.

pub returns-in_err-read-clause-image : goal.returns-in_err-read-clause-image
returns-in_err-read-clause-image g c =
    let e = c.in_err-read.field-0.0 in
    let err : c.from_residual.result ≡ Err e = search rules in
    rw err (only_read g.D.Disk c.args.disk.now c.read_image.new.disk e c.in_err-read.ensures.disk c.in_err-read.ensures.refused (λ address is. c.read_image.ensures.no_address address (c.in_err-read.was ∙ ap (λ x. Err x) is)))

pub returns-in_err-roll_back-clause-image : goal.returns-in_err-roll_back-clause-image
returns-in_err-roll_back-clause-image g c =
    let e = c.in_err-roll_back.field-0.0 in
    let err : c.from_residual-in_err-roll_back.result ≡ Err e = search rules in
    let is : e ≡ NoMemory = c.in_err-roll_back.ensures.error in
    rw (err, is) (only_read g.D.Disk c.args.disk.now c.read_image.new.disk NoMemory c.in_ok-read.ensures.disk (λ tells. tt) (λ address is. cc is))

pub returns-in_err-fault-clause-image : goal.returns-in_err-fault-clause-image
returns-in_err-fault-clause-image g c =
    let e = c.in_err-fault.field-0.0 in
    let err : c.from_residual-in_err-fault.result ≡ Err e = search rules in
    let is : e ≡ NoMemory = c.in_err-fault.ensures.error in
    rw (err, is) (only_read g.D.Disk c.args.disk.now c.read_image.new.disk NoMemory c.in_ok-read.ensures.disk (λ tells. tt) (λ address is. cc is))

-- An image that reaches the force could be read. After it a crash has left its log, or the log rolled back.

pub returns-in_err-force-clause-image : goal.returns-in_err-force-clause-image
returns-in_err-force-clause-image g c =
    let d = g.D.Disk in
    let read = c.in_ok-read.read in
    let roll = c.in_ok-roll_back.ensures in
    let log = c.roll_back.new.self.log in
    let old = c.args.disk.now in
    let mid = c.read_image.new.disk in
    let new = c.force.new.disk in
    let e = c.in_err-force.field-0.0 in
    let err : c.from_residual-in_err-force.result ≡ Err (Disk e) = search rules in
    rw err (opens_forced d old new (Err (Disk e)) (keeps_on d old mid new (Ok tt) tt (Err e) refl c.in_ok-read.ensures.disk.disk c.in_err-force.ensures.disk) (λ early. early)
    (λ tells.
    let found = c.in_ok-read.ensures.sound tells in
    let contents = c.read_image.ensures.disk.contents tells in
    record {
      stored = found.0;
      state = read.state;
      readable = found.2;
      told = tt;
      whole = tt;
      left = λ only. forced_run d.moment d.left_since found.0 (d.bytes old) read found.1 found.2 old mid new (d.may_leave old) (d.may_leave mid) (d.bytes mid) log roll.place roll.same_room (roll.kept found.0.batches found.1.log) only contents.bytes contents.crash contents.moments (c.force.ensures.moments tells);
      passes = forced_passes found.0 read found.1 log (roll.kept found.0.batches found.1.log) _ _ _ (Err e) contents.passed (c.in_err-force.ensures.passes tells);
      now = λ later image left. g.met.D.Disk.counts_now tells new _ image later left;
      synced = λ only. tt;
      synced_damaged = λ only at is. absurd (cc is);
    })
    (λ tells stored shaped. record {
      holds = tt;
      gates = tt;
      no_first_stop = λ none stops.
          let is = c.in_ok-read.ensures.found tells stored shaped in
          let idle = c.force.ensures.idle (nothing_waits stored read is log (roll.kept stored.batches is.log) none) in
          ap d.stops idle.1 ∙ c.read_image.ensures.disk.no_first_stop stops;
    }))

pub returns-clause-image : goal.returns-clause-image
returns-clause-image g c =
    let d = g.D.Disk in
    let read = c.in_ok-read.read in
    let roll = c.in_ok-roll_back.ensures in
    let log = c.roll_back.new.self.log in
    let old = c.args.disk.now in
    let mid = c.read_image.new.disk in
    let new = c.force.new.disk in
    let ended = c.finish.ensures in
    let P : Result (Unit {0}) DiskError → Type 0 = λ r. KeepsDisk d old new r in
    let keeps = subst P (sym (device_of c.finish.result ∙ ended.no_disk)) (keeps_on d old mid new (Ok tt) tt (Ok tt) refl c.in_ok-read.ensures.disk.disk c.in_ok-force.ensures.disk) in
    opens_forced d old new (outcome c.finish.result) keeps (finish_late c.finish.result c.in_ok-fault.fault ended.damaged ended.whole)
    (λ tells.
    let found = c.in_ok-read.ensures.sound tells in
    let contents = c.read_image.ensures.disk.contents tells in
    let synced = λ (only : Only (d.bytes old) (d.may_leave old)). c.in_ok-force.ensures.durable tells (only_still (d.bytes old) (d.bytes mid) (d.may_leave old) (d.may_leave mid) only contents.bytes contents.crash) in
    record {
      stored = found.0;
      state = read.state;
      readable = found.2;
      told = finish_told c.finish.result c.in_ok-fault.fault ended.damaged ended.whole (d.bytes old)
          (λ at is. walk_told found.0 (d.bytes old) read found.1 found.2 c.roll_back.new.self.state roll.state (cached c.roll_back.new.self.cache).words roll.words at (c.in_ok-fault.ensures.fault at is));
      whole = found_whole c.finish.result (d.bytes old) (returns-clause-sound g c tells);
      left = λ only. forced_run d.moment d.left_since found.0 (d.bytes old) read found.1 found.2 old mid new (d.may_leave old) (d.may_leave mid) (d.bytes mid) log roll.place roll.same_room (roll.kept found.0.batches found.1.log) only contents.bytes contents.crash contents.moments (c.force.ensures.moments tells);
      passes = finish_passes c.finish.result c.in_ok-fault.fault ended.damaged ended.whole _ _ _ (forced_passes found.0 read found.1 log (roll.kept found.0.batches found.1.log) _ _ _ (Ok tt) contents.passed (c.in_ok-force.ensures.passes tells));
      now = λ later image left. g.met.D.Disk.counts_now tells new _ image later left;
      synced = λ only. on_ok c.finish.result _ (synced only);
      synced_damaged = λ only. on_damaged c.finish.result _ (synced only);
    })
    (λ tells stored shaped.
    let is = c.in_ok-read.ensures.found tells stored shaped in
    let image = d.bytes old in
    let same = (c.read_image.ensures.disk.contents tells).bytes in
    let stand = placed_there log read.log (λ n m. HoldsBatches (part (d.bytes mid) n m) stored.batches) (sym roll.place) (sym roll.same_room) (held stored read is image (d.bytes mid) shaped.held same) in
    let holds = (c.in_ok-force.ensures.held tells stored.batches (rollback read.state) (roll.kept stored.batches is.log) stand).1 in
    let there = placed_there read.log log (λ n m. HoldsBatches (part (d.bytes new) n m) (with_batch stored.batches (rollback read.state))) roll.place roll.same_room holds in
    let outside = outside_log stored read is image (d.bytes mid) (d.bytes new) same (placed_there read.log log (λ n m. SameOutside n (n + m) (d.bytes mid) (d.bytes new)) roll.place roll.same_room (c.in_ok-force.ensures.outside tells)) in
    record {
      holds = on_ok c.finish.result _ (held_with stored (rolled_back stored).batches image (d.bytes new) shaped.held outside (rolled_held stored read is (d.bytes new) there));
      -- a force writes into the log alone, so the frames stay as they are
      gates = on_ok c.finish.result _ (gates_behind_log stored.super.log_bytes image (d.bytes new) outside);
      no_first_stop = λ none stops.
          let idle = c.force.ensures.idle (nothing_waits stored read is log (roll.kept stored.batches is.log) none) in
          ap d.stops idle.1 ∙ c.read_image.ensures.disk.no_first_stop stops;
    })
