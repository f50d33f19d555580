use Rattle.std.proofs.Common.{◌≡◌, refl, ◌++◌, ◌∷◌, [], sym, ◌∙◌, ap, drop, take, length, nat_lt, true, ℕ, ◌-◌, ◌+◌, ◌≤◌, vec_len, Err, arith, rules}
use Rattle.std.proofs.lemmas.Bool.Decides.{nat_tests}
use Rattle.std.proofs.lemmas.List.{take-take}
use Rattle.std.specs.Int.{w32, to_le_bytes}
use Rattle.gated_log.proofs.LogBytes.{forced_outside}
use Rattle.gated_log.proofs.LogForce.{few_records, used_waiting, keeps_forced, keeps_still, forced, moments}
use Rattle.gated_log.proofs.log.Log.force.Goals as goal

pub returns-clause-kept : goal.returns-clause-kept
returns-clause-kept g c batches pending keeps =
    let log = c.args.self.now in
    let waits : nat_lt 4 (vec_len log.buffer) ≡ true = search rules in
    let closes : c.deref.result.now ≡ to_le_bytes w32 (vec_len log.buffer - 4) ++ drop 4 log.buffer.items ++ 0 ∷ [] = c.deref.ensures.value ∙ c.close_batch.ensures.items in
    let size : c.len-size.result ≡ length c.deref.result.now = omega (arith, c.deref.ensures.len, c.len-size.ensures) in
    let most : 4 ≤ c.len-size.result - 1 = omega (arith, c.len-size.ensures, c.close_batch.ensures.len, log.has_head) in
    let items : c.truncate-2.new.self.items ≡ take 4 c.deref.result.now =
    c.truncate-2.ensures.items ∙ ap (take 4) c.truncate.ensures.items ∙ take-take 4 (c.len-size.result - 1) c.close_batch.new.buffer.items most ∙ ap (take 4) (sym c.deref.ensures.value) in
    let forced_all : log.forced + log.waiting ≡ log.forced + log.waiting = refl in
    let none : ◌≡◌ {A = ℕ} 0 0 = refl in
    keeps_forced log (g.D.Disk.bytes c.args.disk.now) c.deref.result.now batches pending waits closes keeps _ (ap (λ (k : ℕ). log.tail + k) size) items forced_all none

pub returns-clause-held : goal.returns-clause-held
returns-clause-held g c told batches pending keeps holds =
    let log = c.args.self.now in
    let image = g.D.Disk.bytes c.args.disk.now in
    let waits : nat_lt 4 (vec_len log.buffer) ≡ true = search rules in
    let closes : c.deref.result.now ≡ to_le_bytes w32 (vec_len log.buffer - 4) ++ drop 4 log.buffer.items ++ 0 ∷ [] = c.deref.ensures.value ∙ c.close_batch.ensures.items in
    let inside : log.at + log.room ≤ length image = omega (arith, g.met.D.Disk.same_size told c.args.disk.now image (g.met.D.Disk.reads_an_image told c.args.disk.now), c.requires.inside) in
    let size : c.len-size.result ≡ length c.deref.result.now = omega (arith, c.deref.ensures.len, c.len-size.ensures) in
    let most : 4 ≤ c.len-size.result - 1 = omega (arith, c.len-size.ensures, c.close_batch.ensures.len, log.has_head) in
    let items : c.truncate-2.new.self.items ≡ take 4 c.deref.result.now =
    c.truncate-2.ensures.items ∙ ap (take 4) c.truncate.ensures.items ∙ take-take 4 (c.len-size.result - 1) c.close_batch.new.buffer.items most ∙ ap (take 4) (sym c.deref.ensures.value) in
    let forced_all : log.forced + log.waiting ≡ log.forced + log.waiting = refl in
    let none : ◌≡◌ {A = ℕ} 0 0 = refl in
    let new = forced log image c.deref.result.now batches pending waits closes keeps c.from.result c.from.ensures inside holds in (
      keeps_forced log image c.deref.result.now batches pending waits closes keeps _ (ap (λ (k : ℕ). log.tail + k) size) items forced_all none,
      rw (c.in_ok-written.ensures.filled told) new,
    )

pub returns-clause-outside : goal.returns-clause-outside
returns-clause-outside g c told =
    let log = c.args.self.now in
    let image = g.D.Disk.bytes c.args.disk.now in
    let waits : nat_lt 4 (vec_len log.buffer) ≡ true = search rules in
    let inside : log.at + log.room ≤ length image = omega (arith, g.met.D.Disk.same_size told c.args.disk.now image (g.met.D.Disk.reads_an_image told c.args.disk.now), c.requires.inside) in
    let fits : c.from.result + 1 + length c.deref.result.now ≤ log.room = omega (arith, log.fits, used_waiting log.tail (vec_len log.buffer) waits, c.deref.ensures.len, c.close_batch.ensures.len, c.from.ensures) in
    rw (c.in_ok-written.ensures.filled told) (forced_outside log.at log.room c.from.result c.deref.result.now image inside fits)

pub returns-clause-moments : goal.returns-clause-moments
returns-clause-moments g c told only batches pending keeps holds =
    let log = c.args.self.now in
    let image = g.D.Disk.bytes c.args.disk.now in
    let waits : nat_lt 4 (vec_len log.buffer) ≡ true = search rules in
    let closes : c.deref.result.now ≡ to_le_bytes w32 (vec_len log.buffer - 4) ++ drop 4 log.buffer.items ++ 0 ∷ [] = c.deref.ensures.value ∙ c.close_batch.ensures.items in
    let inside : log.at + log.room ≤ length image = omega (arith, g.met.D.Disk.same_size told c.args.disk.now image (g.met.D.Disk.reads_an_image told c.args.disk.now), c.requires.inside) in
    moments log image c.deref.result.now batches pending waits closes keeps c.from.result c.from.ensures inside holds g.D.Disk.moment g.D.Disk.left_since _ _ _ only (c.fill_and_open-written.ensures.moments told)

pub returns-in_err-written-clause-moments : goal.returns-in_err-written-clause-moments
returns-in_err-written-clause-moments g c told only batches pending keeps holds =
    let log = c.args.self.now in
    let image = g.D.Disk.bytes c.args.disk.now in
    let waits : nat_lt 4 (vec_len log.buffer) ≡ true = search rules in
    let closes : c.deref.result.now ≡ to_le_bytes w32 (vec_len log.buffer - 4) ++ drop 4 log.buffer.items ++ 0 ∷ [] = c.deref.ensures.value ∙ c.close_batch.ensures.items in
    let inside : log.at + log.room ≤ length image = omega (arith, g.met.D.Disk.same_size told c.args.disk.now image (g.met.D.Disk.reads_an_image told c.args.disk.now), c.requires.inside) in
    moments log image c.deref.result.now batches pending waits closes keeps c.from.result c.from.ensures inside holds g.D.Disk.moment g.D.Disk.left_since _ _ _ only (c.fill_and_open-written.ensures.moments told)

pub returns-then-not-pending-clause-forced : goal.returns-then-not-pending-clause-forced
returns-then-not-pending-clause-forced g c =
    let log = c.args.self.now in
    grind (arith, nat_tests, log.few_waiting, log.has_head)

pub overflow_add-self-2 : goal.overflow_add-self-2
overflow_add-self-2 g c = omega (arith, few_records c.args.self.now)

pub returns-in_err-written-clause-waits : goal.returns-in_err-written-clause-waits
returns-in_err-written-clause-waits g c batches pending keeps =
    let log = c.args.self.now in
    let waits : nat_lt 4 (vec_len log.buffer) ≡ true = search rules in
    let closes : c.deref.result.now ≡ to_le_bytes w32 (vec_len log.buffer - 4) ++ drop 4 log.buffer.items ++ 0 ∷ [] = c.deref.ensures.value ∙ c.close_batch.ensures.items in
    let end : c.len-size.result - 1 + 1 ≡ length c.deref.result.now = omega (arith, c.deref.ensures.len, c.len-size.ensures, c.close_batch.ensures.len) in
    let items = c.truncate.ensures.items ∙ ap (take (c.len-size.result - 1)) (sym c.deref.ensures.value) in
    let err : c.from_residual.result ≡ Err c.in_err-written.field-0.0 = search rules in
    rw err (keeps_still log (g.D.Disk.bytes c.args.disk.now) c.deref.result.now batches pending waits closes keeps _ (c.len-size.result - 1) end refl items refl refl)
