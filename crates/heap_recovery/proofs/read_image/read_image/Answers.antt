use Rattle.std.proofs.Common.{◌≡◌, ℕ, ◌≤◌, List, Err, sym, ap, subst, arith, rules}
use Rattle.std.specs.Prelude.{IfOk, IfErr}
use Rattle.image_plan.specs.Plan.{image_size}
use Rattle.page_store.specs.StoreState.{Knows}
use Rattle.page_cache.specs.CacheState.{cache_store}
use Rattle.heap_recovery.specs.declared.error.RecoverError.{RecoverError}
use Rattle.heap_recovery.specs.Faults.{HasSuper, IsReadable, IsToldOf}
use Rattle.heap_recovery.specs.Recovered.{IsRead}
use Rattle.heap_recovery.proofs.Refusals.{numbers_told, err_outside, read_own}
use Rattle.heap_recovery.proofs.read_image.read_image.Goals as goal
use Rattle.heap_model.specs.Image.{StoredHeap}

pub returns-in_err-of-clause-shaped : goal.returns-in_err-of-clause-shaped
returns-in_err-of-clause-shaped g c tells stored shaped =
    let old = g.D.Disk.bytes c.args.disk.now in
    let whole = g.met.D.Disk.same_size tells c.args.disk.now old (g.met.D.Disk.reads_an_image tells c.args.disk.now) in
    let fits : image_size stored.super.pages stored.super.log_bytes ≤ g.D.Disk.extent c.args.disk.now = omega (arith, whole, shaped.held.size) in
    let err : c.from_residual.result ≡ Err c.in_err-of.field-0.0 = search rules in
    rw err (c.in_err-of.ensures.shaped tells stored.super shaped.log.limits shaped.held.super fits)

pub returns-in_err-of-clause-refused : goal.returns-in_err-of-clause-refused
returns-in_err-of-clause-refused g c tells =
    let old = g.D.Disk.bytes c.args.disk.now in
    let whole = g.met.D.Disk.same_size tells c.args.disk.now old (g.met.D.Disk.reads_an_image tells c.args.disk.now) in
    let e = c.in_err-of.field-0.0 in
    let err : c.from_residual.result ≡ Err e = search rules in
    rw err (numbers_told e old (λ at is. c.in_err-of.ensures.undamaged at (ap (λ (x : RecoverError). Err x) is)) (λ s has. c.in_err-of.ensures.shaped tells s has.limits has.super (omega (arith, whole, has.size))))

pub returns-clause-sound : goal.returns-clause-sound
returns-clause-sound g c tells =
    let of = c.in_ok-of.of in
    let still = (c.read_numbers.ensures.disk.contents tells).bytes in
    let has = subst (λ (l : List ℕ). HasSuper of l) (sym still) (c.in_ok-of.ensures.sound tells) in
    subst (λ (l : List ℕ). IfOk c.read_log.result (λ read. (stored : StoredHeap) × IsRead stored read × IsReadable stored read.state l)) still (c.read_log.ensures.sound tells has)

pub returns-clause-known : goal.returns-clause-known
returns-clause-known g c tells =
    subst (λ (l : List ℕ). IfOk c.read_log.result (λ read. Knows (cache_store read.cache) l)) (c.read_numbers.ensures.disk.contents tells).bytes (c.read_log.ensures.known tells)

pub returns-clause-found : goal.returns-clause-found
returns-clause-found g c tells stored shaped = read_own stored (g.D.Disk.bytes c.args.disk.now) c.read_log.result shaped (returns-clause-sound g c tells)

pub returns-clause-shaped : goal.returns-clause-shaped
returns-clause-shaped g c tells stored shaped =
    let of = c.in_ok-of.of in
    let still = (c.read_numbers.ensures.disk.contents tells).bytes in
    let has = subst (λ (l : List ℕ). HasSuper of l) (sym still) (c.in_ok-of.ensures.sound tells) in
    err_outside stored (g.D.Disk.bytes c.args.disk.now) c.read_log.result shaped (subst (λ (l : List ℕ). IfErr c.read_log.result (λ e. IsToldOf e l)) still (c.read_log.ensures.refused tells has))
