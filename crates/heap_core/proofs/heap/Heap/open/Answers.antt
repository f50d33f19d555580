use Rattle.log_machine.specs.Machine.{words_in}
use Rattle.heap_memory.specs.Memory.{Memory}
use Rattle.heap_engine.specs.EngineState.{memory}
use Rattle.heap_core.proofs.KeptEntries.{kept_none}
use Rattle.page_cache.specs.CacheState.{cached, cache_frames, cache_pages}
use Rattle.page_cache.specs.declared.cache.PageCache.{PageCache}
use Rattle.std.proofs.Common.{◌≤◌, ℕ, length, true, Err, refl, sym, ap, ◌∙◌, subst, arith}
use Rattle.disk_model.proofs.KeepsLaws.{reads_none}
use Rattle.heap_recovery.specs.declared.error.RecoverError.{RecoverError}
use Rattle.heap_recovery.specs.declared.error.RecoverError.TheVariants.{NoMemory}
use Rattle.heap_recovery.specs.Opens.{OpensImage}
use Rattle.heap_recovery.proofs.OpensLaws.{only_read}
use Rattle.heap_model.proofs.Shaped.{shaped_image}
use Rattle.heap_core.proofs.RefinementOpen.{opened_bounds, bounded_frames, opened_core, opened_disk_holds, is_fresh}
use Rattle.page_store.specs.Gates.{open_gates}
use Rattle.heap_engine.specs.Barrier.{IsSoundCollection}
use Rattle.heap_spaces.specs.Spaces.{SpacesState}
use Rattle.txn_table.specs.Table.{TableState}
use Rattle.heap_core.proofs.heap.Heap.open.Goals as goal

pub new-engine-requires-clause-sized : goal.new-engine-requires-clause-sized
new-engine-requires-clause-sized g c =
    let found = c.in-Ok-recover.ensures.opens in
    ap (λ (k : PageCache). length (cached k).words) c.new-pages.ensures.cache
    ∙ (opened_bounds found.0 c.in-Ok-recover.found found.1 found.2).size
    ∙ ap (λ x. words_in x.pages) (sym c.spaces-spaces.ensures)

pub new-pages-requires : goal.new-pages-requires
new-pages-requires g c =
    let found = c.in-Ok-recover.ensures.opens in
    let bounds = opened_bounds found.0 c.in-Ok-recover.found found.1 found.2 in
    let cache = c.in-Ok-recover.found.cache in
    record {
      logged = bounds.new;
      works = found.2.unfailed;
      sized = bounds.whole;
      few = bounds.many;
      bounded = bounded_frames cache c.in-Ok-recover.ensures.frames;
      some_frames = omega (arith, bounds.some_pages, c.in-Ok-recover.ensures.frames);
      place = found.2.place;
      behind = bounds.behind;
    }

pub new-engine-requires-clause-whole : goal.new-engine-requires-clause-whole
new-engine-requires-clause-whole g c =
    subst (λ (k : PageCache). cache_pages k ≤ cache_frames k) (sym c.new-pages.ensures.cache) (omega (arith, c.in-Ok-recover.ensures.frames))

pub new-engine-requires-clause-few : goal.new-engine-requires-clause-few
new-engine-requires-clause-few g c =
    let found = c.in-Ok-recover.ensures.opens in
    subst (λ x. x.pages ≤ 16384) (sym c.spaces-spaces.ensures) (opened_bounds found.0 c.in-Ok-recover.found found.1 found.2).few

pub new-engine-requires-clause-gray : goal.new-engine-requires-clause-gray
new-engine-requires-clause-gray g c k run =
    let found = c.in-Ok-recover.ensures.opens in
    let bounds = opened_bounds found.0 c.in-Ok-recover.found found.1 found.2 in
    let runs = sym c.into_collection-collection.ensures ∙ run in
    let within = bounds.within k runs in
    subst (λ (x : SpacesState). IsSoundCollection x k) (sym c.spaces-spaces.ensures) (record { copied = within.copied; used = within.used; gray = bounds.gray k runs })

pub new-engine-requires-clause-number : goal.new-engine-requires-clause-number
new-engine-requires-clause-number g c =
    let found = c.in-Ok-recover.ensures.opens in
    subst (λ x. 1 ≤ x.next) (sym c.set_next.ensures) (subst (λ n. 1 ≤ n) (sym c.next.ensures) (opened_bounds found.0 c.in-Ok-recover.found found.1 found.2).next)

pub returns-in-Ok-recover-clause-opens : goal.returns-in-Ok-recover-clause-opens
returns-in-Ok-recover-clause-opens g c =
    let found = c.in-Ok-recover.ensures.opens in
    let fresh = is_fresh c.in-Ok-recover.found c.new-pages.result c.new-pages.ensures.log c.new-pages.ensures.cache c.spaces-spaces.result c.into_collection-collection.result c.set_next.new.self c.in-Ok.table _ c.new-engine.ensures.memory c.spaces-spaces.ensures c.into_collection-collection.ensures (c.set_next.ensures ∙ ap (λ (n : ℕ). let t : TableState = record { next = n; active = c.in-Ok.table.active } in t) c.next.ensures) in
    let image = g.D.Disk.bytes c.recover.new.disk in
    let gates : ℕ → ℕ = λ p. open_gates found.0.super.log_bytes image p in (
      found.0,
      gates,
      found.1,
      λ born places gr stands.
          opened_core g.D.Disk found.0 gates born places gr c.in-Ok-recover.found c.new-engine.result c.new-core.result c.recover.new.disk found.1 found.2 fresh c.in-Ok-recover.ensures.known (λ told p. refl) c.new-core.ensures.engine c.new-core.ensures.entries (c.new-core.ensures.before ∙ c.commits-commits.ensures) c.new-core.ensures.unfailed,
    )

pub returns-in-Ok-recover-clause-sound : goal.returns-in-Ok-recover-clause-sound
returns-in-Ok-recover-clause-sound g c tells =
    let found = c.in-Ok-recover.ensures.sound tells in
    let fresh = is_fresh c.in-Ok-recover.found c.new-pages.result c.new-pages.ensures.log c.new-pages.ensures.cache c.spaces-spaces.result c.into_collection-collection.result c.set_next.new.self c.in-Ok.table _ c.new-engine.ensures.memory c.spaces-spaces.ensures c.into_collection-collection.ensures (c.set_next.ensures ∙ ap (λ (n : ℕ). let t : TableState = record { next = n; active = c.in-Ok.table.active } in t) c.next.ensures) in
    let gates = open_gates found.0.super.log_bytes (g.D.Disk.bytes c.args.disk) in
    let still = (c.in-Ok-recover.ensures.image.shaped tells found.0 found.1).gates in (
      found.0,
      found.1,
      λ born places gr stands.
          opened_core g.D.Disk found.0 gates born places gr c.in-Ok-recover.found c.new-engine.result c.new-core.result c.recover.new.disk found.1.log found.2 fresh c.in-Ok-recover.ensures.known (λ told. still) c.new-core.ensures.engine c.new-core.ensures.entries (c.new-core.ensures.before ∙ c.commits-commits.ensures) c.new-core.ensures.unfailed,
    )

pub returns-in-Ok-recover-clause-found : goal.returns-in-Ok-recover-clause-found
returns-in-Ok-recover-clause-found g c tells stored shaped born places gr stands =
    let found = c.in-Ok-recover.ensures.found tells stored shaped in
    let fresh = is_fresh c.in-Ok-recover.found c.new-pages.result c.new-pages.ensures.log c.new-pages.ensures.cache c.spaces-spaces.result c.into_collection-collection.result c.set_next.new.self c.in-Ok.table _ c.new-engine.ensures.memory c.spaces-spaces.ensures c.into_collection-collection.ensures (c.set_next.ensures ∙ ap (λ (n : ℕ). let t : TableState = record { next = n; active = c.in-Ok.table.active } in t) c.next.ensures) in
    let gates = open_gates stored.super.log_bytes (g.D.Disk.bytes c.args.disk) in
    let still = (c.in-Ok-recover.ensures.image.shaped tells stored shaped).gates in
    opened_core g.D.Disk stored gates born places gr c.in-Ok-recover.found c.new-engine.result c.new-core.result c.recover.new.disk shaped.log found fresh c.in-Ok-recover.ensures.known (λ told. still) c.new-core.ensures.engine c.new-core.ensures.entries (c.new-core.ensures.before ∙ c.commits-commits.ensures) c.new-core.ensures.unfailed

pub returns-in-Ok-recover-clause-holds : goal.returns-in-Ok-recover-clause-holds
returns-in-Ok-recover-clause-holds g c tells stored legal only places gr stands =
    let shaped = shaped_image legal in
    let gates = open_gates stored.super.log_bytes (g.D.Disk.bytes c.args.disk) in
    record {
      core = returns-in-Ok-recover-clause-found g c tells stored shaped true places gr stands;
      disk = opened_disk_holds stored gates places gr _ _ legal.log (c.in-Ok-recover.ensures.image.shaped tells stored shaped).holds (c.in-Ok-recover.ensures.image.durable tells only);
    }

-- the table is allocated before the disk is read
pub returns-in-Err-clause-image : goal.returns-in-Err-clause-image
returns-in-Err-clause-image g c =
    let d = g.D.Disk in
    only_read d c.args.disk c.args.disk NoMemory (reads_none d c.args.disk tt (λ tells image left. g.met.D.Disk.only_now tells c.args.disk image left)) (λ tells. tt) (λ address is. cc is)

pub returns-in-Ok-recover-clause-image : goal.returns-in-Ok-recover-clause-image
returns-in-Ok-recover-clause-image g c = c.in-Ok-recover.ensures.image

-- the error is the recovery's
pub returns-in-Err-recover-clause-image : goal.returns-in-Err-recover-clause-image
returns-in-Err-recover-clause-image g c =
    let P : RecoverError → Type 0 = λ e. OpensImage g.D.Disk c.args.disk c.recover.new.disk (Err e) in
    subst P (sym c.from.ensures) c.in-Err-recover.ensures.image

-- it lies within the disk, and has no entry yet
pub new-core-requires-clause-idle : goal.new-core-requires-clause-idle
new-core-requires-clause-idle g c = kept_none (memory c.new-engine.result) c.set_next.new.self.next (ap (λ (x : Memory). x.table) c.new-engine.ensures.memory) (ap (λ (x : Memory). x.sealed) c.new-engine.ensures.memory)
