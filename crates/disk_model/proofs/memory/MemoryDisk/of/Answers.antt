use Rattle.std.proofs.Common.{◌≡◌, map, sym, ap, rules, refl, arith}
use Rattle.std.specs.Prelude.{Vec}
use Rattle.disk_model.specs.Range.{range_of}
use Rattle.disk_model.proofs.Calls.{only_made}
use Rattle.disk_model.proofs.Change.{kept_made}
use Rattle.disk_model.proofs.memory.MemoryDisk.of.Goals as goal

pub invariant_of-result : goal.invariant_of-result
invariant_of-result c =
    let copied : c.in_ok-synced.synced.items ≡ c.args.bytes.items = search rules in
    kept_made _ c.args.bytes.items (ap (λ (v : Vec _ _). v.items) c.of.ensures) refl copied c.in_ok-calls.ensures.items c.in_ok-pool.ensures.items refl refl (omega (arith, c.in_ok-pool.ensures.capacity)) (omega (arith, c.in_ok-calls.ensures.exact))

pub returns-clause-bytes : goal.returns-clause-bytes
returns-clause-bytes c = sym (invariant_of-result c).newest

pub returns-clause-durable : goal.returns-clause-durable
returns-clause-durable c =
    let kept = invariant_of-result c in
    only_made _ _ _ kept.newest kept.pending (ap (map range_of) c.in_ok-calls.ensures.items)
