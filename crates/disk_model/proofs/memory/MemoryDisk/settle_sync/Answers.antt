use Rattle.std.proofs.Common.{◌<◌, ◌≡◌, ap, ◌∙◌, sym, rules, length, refl, arith}
use Rattle.std.specs.Vec.{with_items}
use Rattle.disk_model.specs.declared.memory.Call.TheVariants.{Synced}
use Rattle.disk_model.specs.declared.memory.MemoryDisk.TheInside.{Inside}
use Rattle.disk_model.specs.Memory.{Memory, Sync, blended, settled, settled_as}
use Rattle.disk_model.specs.Record.{pending_of}
use Rattle.disk_model.proofs.Images.{items_replaced}
use Rattle.disk_model.proofs.Kept.{blended_all, copied_pending}
use Rattle.disk_model.proofs.Change.{Settles, kept_settled, view_settled}
use Rattle.disk_model.proofs.memory.MemoryDisk.settle_sync.Goals as goal

-- the fields after the call
abbrev after : goal.After-self-2-1 → Inside
after c = record c.self.inside { synced = with_items c.self.inside.synced c.copy_ranges.new.to; calls = c.push_reserved.new.self; pending_from = c.len-self-inside.result }

pending : (c : goal.After-self-2-1) → c.self.inside.pending_from < length c.self.inside.calls.items
pending c = search rules

copied : (c : goal.After-self-2-1) → c.copy_ranges.new.to ≡ c.self.inside.newest.items
copied c =
    let same : c.copy_ranges.new.to ≡ blended (pending_of c.self.inside) c.self.inside.newest.items c.self.inside.synced.items = copied_pending c.self.inside.pending_from _ _ _ _ _ _ _ c.copy_ranges.ensures c.deref.ensures.value c.deref-2.ensures.value c.deref_mut.ensures.value in
    same ∙ blended_all (pending_of c.self.inside) c.self.inside.newest.items c.self.inside.synced.items c.self.invariant.size c.self.invariant.tied

settles : (c : goal.After-self-2-1) → Settles c.self.inside (after c) Synced c.self.inside.newest.items
settles c = record {
  newest = refl;
  synced = items_replaced c.self.inside.synced _ _ (copied c) (sym c.self.invariant.size);
  calls = c.push_reserved.ensures.items;
  pool = refl;
  from = search rules;
  room = refl;
  first = refl;
  pick = refl;
  rest = refl;
  calls_capacity = omega arith;
}

pub invariant_of-self : goal.invariant_of-self
invariant_of-self c = kept_settled c.self.inside (after c) Synced c.self.inside.newest.items c.self.invariant (settles c) (pending c) tt (ap settled_as (sym c.self.invariant.newest))

pub returns : goal.returns
returns c = view_settled c.self.inside (after c) Synced c.self.inside.newest.items c.self.invariant (settles c) (pending c) ∙ ap (λ (d : Memory). settled d Sync) c.self.view_is
