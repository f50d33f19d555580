use Rattle.std.proofs.Common.{◌<◌, ◌≡◌, List, ℕ, ap, ◌∙◌, sym, rules, length, refl, arith}
use Rattle.std.specs.Vec.{with_items}
use Rattle.disk_model.specs.declared.memory.Call.TheVariants.{Restarted}
use Rattle.disk_model.specs.declared.memory.MemoryDisk.TheInside.{Inside}
use Rattle.disk_model.specs.Memory.{Memory, Restart, left_by, now_of, settled}
use Rattle.disk_model.specs.Record.{view_of}
use Rattle.disk_model.proofs.Images.{items_replaced}
use Rattle.disk_model.proofs.Kept.{left_pending, length-left_by}
use Rattle.disk_model.proofs.Change.{Settles, kept_settled, view_settled}
use Rattle.disk_model.proofs.memory.MemoryDisk.settle_restart.Goals as goal

-- the fields after the call
abbrev after : goal.After-self-3-1 → Inside
after c = record c.self.inside { newest = with_items c.self.inside.newest c.settle_picked.new.newest; synced = with_items c.self.inside.synced c.settle_picked.new.synced; calls = c.push_reserved.new.self; pending_from = c.len-self-inside.result }

pending : (c : goal.After-self-3-1) → c.self.inside.pending_from < length c.self.inside.calls.items
pending c = search rules

-- what the restart leaves
abbrev left : goal.After-self-3-1 → List ℕ
left c = left_by c.self.inside.pick (now_of (view_of c.self.inside))

picked : (c : goal.After-self-3-1) → c.settle_picked.new.newest ≡ left c
picked c =
    let kept = c.self.invariant in
    left_pending c.self.inside.pick c.self.inside.pending_from _ _ _ _ _ _ _ c.settle_picked.ensures.newest c.deref.ensures.value c.deref_mut.ensures.value c.deref_mut-2.ensures.value (now_of (view_of c.self.inside)) kept.newest kept.synced kept.pending

size : (c : goal.After-self-3-1) → length (left c) ≡ length c.self.inside.newest.items
size c = length-left_by c.self.inside.pick (now_of (view_of c.self.inside)) ∙ ap length (sym c.self.invariant.newest)

settles : (c : goal.After-self-3-1) → Settles c.self.inside (after c) Restarted (left c)
settles c = record {
  newest = items_replaced c.self.inside.newest _ _ (picked c) (size c);
  synced = items_replaced c.self.inside.synced _ _ (c.settle_picked.ensures.synced ∙ picked c) (size c ∙ sym c.self.invariant.size);
  calls = c.push_reserved.ensures.items;
  pool = refl;
  from = search rules;
  room = refl;
  first = refl;
  pick = refl;
  rest = refl;
  calls_capacity = omega arith;
}

pub invariant_of-self : goal.invariant_of-self
invariant_of-self c = kept_settled c.self.inside (after c) Restarted (left c) c.self.invariant (settles c) (pending c) tt refl

pub returns : goal.returns
returns c = view_settled c.self.inside (after c) Restarted (left c) c.self.invariant (settles c) (pending c) ∙ ap (λ (d : Memory). settled d Restart) c.self.view_is
