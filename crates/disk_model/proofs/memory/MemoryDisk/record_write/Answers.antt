use Rattle.std.proofs.Common.{◌+◌, ◌-◌, ◌≤◌, ◌≡◌, ap, ◌∙◌, rules, length, refl, arith}
use Rattle.std.specs.Vec.{with_items}
use Rattle.disk_model.specs.declared.memory.MemoryDisk.TheInside.{Inside}
use Rattle.disk_model.specs.Disk.{overwrite}
use Rattle.disk_model.specs.Memory.{Memory, with_write, now_of}
use Rattle.disk_model.proofs.Images.{length-overwrite, items_replaced}
use Rattle.disk_model.proofs.Change.{Writes, kept_written, view_written}
use Rattle.disk_model.proofs.memory.MemoryDisk.record_write.Goals as goal

-- the fields after the call
abbrev after : goal.After-self-2-1 → Inside
after c = record c.self.inside { newest = with_items c.self.inside.newest c.write_range.new.image; calls = c.push_reserved.new.self; pool = c.append.new.pool; room = c.self.inside.room - (64 + length c.args.piece.now) }

inside : (c : goal.After-self-2-1) → c.args.at + length c.args.piece.now ≤ length c.self.inside.newest.items
inside c =
    let same = c.self.invariant.newest ∙ ap (λ (d : Memory). (now_of d).newest) c.self.view_is in
    omega (arith, c.requires.inside, ap length same)

newest : (c : goal.After-self-2-1) → c.write_range.new.image ≡ overwrite c.self.inside.newest.items c.args.at c.args.piece.now
newest c = c.write_range.ensures ∙ ap (λ image. overwrite image c.args.at c.args.piece.now) c.deref_mut.ensures.value

writes : (c : goal.After-self-2-1) → Writes c.self.inside (after c) c.args.at c.args.piece.now
writes c = record {
  newest = items_replaced c.self.inside.newest _ _ (newest c) (length-overwrite _ _ _ (inside c));
  synced = refl;
  calls = search rules;
  pool = c.append.ensures.items;
  from = refl;
  room = refl;
  first = refl;
  pick = refl;
  rest = refl;
  calls_capacity = omega arith;
  pool_capacity = c.append.ensures.capacity;
}

pub invariant_of-self : goal.invariant_of-self
invariant_of-self c = kept_written c.self.inside (after c) c.args.at c.args.piece.now c.self.invariant (writes c) (inside c) (search rules)

pub returns : goal.returns
returns c =
    view_written c.self.inside (after c) c.args.at c.args.piece.now c.self.invariant (writes c)
    ∙ ap (λ (d : Memory). with_write d c.args.at c.args.piece.now) c.self.view_is
