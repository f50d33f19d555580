use Rattle.std.proofs.Common.{◌≡◌, ◌++◌, map, take, drop}
use Rattle.txn_table.specs.Translation.{translated_handle}
use Rattle.txn_table.proofs.roots.translate_handles.Given as goal

-- the first handles hold the same objects at their new places, and the others what they held
abbrev pub invariant-loop-handle : goal.invariant-loop-handle
invariant-loop-handle l = l.handles ≡ map (translated_handle l.pairs) (take l.handle-index l.initial.handles) ++ drop l.handle-index l.initial.handles
