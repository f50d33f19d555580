use Rattle.std.proofs.Common.{◌≡◌, ◌++◌, ◌*◌, ◌≤◌, length}
use Rattle.stability_tracker.specs.Promotion.{need}
use Rattle.stability_tracker.proofs.tracker.measured.Given as goal

abbrev pub invariant-loop-object : goal.invariant-loop-object
invariant-loop-object l = record {
  split : l.indices.items ++ l.object-iterator ≡ l.objects.keys;
  sum : l.need ≡ need l.volatile l.indices.items;
  few : l.need ≤ 512 * length l.indices.items;
}
