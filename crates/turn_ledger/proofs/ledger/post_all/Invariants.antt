use Rattle.std.proofs.Common.{◌≡◌, ◌≤◌, length, take}
use Rattle.turn_lock.specs.Merging.{entries_of, Rise}
use Rattle.turn_lock.specs.Passes.{first_of, pass_numbers, seen_of, mine_of, IsPassOf, IsResting}
use Rattle.turn_ledger.proofs.ledger.post_all.Given as goal

abbrev pub invariant-loop-posted : goal.invariant-loop-posted
invariant-loop-posted g l = record {
  of_lock : IsPassOf l.lock l.pass;
  resting : IsResting l.pass;
  numbers : pass_numbers l.pass ≡ pass_numbers l.fn.pass;
  posted : entries_of (mine_of l.pass) ≡ take l.posted l.numbers;
  rise : Rise (first_of l.lock).before (mine_of l.pass);
  long : (first_of l.lock).before ≤ length (seen_of l.pass);
}
