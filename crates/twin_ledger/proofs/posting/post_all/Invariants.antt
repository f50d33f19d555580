use Rattle.std.proofs.Common.{◌≡◌, ◌++◌, take}
use Rattle.turn_lock.specs.Merging.{entries_of}
use Rattle.turn_lock.specs.TwinPasses.{pass_numbers, mine_of}
use Rattle.twin_ledger.specs.Ready.{IsReady, IsRisen}
use Rattle.twin_ledger.proofs.posting.post_all.Given as goal

abbrev pub invariant-loop-posted : goal.invariant-loop-posted
invariant-loop-posted g l = record {
  ready : IsReady l.lock l.pass;
  numbers : pass_numbers l.pass ≡ pass_numbers l.fn.pass;
  posted : entries_of (mine_of l.pass) ≡ entries_of (mine_of l.fn.pass) ++ take l.posted l.numbers;
  rise : IsRisen l.lock l.fn.pass → IsRisen l.lock l.pass;
}
