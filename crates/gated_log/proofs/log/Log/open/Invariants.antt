use Rattle.std.proofs.Common.{◌≡◌, ◌-◌, Ok, vec_len}
use Rattle.std.specs.List.{AllByRecursion}
use Rattle.disk_model.specs.Disk.{part}
use Rattle.disk_model.specs.Keeps.{OnlyReads}
use Rattle.log_records.specs.Record.{IsRecord}
use Rattle.gated_log.specs.Reader.{HasGiven}
use Rattle.gated_log.proofs.log.Log.open.Given as goal

abbrev pub invariant-loop-records : goal.invariant-loop-records
invariant-loop-records g l = record {
  place : l.reader.at ≡ l.at;
  same_room : l.reader.room ≡ l.room;
  good : AllByRecursion IsRecord l.records.items;
  few : vec_len l.records ≡ l.reader.given;
  given : HasGiven g.D.Disk.tells (part (g.D.Disk.bytes l.fn.disk) l.at l.room) l.reader l.records.items;
  disk : OnlyReads {T = Unit {0}} g.D.Disk l.fn.disk l.disk (Ok tt);
}

abbrev pub decreases-loop-records : goal.decreases-loop-records
decreases-loop-records g l = l.reader.room - l.reader.next
