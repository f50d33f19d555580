use Rattle.std.proofs.Common.{◌≡◌, Ok}
use Rattle.disk_model.specs.Disk.{part}
use Rattle.disk_model.specs.Keeps.{OnlyReads}
use Rattle.image_plan.specs.Plan.{log_offset}
use Rattle.page_cache.specs.CacheState.{cache_store}
use Rattle.gated_log.specs.Reader.{reader_place, reader_room, reader_rest}
use Rattle.heap_recovery.proofs.LogReplay.{IsOnWay}
use Rattle.heap_recovery.proofs.read_image.replay_log.Given as goal

abbrev pub invariant-loop-reader : goal.invariant-loop-reader
invariant-loop-reader g l = record {
  place : reader_place l.reader ≡ log_offset;
  same_room : reader_room l.reader ≡ l.fn.of.log_bytes;
  on : IsOnWay g.D.Disk.tells (part (g.D.Disk.bytes l.fn.disk) log_offset l.fn.of.log_bytes) l.fn.of l.fn.replay l.reader l.replay;
  store : cache_store l.replay.cache ≡ cache_store l.fn.replay.cache;
  disk : OnlyReads {T = Unit {0}} g.D.Disk l.fn.disk l.disk (Ok tt);
}

abbrev pub decreases-loop-reader : goal.decreases-loop-reader
decreases-loop-reader g l = reader_rest l.reader
