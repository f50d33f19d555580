use Rattle.std.proofs.Common.{◌≡◌, ◌-◌, ◌*◌, ◌≤◌, Ok, IsTrue, vec_len}
use Rattle.disk_model.specs.Keeps.{OnlyReads}
use Rattle.page_store.specs.Reading.{IsReadTo}
use Rattle.page_store.proofs.store.read_pages.Given as goal

abbrev pub invariant-loop-p : goal.invariant-loop-p
invariant-loop-p g l = record {
  few : l.p ≤ l.pages;
  pages : vec_len l.table ≡ l.p;
  size : vec_len l.words ≡ 64 * l.p;
  read : IsTrue g.D.Disk.tells → IsReadTo l.plan.log_bytes l.p l.table.items l.words.items (g.D.Disk.bytes l.fn.disk);
  disk : OnlyReads {T = Unit {0}} g.D.Disk l.fn.disk l.disk (Ok tt);
}

abbrev pub decreases-loop-p : goal.decreases-loop-p
decreases-loop-p g l = l.pages - l.p
