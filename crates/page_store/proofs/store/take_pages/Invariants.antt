use Rattle.std.proofs.Common.{◌≡◌, ℕ, ◌+◌, ◌*◌, List, vec_len}
use Rattle.disk_model.specs.Disk.{part}
use Rattle.image_plan.specs.Plan.{frame_offset}
use Rattle.page_store.specs.Reading.{IsReadTo}
use Rattle.page_store.proofs.store.take_pages.Given as goal

abbrev pub invariant-loop-k : goal.invariant-loop-k
invariant-loop-k l = record {
  pages : vec_len l.table ≡ vec_len l.fn.table + l.k;
  size : vec_len l.words ≡ vec_len l.fn.words + 64 * l.k;
  read : (log_bytes : ℕ) (image : List ℕ) → l.frames ≡ part image (frame_offset log_bytes l.first 0) (1056 * l.some) → IsReadTo log_bytes l.first l.fn.table.items l.fn.words.items image → IsReadTo log_bytes (l.first + l.k) l.table.items l.words.items image;
}
