use Rattle.std.proofs.Common.{◌+◌, ◌∙◌, length, ap, sym}
use Rattle.page_redo.specs.Pages.{Pages}
use Rattle.page_redo.specs.Redo.{redo_record}
use Rattle.page_redo.proofs.RedoLaws.{redo_all-more, words-redo_record}
use Rattle.page_cache.specs.CacheState.{cached}
use Rattle.page_cache.proofs.cache.PageCache.redo_all.Goals as goal

pub loop-i-preserved : goal.loop-i-preserved
loop-i-preserved c =
    let rec = c.index-records-i.result in
    let lsn = c.args.first + c.loop-i.i in
    record {
      size = ap (λ (at : Pages). length at.words) c.redo.ensures.redone ∙ words-redo_record lsn (cached c.loop-i.self) rec ∙ c.loop-i.invariant.size;
      so_far =
          c.redo.ensures.redone
          ∙ ap (λ (at : Pages). redo_record lsn at rec) c.loop-i.invariant.so_far
          ∙ sym (redo_all-more c.args.first (cached c.args.self.now) c.args.records.now c.loop-i.i rec c.loop-i-test.true c.index-records-i.is);
      store = c.redo.ensures.store ∙ c.loop-i.invariant.store;
      frames = c.redo.ensures.frames ∙ c.loop-i.invariant.frames;
    }
