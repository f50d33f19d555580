use Rattle.std.proofs.Common.{◌≡◌, take}
use Rattle.log_machine.specs.Machine.{put_all}
use Rattle.page_cache.specs.ByPage.{on_page}
use Rattle.page_cache.proofs.effect.put_writes_on.Given as goal

-- those of the writes so far that are on the page are put
abbrev pub invariant-loop-address : goal.invariant-loop-address
invariant-loop-address l = l.words ≡ put_all l.fn.words (on_page l.p (take l.address-index l.writes))
