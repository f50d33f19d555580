use Rattle.std.proofs.Common.{◌≡◌, take}
use Rattle.std.specs.List.{enumerate_from}
use Rattle.log_machine.specs.Machine.{put_all}
use Rattle.page_cache.proofs.effect.put_words.Given as goal

-- the words so far are put
abbrev pub invariant-loop-i : goal.invariant-loop-i
invariant-loop-i l = l.words ≡ put_all l.fn.words (enumerate_from l.address (take l.i l.new))
