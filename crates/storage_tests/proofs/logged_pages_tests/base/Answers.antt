use Rattle.std.proofs.Common.{◌<◌, ap, length, arith}
use Rattle.std.specs.List.{enumerate_from}
use Rattle.log_machine.proofs.Addresses.{each_address}
use Rattle.log_machine.proofs.WordsFrom.{from_below}
use Rattle.storage_tests.proofs.logged_pages_tests.base.Goals as goal

pub returns : goal.returns
returns c =
    each_address (λ a. a < 512) (enumerate_from 60 c.new-words.result) (from_below 60 512 c.new-words.result (omega (arith, ap length c.new-words.ensures, c.in_ok-object.ensures)))
