use Rattle.std.proofs.Common.{◌<◌, ℕ, [], ◌∷◌, ap, length, arith}
use Rattle.std.specs.List.{enumerate_from}
use Rattle.log_machine.proofs.Addresses.{each_address}
use Rattle.log_machine.proofs.ListLaws.{AllByRecursion-append}
use Rattle.log_machine.proofs.WordsFrom.{from_below}
use Rattle.log_machine.specs.Machine.{copy_writes}
use Rattle.storage_tests.proofs.logged_pages_tests.copy.Goals as goal

pub returns : goal.returns
returns c =
    let P : ℕ × ℕ → Type 0 = λ w. w.0 < 512 in
    let words = c.new-words.result in
    each_address (λ a. a < 512) (copy_writes 60 300 words)
    (AllByRecursion-append P (enumerate_from 300 words) ((60, 1202) ∷ []) (from_below 300 512 words (omega (arith, ap length c.new-words.ensures, c.in_ok-object.ensures))) (omega arith, tt))
