-- Words that are put one after another.
use Rattle.std.proofs.Common.{◌≡◌, ℕ, ◌+◌, ◌<◌, List, [], ◌∷◌, length, get_or, set, take, ap, ◌∙◌}
use Rattle.std.specs.List.{enumerate_from}
use Rattle.std.proofs.lemmas.List.Sums.{fold-append}
use Rattle.log_machine.specs.Machine.{put_all}
use Rattle.log_machine.proofs.WordsFrom.{from_more}

-- one more word
pub put_next : (now : List ℕ) (address i : ℕ) (words : List ℕ) → i < length words → put_all now (enumerate_from address (take (i + 1) words)) ≡ set (put_all now (enumerate_from address (take i words))) (address + i) (get_or words i 0)
put_next now address i words lt =
    ap (put_all now) (from_more address i words lt)
    ∙ fold-append (λ (l : List ℕ) (w : ℕ × ℕ). set l w.0 w.1) now (enumerate_from address (take i words)) ((address + i, get_or words i 0) ∷ [])
