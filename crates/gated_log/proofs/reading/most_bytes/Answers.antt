use Rattle.std.proofs.Common.{◌∙◌, sym, arith}
use Rattle.gated_log.proofs.Reader.{record_short, scan_short}
use Rattle.gated_log.proofs.reading.most_bytes.Goals as goal

pub returns-then-first-eq-SCAN-clause-room : goal.returns-then-first-eq-SCAN-clause-room
returns-then-first-eq-SCAN-clause-room c rec good first fits = omega (arith, fits, scan_short rec good (first ∙ c.if-first-eq-SCAN.true), c.min.ensures)

pub returns-else-first-eq-SCAN-clause-room : goal.returns-else-first-eq-SCAN-clause-room
returns-else-first-eq-SCAN-clause-room c rec good first fits =
    omega (arith, fits, record_short rec good (λ is. c.if-first-eq-SCAN.false (sym first ∙ is)) (λ is. c.if-first-eq-FLIP.false (sym first ∙ is)), c.min-else-first-eq-SCAN.ensures)
