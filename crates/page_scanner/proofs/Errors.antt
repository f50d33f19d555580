-- An error that a call gave is handed on.
use Rattle.std.proofs.Common.{◌≡◌, refl, sym, ap, ◌∙◌, Result, Ok, Err}
use Rattle.std.specs.Prelude.{IsErrAnd}
use Rattle.page_scanner.specs.declared.scan_error.ScanError.{ScanError}
use Rattle.page_scanner.specs.declared.scan_error.ScanError.TheVariants.{Damaged, Disk, NoMemory}
use Rattle.page_scanner.specs.ScanFailure.{scan_failure}

pub handed_on : {X : Type 0} (r : Result X ScanError) (e : ScanError) → IsErrAnd r (λ y. y ≡ e) → r ≡ Err Damaged → e ≡ Damaged
handed_on (Ok done) e at is = cc
handed_on (Err y) e at is = cc

same_failure : (X Y : Type 0) (e : ScanError) → scan_failure {T = X} (Err e) ≡ scan_failure {T = Y} (Err e)
same_failure X Y (Disk error) = refl
same_failure X Y Damaged = refl
same_failure X Y NoMemory = refl

-- so is the disk's
pub failure_on : {X : Type 0} (r : Result X ScanError) (e : ScanError) → IsErrAnd r (λ y. y ≡ e) → scan_failure {T = Unit {0}} (Err e) ≡ scan_failure r
failure_on (Ok done) e at = absurd at
failure_on {X = X} (Err y) e at = same_failure (Unit {0}) X e ∙ ap (λ x. scan_failure {T = X} (Err x)) (sym at)
