use Rattle.walk_laws.proofs.Birth.Scanned.{scan_births}
use Rattle.walk_laws.proofs.records.scans_keep_births.Goals as goal

pub returns : goal.returns
returns c s k places remaining words page writes is all tells = scan_births is page writes all tells
