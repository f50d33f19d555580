use Rattle.std.proofs.Common.{refl}
use Rattle.collection_words.specs.Placing.{placing_of}
use Rattle.scan_laws.proofs.Scanned.{scan_keeps}
use Rattle.scan_laws.proofs.scans.scans_keep_heaps.Goals as goal

pub returns : goal.returns
returns c s k places remaining words page t made records g us is backed stands planned =
    scan_keeps s k places remaining words (record { t = t; made = made; g = g; us = us; before = placing_of places remaining }) page records is backed stands refl planned
