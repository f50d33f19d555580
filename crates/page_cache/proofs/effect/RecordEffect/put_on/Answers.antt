use Rattle.std.proofs.Common.{ℕ, List, length, sym, subst}
use Rattle.page_cache.specs.Writing.{AreBelow}
use Rattle.page_cache.proofs.ByPageLaws.{scan_below}
use Rattle.page_cache.proofs.effect.RecordEffect.put_on.Goals as goal

pub put_writes_on-requires : goal.put_writes_on-requires
put_writes_on-requires c =
    let end = length c.args.words.now in
    let below = scan_below end c.args.self.now c.in-Scan.page c.in-Scan.writes c.in-Scan.is c.requires in
    subst (λ (l : List (ℕ × ℕ)). AreBelow end l) (sym c.as_slice.ensures.writes) below
