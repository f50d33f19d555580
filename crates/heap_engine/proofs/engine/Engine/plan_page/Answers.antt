use Rattle.std.proofs.Common.{rules, true, ◌≡◌, Some, Result, Ok, Err, refl, sym, subst}
use Rattle.std.specs.Prelude.{MatchResult, IfOk, IsErrAnd}
use Rattle.page_scanner.specs.Passing.{IsScanned}
use Rattle.logged_pages.specs.State.{pages_in_memory}
use Rattle.page_scanner.specs.PageScan.{records_in}
use Rattle.page_scanner.specs.Scan.{scan_records}
use Rattle.heap_engine.specs.Barrier.{CanScan, is_page_scan, planned_records}
use Rattle.heap_engine.specs.EngineState.{memory}
use Rattle.heap_engine.proofs.Found.{map_ok}
use Rattle.heap_engine.proofs.ScanReady.{IsKnown, Passes, page_ready}
use Rattle.heap_engine.proofs.ScanRecords.{scan_shaped}
use Rattle.heap_engine.proofs.engine.Engine.plan_page.Goals as goal

-- what holds of a value holds of it after another error
still_ok : {V E F : Type 0} (r : Result V E) (m : Result V F) (x : V) (R : E → F → Type 0) (P : V → Type 0) → MatchResult r (λ v. m ≡ Ok v) (λ e. IsErrAnd m (R e)) → m ≡ Ok x → IfOk r P → P x
still_ok (Ok v) m x R P same is holds = let one : v ≡ x = cc (same, is) in subst P one holds
still_ok (Err e) m x R P other is holds = absurd (subst (λ n. IsErrAnd n (R e)) is other)

pub of-requires-clause-scan : goal.of-requires-clause-scan
of-requires-clause-scan c =
    let s = c.args.self.now in
    let scan = c.in_ok-scan.scan in
    let are : scan_records s.spaces c.in-Some.collection (pages_in_memory s.pages).words c.args.page ≡ Some (records_in scan) = search rules in
    let page : scan.page ≡ c.args.page = search rules in
    subst (λ p. is_page_scan p (records_in scan) ≡ true) (sym page) (scan_shaped s.spaces c.in-Some.collection (pages_in_memory s.pages).words c.args.page (records_in scan) are)

pub returns-clause-ready : goal.returns-clause-ready
returns-clause-ready c =
    let s = c.args.self.now in
    let records = (records_in c.in_ok-scan.scan) in
    let are : scan_records s.spaces c.in-Some.collection (pages_in_memory s.pages).words c.args.page ≡ Some records = search rules in
    let known : IsKnown (memory s) = record { spaces = c.next_free-end.ensures.sound; sized = s.sized; owed = s.owed; sound = s.gray } in
    let passes : Passes s.spaces c.in-Some.collection c.args.page records =
    λ st same runs.
    still_ok c.plan_scan.result c.map_err.result c.in_ok-scan.scan _ (λ found. IsScanned st c.args.page (records_in found)) c.map_err.ensures.cases c.in_ok-scan.was
    (map_ok c.plan_scan.result _ _ (λ found follows. follows st same runs) (c.plan_scan.ensures.passes refl)) in
    let ready = page_ready (memory s) c.in-Some.collection c.args.page records known c.in-Some.is are passes in
    subst (λ scan. CanScan (memory s) (planned_records scan)) (sym c.of.ensures) ready
