use Rattle.heap_engine.specs.EngineState.{memory}
use Rattle.std.proofs.Common.{refl, sym, ap, ◌∙◌, subst}
use Rattle.heap_engine.proofs.Found.{map_ok}
use Rattle.heap_engine.specs.Barrier.{CanScan, planned_records}
use Rattle.heap_engine.proofs.ScanReady.{none_ready}
use Rattle.heap_engine.proofs.GrayPages.{barrier_gray, barrier_none}
use Rattle.read_barrier.specs.Barrier.{IsGrayIn, barrier_page_of}
use Rattle.heap_engine.proofs.engine.Engine.barrier.Goals as goal

pub returns-in-Some-clause-records : goal.returns-in-Some-clause-records
returns-in-Some-clause-records c =
    let s = c.args.self.now in
    let page = barrier_page_of c.args.object c.args.field in
    let gray = subst (λ o. IsGrayIn o page) c.as_ref.ensures.value (c.in-Some.ensures.needed.0 refl) in
    map_ok c.plan_page.result _ _ (λ plan are. barrier_gray (memory s) c.args.object c.args.field c.in-Some.page (planned_records plan.scan) c.in-Some.ensures.page gray are) c.plan_page.ensures.records

pub returns-in-None-clause-ready : goal.returns-in-None-clause-ready
returns-in-None-clause-ready c =
    let s = c.args.self.now in
    subst (λ scan. CanScan (memory s) (planned_records scan)) (sym c.none.ensures) (none_ready (memory s) s.owed s.gray)

pub returns-in-None-clause-records : goal.returns-in-None-clause-records
returns-in-None-clause-records c =
    let s = c.args.self.now in
    let page = barrier_page_of c.args.object c.args.field in
    let none = λ (gray : IsGrayIn s.collection page). c.in-None.ensures.needed.1 (subst (λ o. IsGrayIn o page) (sym c.as_ref.ensures.value) gray) in
    ap planned_records c.none.ensures ∙ barrier_none (memory s) c.args.object c.args.field (λ gray. absurd (cc (none gray)))
