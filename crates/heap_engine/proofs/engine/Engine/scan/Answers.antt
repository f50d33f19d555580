use Rattle.std.proofs.Common.{◌≡◌, ℕ, Ok, Some, sym, subst}
use Rattle.graph_model.specs.declared.reply.Reply.TheVariants.{Scanned, Collected}
use Rattle.heap_memory.specs.Leaves.{Scans}
use Rattle.heap_memory.specs.Refusals.{scan_refusal}
use Rattle.heap_memory.specs.Replies.{scan_reply}
use Rattle.graph_model.specs.Plain.{reply_of}
use Rattle.heap_engine.specs.EngineState.{memory}
use Rattle.heap_engine.proofs.ScanEvent.{answered, scanned_page, scanned_no_end}
use Rattle.heap_engine.proofs.engine.Engine.scan.Goals as goal

pub returns-in-Some-next_gray_page-clause-scanned : goal.returns-in-Some-next_gray_page-clause-scanned
returns-in-Some-next_gray_page-clause-scanned g c page objects words is =
    let m = memory c.args.self.now in
    let this = c.in-Some-next_gray_page.page in
    let wanted = reply_of (scan_refusal m (Some this)) (scan_reply m (Some this)) in
    let here = scanned_page m this page objects words (answered c.scan_page.result (Scanned page objects words) wanted is c.scan_page.ensures.reply) in
    subst (λ (p : ℕ). Scans m (memory c.scan_page.new.self) (Some p)) (sym here) (c.scan_page.ensures.scanned objects words (subst (λ (p : ℕ). c.scan_page.result ≡ Ok (Scanned p objects words)) here is))

pub returns-in-Some-next_gray_page-clause-collected : goal.returns-in-Some-next_gray_page-clause-collected
returns-in-Some-next_gray_page-clause-collected g c used is =
    let m = memory c.args.self.now in
    let this = c.in-Some-next_gray_page.page in
    let wanted = reply_of (scan_refusal m (Some this)) (scan_reply m (Some this)) in
    absurd (scanned_no_end m this used (answered c.scan_page.result (Collected used) wanted is c.scan_page.ensures.reply))
