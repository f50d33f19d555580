-- What is said of the records that can follow holds of those that are planned.
use Rattle.std.proofs.Common.{◌≡◌, Some, Result, Ok, Err, sym, ap, ◌∙◌, subst}
use Rattle.std.specs.Prelude.{IfOk}
use Rattle.heap_spaces.specs.Spaces.{SpacesState}
use Rattle.std.specs.Option.{option_map}
use Rattle.page_scanner.specs.PageScan.{records_in}
use Rattle.page_scanner.specs.Scan.{records_of, scan_records}
use Rattle.page_scanner.proofs.Following.{scans}
use Rattle.page_scanner.proofs.Rising.{bounds}
use Rattle.page_scanner.proofs.Total.{total, all_spelled}
use Rattle.page_scanner.proofs.scan.plan_scan.Goals as goal

if_ok : {A E : Type 0} (r : Result A E) (P Q : A → Type 0) → ((x : A) → P x → Q x) → IfOk r P → IfOk r Q
if_ok (Ok x) P Q f p = f x p
if_ok (Err e) P Q f p = p

pub returns-clause-passes : goal.returns-clause-passes
returns-clause-passes g c told =
    let words = g.W.Words.content c.args.words.now in
    let k = c.args.collection.now in
    if_ok c.plan_records.result _ _
    (λ planned is s same runs.
    let Planned : SpacesState → Type 0 = λ spaces. scan_records spaces k words c.args.page ≡ Some (records_in planned) in
    scans s k words c.args.page (records_in planned) runs (subst Planned (sym same) is))
    (c.plan_records.ensures.records told)

pub returns-clause-whole : goal.returns-clause-whole
returns-clause-whole g c told heap current damaged =
    let words = g.W.Words.content c.args.words.now in
    let plan = total c.args.spaces.now c.args.collection.now words c.args.page heap current in
    let clash = sym (c.plan_records.ensures.damaged told damaged) ∙ ap (option_map (records_of c.args.page)) plan.1 in
    cc

pub returns-clause-spelled : goal.returns-clause-spelled
returns-clause-spelled g c told heap =
    let words = g.W.Words.content c.args.words.now in
    if_ok c.plan_records.result _ _
    (λ planned is. all_spelled c.args.spaces.now c.args.collection.now words c.args.page (records_in planned) heap is)
    (c.plan_records.ensures.records told)

pub returns-clause-small : goal.returns-clause-small
returns-clause-small g c told =
    let words = g.W.Words.content c.args.words.now in
    if_ok c.plan_records.result _ _
    (λ planned is apart. bounds c.args.spaces.now c.args.collection.now words c.args.page (records_in planned) apart is)
    (c.plan_records.ensures.records told)
