use Rattle.std.proofs.Common.{◌≡◌, true, ℕ, ◌+◌, min, List, ◌++◌, inl, sym, refl, ap, ◌∙◌, subst}
use Rattle.std.specs.Prelude.{IsTrue}
use Rattle.counts.specs.Count.{counted, greatest}
use Rattle.disk_model.specs.Disk.{Only}
use Rattle.disk_model.specs.Moments.{LeavesOnly}
use Rattle.graph_model.specs.Text.{canon_text}
use Rattle.core_laws.proofs.Opening.Opened.{opened_reached}
use Rattle.heap_model.proofs.Opening.Opened.{saying_law}
use Rattle.heap_model.proofs.Opening.Rolled.{commits_are}
use Rattle.heap_model.specs.Opening.{commits_of, opened, opening_calls, IsLeftByOpening}
use Rattle.heap_model.proofs.Shaped.{shaped_image}
use Rattle.page_store.specs.Gates.{open_gates}
use Rattle.heap_program.specs.Headline.{recovered_line, graph_text, KeepsFirst, Reopens, FailsToOpen}
use Rattle.heap_program.specs.Output.{WroteText, commits_since}
use Rattle.heap_program.proofs.PlayOpen.{opened_core, opened_unfailed}
use Rattle.heap_program.proofs.PlayPrints.{wrote_again}
use Rattle.heap_program.proofs.Statuses.{open_not_done, written_end}
use Rattle.heap_program.proofs.PrintRecovered.{legal_of, keeps_first, few_commits, since_before, recovers_nothing, recovers_first}
use Rattle.heap_recovery.specs.Faults.{IsLogLeft}
use Rattle.heap_recovery.proofs.FaultLaws.{shaped_readable}
use Rattle.heap_program.proofs.Reopened.{reads_only, refused_memory}
use Rattle.heap_program.proofs.ImageLaws.{answers_failed, answers_opened}
use Rattle.heap_program.proofs.RunLaws.{end_sound, restarts_none}
use Rattle.heap_program.proofs.again.print_recovered.Goals as goal

-- an opening leaves the same commits at each moment
pub returns-in-Err-clause-keeps : goal.returns-in-Err-clause-keeps
returns-in-Err-clause-keeps g c tells core k first only =
    let d = g.D.Disk in
    let stored = first.stands.stored in
    let shaped = shaped_image (legal_of first) in
    let e = c.in-Err.ensures in
    keeps_first d core k c.args.disk c.in-Err.disk first ((e.image.shaped tells stored shaped).moments only) ((e.image.readable tells stored shaped.log.state (shaped_readable stored (d.bytes c.args.disk) shaped)).moments only)
    ((e.image.shaped tells stored shaped).crash only) (e.image.disk.restarts tells)

-- a legal image is refused by the outside alone
pub returns-in-Err-clause-recovers : goal.returns-in-Err-clause-recovers
returns-in-Err-clause-recovers g c = λ tells core k first only none.
    let d = g.D.Disk in
    let stored = first.stands.stored in
    let legal = legal_of first in
    let shaped = shaped_image legal in
    let keeps = keeps_first d core k c.args.disk c.in-Err.disk first ((c.in-Err.ensures.image.shaped tells stored shaped).moments only)
    ((c.in-Err.ensures.image.readable tells stored shaped.log.state (shaped_readable stored (d.bytes c.args.disk) shaped)).moments only) ((c.in-Err.ensures.image.shaped tells stored shaped).crash only) (c.in-Err.ensures.image.disk.restarts tells) in
    recovers_nothing d core k c.args.disk c.in-Err.disk keeps (Reopens d core k c.args.disk c.in-Err.disk) c.in-Err.e c.from.result _ _ ((c.in-Err.ensures.image.shaped tells stored (shaped_image legal)).error) c.from.ensures
    c.in-Err.ensures.image.disk.cause ((c.in-Err.ensures.image.shaped tells stored (shaped_image legal)).passes)
    (λ refused. reads_only d c.args.disk c.in-Err.disk ((c.in-Err.ensures.image.left_alone (refused_memory c.in-Err.e refused)).contents tells) only)

pub returns-clause-keeps : goal.returns-clause-keeps
returns-clause-keeps g c tells core k first only =
    let d = g.D.Disk in
    let stored = first.stands.stored in
    let shaped = shaped_image (legal_of first) in
    let e = c.in-Ok.ensures in
    let keeps = keeps_first d core k c.args.disk c.in-Ok.heap.disk first ((e.image.shaped tells stored shaped).moments only) ((e.image.readable tells stored shaped.log.state (shaped_readable stored (d.bytes c.args.disk) shaped)).moments only)
    ((e.image.shaped tells stored shaped).crash only) (e.image.disk.restarts tells) in
    subst (KeepsFirst d core k c.args.disk) (sym c.close.ensures) keeps

-- the heap that was opened is the core that the image stands for
pub returns-clause-recovers : goal.returns-clause-recovers
returns-clause-recovers g c = λ tells core k first only same.
    let d = g.D.Disk in
    let sink = g.K.Sink in
    let final = c.close.result in
    let says = first.stands.says in
    let stored = first.stands.stored in
    let gates = open_gates stored.super.log_bytes (d.bytes c.args.disk) in
    let legal = legal_of first in
    let found = saying_law stored says.legal says.seen says.shows in
    let heap = c.in-Ok.ensures.holds tells stored legal only found.0 found.1 found.2 in
    let reached = opened_reached stored says.legal.shaped gates true found.0 found.1 found.2 in
    let few = few_commits stored says.legal in
    let count = commits_are stored says.legal.shaped ∙ says.count in
    let since : commits_since c.args.before (min (commits_of stored + 0) greatest) ≡ k = since_before c.args.before core (commits_of stored) k same count first.some few in
    let shaped = shaped_image legal in
    let e = c.in-Ok.ensures in
    let on = λ (P : List ℕ → Type 0). subst (λ x. LeavesOnly d.moment d.left_since c.args.disk x P) (sym c.close.ensures) in
    let moments = on (IsLeftByOpening stored) ((e.image.shaped tells stored shaped).moments only) in
    let log = on (IsLogLeft stored (d.bytes c.args.disk)) ((e.image.readable tells stored shaped.log.state (shaped_readable stored (d.bytes c.args.disk) shaped)).moments only) in
    let leaves = λ (left : List ℕ) (may : d.may_leave final left). (e.image.shaped tells stored shaped).crash only left (subst (λ x. d.may_leave x left) c.close.ensures may) in
    let keeps = keeps_first d core k c.args.disk final first moments log leaves (ap d.restarts c.close.ensures ∙ e.image.disk.restarts tells) in
    let calls : d.passed final ≡ counted (opening_calls stored) (d.passed c.args.disk) =
    ap d.passed c.close.ensures ∙ (c.in-Ok.ensures.image.shaped tells stored (shaped_image legal)).passes.ok in
    let last = subst (λ x. Only (d.bytes x) (d.may_leave x)) (sym c.close.ensures) (c.in-Ok.ensures.image.durable tells only) in
    let wrote = λ (told : IsTrue sink.tells). c.write_recovered.ensures.wrote told (opened stored gates true found.0 found.1) heap.core reached in
    recovers_first d core k c.args.disk final keeps (FailsToOpen d core k c.status_after-status.result c.args.disk final) c.write_recovered.result c.status_after-status.result _ _ _ c.status_after-status.ensures calls last
    (λ told. subst (λ (t : List ℕ). WroteText c.write_recovered.result (sink.written c.args.sink.now) (recovered_line k ++ t) (sink.written c.write_recovered.new.sink)) (ap canon_text (found.3 ∙ says.graph))
    (subst (λ (n : ℕ). WroteText c.write_recovered.result (sink.written c.args.sink.now) (recovered_line n ++ graph_text found.1) (sink.written c.write_recovered.new.sink)) since (wrote told)))

pub write_recovered-requires : goal.write_recovered-requires
write_recovered-requires g c =
    let some = opened_core g.D.Disk.tells (g.D.Disk.bytes c.args.disk) c.in-Ok.heap c.in-Ok.ensures.opens c.in-Ok.ensures.sound in
    record { unfailed = opened_unfailed c.in-Ok.heap some.0 some.1 some.2 }

pub returns-in-Err-clause-again : goal.returns-in-Err-clause-again
returns-in-Err-clause-again g c tells = inl ((λ done. open_not_done c.in-Err.e (sym c.from.ensures ∙ done)), refl)

pub returns-clause-again : goal.returns-clause-again
returns-clause-again g c tells =
    let k = g.K.Sink in
    let some = opened_core g.D.Disk.tells (g.D.Disk.bytes c.args.disk) c.in-Ok.heap c.in-Ok.ensures.opens c.in-Ok.ensures.sound in
    wrote_again c.write_recovered.result _ _ c.status_after-status.result (k.written c.args.sink.now) (k.written c.write_recovered.new.sink) c.status_after-status.ensures (c.write_recovered.ensures.wrote tells some.0 some.2 some.1.running.reached)

-- the image was not opened
pub returns-in-Err-clause-image : goal.returns-in-Err-clause-image
returns-in-Err-clause-image g c =
    rw c.from.ensures (answers_failed g.D.Disk c.args.disk c.in-Err.disk _ c.in-Err.e refl c.in-Err.ensures.image (λ tells t image le may. g.met.D.Disk.counts_now tells c.in-Err.disk t image le may))

pub returns-clause-image : goal.returns-clause-image
returns-clause-image g c =
    rw (c.close.ensures, c.status_after-status.ensures) (answers_opened g.D.Disk 0 c.args.disk _ _ _ (end_sound _ (written_end c.write_recovered.result)) (λ tells none. (c.in-Ok.ensures.image.not_heap tells none).told) (λ tells at damage. (c.in-Ok.ensures.image.damaged tells at damage).told)
    (λ tells. restarts_none 0 _ _ _ (λ done. refl) (c.in-Ok.ensures.image.disk.restarts tells)))
