use Rattle.std.proofs.Common.{rules, ◌≡◌, ◌+◌, [], ◌∷◌, Err, sym, ap, subst}
use Rattle.logged_pages.proofs.AdvanceLaws.{advances_as}
use Rattle.logged_pages.proofs.PutSteps.{puts_both, puts_cut}
use Rattle.logged_pages.specs.Advancing.{PutsAll}
use Rattle.heap_engine.specs.Barrier.{planned_records}
use Rattle.heap_engine.proofs.planned.PlannedWriteRecords.carry.Goals as goal

pub returns-in_err-carry : goal.returns-in_err-carry
returns-in_err-carry g c =
    let write = c.args.self.now in
    let e = c.in_err-carry.field-0.0 in
    let err : c.from_residual.result ≡ Err e = search rules in
    record {
      puts = advances_as g.D.Disk c.args.pages.now c.carry.new.pages c.args.disk.now c.carry.new.disk (Err e) c.from_residual.result _ _ _ (sym err)
          (puts_cut g.D.Disk c.args.pages.now c.carry.new.pages c.args.disk.now c.carry.new.disk c.args.first (planned_records write.scan.now.scan) (write.update ∷ []) e c.in_err-carry.ensures.puts);
    }

pub returns : goal.returns
returns g c =
    let write = c.args.self.now in
    let scan = planned_records write.scan.now.scan in
    let last = subst (λ n. PutsAll g.D.Disk c.carry.new.pages c.carry_record.new.self c.carry.new.disk c.carry_record.new.disk c.carry_record.result (c.args.first + n) (write.update ∷ [])) c.count.ensures c.carry_record.ensures.puts in
    record { puts = puts_both g.D.Disk c.args.pages.now c.carry.new.pages c.args.disk.now c.carry.new.disk c.args.first scan (write.update ∷ []) c.carry_record.new.self c.carry_record.new.disk c.carry_record.result c.in_ok-carry.ensures.puts last }
