use Rattle.std.proofs.Common.{rules, ◌≡◌, ◌+◌, ◌∷◌, Err, List, reverse, sym, ap, ◌∙◌, subst, arith}
use Rattle.std.proofs.lemmas.List.{nil_from_length}
use Rattle.log_machine.specs.declared.UndoEntry.{UndoEntry}
use Rattle.log_machine.specs.Machine.{abort_records}
use Rattle.log_records.specs.declared.Record.{Record}
use Rattle.logged_pages.proofs.AdvanceLaws.{advances_as}
use Rattle.logged_pages.proofs.Putting.{IsPutting, putting_cut, putting_next}
use Rattle.logged_pages.proofs.TakingBack.{newest}
use Rattle.logged_pages.specs.Advancing.{PutsAll}
use Rattle.logged_pages.proofs.taken_back.TakenBackRecords.carry.Goals as goal

pub returns-in_err-carry_record : goal.returns-in_err-carry_record
returns-in_err-carry_record g c =
    let l = c.loop-entry in
    let t = c.args.self.now.t in
    let all = abort_records t (reverse c.args.self.now.undo.now) in
    let rest = abort_records t (reverse c.next.new.self.iter.rest.now) in
    let e = c.in_err-carry_record.field-0.0 in
    let err : c.from_residual.result ≡ Err e = search rules in
    let first = newest t l.entry-iterator.iter.rest.now c.next.new.self.iter.rest.now c.in-Some.entry.now c.in-Some.ensures.steps ∙ ap (λ (r : Record). r ∷ rest) (sym c.undone.ensures) in
    let is = subst (IsPutting g.D.Disk c.args.pages.now l.pages c.args.disk.now l.disk c.args.first all l.lsn) first l.invariant in
    record {
      puts = advances_as g.D.Disk c.args.pages.now c.carry_record.new.self c.args.disk.now c.carry_record.new.disk (Err e) c.from_residual.result _ _ _ (sym err)
          (putting_cut g.D.Disk c.args.pages.now c.args.disk.now c.args.first all l.pages l.disk l.lsn c.undone.result rest is c.carry_record.new.self c.carry_record.new.disk e c.in_err-carry_record.ensures.puts);
    }

pub loop-entry-preserved : goal.loop-entry-preserved
loop-entry-preserved g c =
    let l = c.loop-entry in
    let t = c.args.self.now.t in
    let all = abort_records t (reverse c.args.self.now.undo.now) in
    let rest = abort_records t (reverse c.next.new.self.iter.rest.now) in
    let first = newest t l.entry-iterator.iter.rest.now c.next.new.self.iter.rest.now c.in-Some.entry.now c.in-Some.ensures.steps ∙ ap (λ (r : Record). r ∷ rest) (sym c.undone.ensures) in
    let is = subst (IsPutting g.D.Disk c.args.pages.now l.pages c.args.disk.now l.disk c.args.first all l.lsn) first l.invariant in
    putting_next g.D.Disk c.args.pages.now c.args.disk.now c.args.first all l.pages l.disk l.lsn c.undone.result rest is c.carry_record.new.self c.carry_record.new.disk c.in_ok-carry_record.ensures.puts

pub returns : goal.returns
returns g c =
    let l = c.loop-entry in
    let t = c.args.self.now.t in
    let Left : List UndoEntry → Type 0 = λ us. IsPutting g.D.Disk c.args.pages.now l.pages c.args.disk.now l.disk c.args.first (abort_records t (reverse c.args.self.now.undo.now)) l.lsn (abort_records t (reverse us)) in
    let is = subst Left (nil_from_length l.entry-iterator.iter.rest.now c.in-None.ensures.steps.0) l.invariant in
    record { puts = is.rest c.carry_record-2.new.self c.carry_record-2.new.disk c.carry_record-2.result c.carry_record-2.ensures.puts }
