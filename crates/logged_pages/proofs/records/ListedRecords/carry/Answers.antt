use Rattle.std.proofs.Common.{rules, ◌≡◌, ◌+◌, Err, drop, length, subst, sym, arith}
use Rattle.log_records.specs.declared.Record.{Record}
use Rattle.logged_pages.proofs.AdvanceLaws.{advances_as}
use Rattle.logged_pages.proofs.Putting.{IsPutting, next_inside, next_known, putting_at, putting_cut, putting_end, putting_next, putting_none, putting_past}
use Rattle.logged_pages.proofs.records.ListedRecords.carry.Goals as goal

pub loop-i-init : goal.loop-i-init
loop-i-init g c =
    let all = c.args.self.now.records.now in
    let same : c.args.first + 0 ≡ c.args.first = omega arith in
    subst (λ n. IsPutting g.D.Disk c.args.pages.now c.args.pages.now c.args.disk.now c.args.disk.now c.args.first all n all) (sym same) (putting_none g.D.Disk c.args.pages.now c.args.disk.now c.args.first all c.requires.works c.requires.inside)

pub carry_record-requires-clause-known : goal.carry_record-requires-clause-known
carry_record-requires-clause-known g c =
    let l = c.loop-i in
    let all = c.args.self.now.records.now in
    let is = putting_at g.D.Disk c.args.pages.now c.args.disk.now c.args.first all l.pages l.disk l.i l.invariant c.rec-item.result c.loop-i-test.true c.rec-item.is in
    next_known g.D.Disk c.args.pages.now c.args.disk.now c.args.first all l.pages l.disk (c.args.first + l.i) c.rec-item.result (drop (l.i + 1) all) is c.requires.known

pub carry_record-requires-clause-inside : goal.carry_record-requires-clause-inside
carry_record-requires-clause-inside g c =
    let l = c.loop-i in
    let all = c.args.self.now.records.now in
    let is = putting_at g.D.Disk c.args.pages.now c.args.disk.now c.args.first all l.pages l.disk l.i l.invariant c.rec-item.result c.loop-i-test.true c.rec-item.is in
    next_inside g.D.Disk c.args.pages.now c.args.disk.now c.args.first all l.pages l.disk (c.args.first + l.i) c.rec-item.result (drop (l.i + 1) all) is

pub carry_record-requires-clause-within : goal.carry_record-requires-clause-within
carry_record-requires-clause-within g c = c.loop-i.invariant.within c.requires.within

pub returns-in_err-carry_record : goal.returns-in_err-carry_record
returns-in_err-carry_record g c =
    let l = c.loop-i in
    let all = c.args.self.now.records.now in
    let e = c.in_err-carry_record.field-0.0 in
    let err : c.from_residual.result ≡ Err e = search rules in
    let is = putting_at g.D.Disk c.args.pages.now c.args.disk.now c.args.first all l.pages l.disk l.i l.invariant c.rec-item.result c.loop-i-test.true c.rec-item.is in
    record {
      puts = advances_as g.D.Disk c.args.pages.now c.carry_record.new.self c.args.disk.now c.carry_record.new.disk (Err e) c.from_residual.result _ _ _ (sym err)
          (putting_cut g.D.Disk c.args.pages.now c.args.disk.now c.args.first all l.pages l.disk (c.args.first + l.i) c.rec-item.result (drop (l.i + 1) all) is c.carry_record.new.self c.carry_record.new.disk e c.in_err-carry_record.ensures.puts);
    }

pub loop-i-preserved : goal.loop-i-preserved
loop-i-preserved g c =
    let l = c.loop-i in
    let all = c.args.self.now.records.now in
    let is = putting_at g.D.Disk c.args.pages.now c.args.disk.now c.args.first all l.pages l.disk l.i l.invariant c.rec-item.result c.loop-i-test.true c.rec-item.is in
    let same : (c.args.first + l.i) + 1 ≡ c.args.first + (l.i + 1) = omega arith in
    subst (λ n. IsPutting g.D.Disk c.args.pages.now c.carry_record.new.self c.args.disk.now c.carry_record.new.disk c.args.first all n (drop (l.i + 1) all)) same
    (putting_next g.D.Disk c.args.pages.now c.args.disk.now c.args.first all l.pages l.disk (c.args.first + l.i) c.rec-item.result (drop (l.i + 1) all) is c.carry_record.new.self c.carry_record.new.disk c.in_ok-carry_record.ensures.puts)

pub returns : goal.returns
returns g c =
    let l = c.loop-i in
    let all = c.args.self.now.records.now in
    let is = putting_past g.D.Disk c.args.pages.now c.args.disk.now c.args.first all l.pages l.disk l.i l.invariant c.loop-i-test.false in
    record { puts = putting_end g.D.Disk c.args.pages.now c.args.disk.now c.args.first all l.pages l.disk (c.args.first + l.i) is (λ told. g.met.D.Disk.only_now told l.disk) }
