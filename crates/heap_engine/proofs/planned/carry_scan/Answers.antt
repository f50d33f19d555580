use Rattle.std.proofs.Common.{rules, ◌≡◌, ◌+◌, [], ◌∷◌, ◌++◌, Err, List, sym, ap, subst, ◌∙◌, arith}
use Rattle.std.specs.Prelude.{map}
use Rattle.log_records.specs.declared.copies.ObjectCopy.{ObjectCopy}
use Rattle.log_records.specs.declared.Record.{Record}
use Rattle.log_records.specs.declared.Record.TheVariants.{Scan}
use Rattle.log_records.specs.Record.{copy_record}
use Rattle.logged_pages.proofs.AdvanceLaws.{advances_as}
use Rattle.logged_pages.proofs.Putting.{IsPutting, next_inside, next_known, putting_cut, putting_next, putting_none}
use Rattle.logged_pages.specs.Advancing.{PutsAll}
use Rattle.page_scanner.specs.PageCopies.{copies_left}
use Rattle.page_scanner.specs.PageScan.{records_in}
use Rattle.heap_engine.proofs.planned.carry_scan.Goals as goal

pub carry_record-requires-clause-known : goal.carry_record-requires-clause-known
carry_record-requires-clause-known g c =
    let l = c.loop-copy in
    let scan = c.args.scan.now in
    let last = Scan scan.page scan.writes ∷ [] in
    let all = records_in scan in
    let is = subst (λ (cs : List ObjectCopy). IsPutting g.D.Disk c.args.pages.now l.pages c.args.disk.now l.disk c.args.first all l.lsn (map copy_record cs ++ last)) c.in-Some.ensures.steps l.invariant.putting in
    next_known g.D.Disk c.args.pages.now c.args.disk.now c.args.first all l.pages l.disk l.lsn (copy_record c.in-Some.copy) (map copy_record (copies_left c.next.new.self) ++ last) is c.requires.known

pub carry_record-requires-clause-inside : goal.carry_record-requires-clause-inside
carry_record-requires-clause-inside g c =
    let l = c.loop-copy in
    let scan = c.args.scan.now in
    let last = Scan scan.page scan.writes ∷ [] in
    let all = records_in scan in
    let is = subst (λ (cs : List ObjectCopy). IsPutting g.D.Disk c.args.pages.now l.pages c.args.disk.now l.disk c.args.first all l.lsn (map copy_record cs ++ last)) c.in-Some.ensures.steps l.invariant.putting in
    next_inside g.D.Disk c.args.pages.now c.args.disk.now c.args.first all l.pages l.disk l.lsn (copy_record c.in-Some.copy) (map copy_record (copies_left c.next.new.self) ++ last) is

pub carry_record-requires-clause-within : goal.carry_record-requires-clause-within
carry_record-requires-clause-within g c = c.loop-copy.invariant.putting.within c.requires.within

pub returns-in_err-carry_record : goal.returns-in_err-carry_record
returns-in_err-carry_record g c =
    let l = c.loop-copy in
    let scan = c.args.scan.now in
    let all = records_in scan in
    let last = Scan scan.page scan.writes ∷ [] in
    let rest = map copy_record (copies_left c.next.new.self) ++ last in
    let e = c.in_err-carry_record.field-0.0 in
    let err : c.from_residual.result ≡ Err e = search rules in
    let is = subst (λ (cs : List ObjectCopy). IsPutting g.D.Disk c.args.pages.now l.pages c.args.disk.now l.disk c.args.first all l.lsn (map copy_record cs ++ last)) c.in-Some.ensures.steps l.invariant.putting in
    record {
      puts = advances_as g.D.Disk c.args.pages.now c.carry_record.new.self c.args.disk.now c.carry_record.new.disk (Err e) c.from_residual.result _ _ _ (sym err)
          (putting_cut g.D.Disk c.args.pages.now c.args.disk.now c.args.first all l.pages l.disk l.lsn (copy_record c.in-Some.copy) rest is c.carry_record.new.self c.carry_record.new.disk e c.in_err-carry_record.ensures.puts);
    }

pub loop-copy-preserved : goal.loop-copy-preserved
loop-copy-preserved g c =
    let l = c.loop-copy in
    let scan = c.args.scan.now in
    let all = records_in scan in
    let last = Scan scan.page scan.writes ∷ [] in
    let rest = map copy_record (copies_left c.next.new.self) ++ last in
    let is = subst (λ (cs : List ObjectCopy). IsPutting g.D.Disk c.args.pages.now l.pages c.args.disk.now l.disk c.args.first all l.lsn (map copy_record cs ++ last)) c.in-Some.ensures.steps l.invariant.putting in
    record {
      can_next = tt;
      is_finite = tt;
      putting = putting_next g.D.Disk c.args.pages.now c.args.disk.now c.args.first all l.pages l.disk l.lsn (copy_record c.in-Some.copy) rest is c.carry_record.new.self c.carry_record.new.disk c.in_ok-carry_record.ensures.puts;
    }

pub returns : goal.returns
returns g c =
    let l = c.loop-copy in
    let scan = c.args.scan.now in
    let all = records_in scan in
    let last = Scan scan.page scan.writes ∷ [] in
    let is = subst (λ (cs : List ObjectCopy). IsPutting g.D.Disk c.args.pages.now l.pages c.args.disk.now l.disk c.args.first all l.lsn (map copy_record cs ++ last)) c.in-None.ensures.steps.0 l.invariant.putting in
    let puts = subst (λ (r : Record). PutsAll g.D.Disk l.pages c.carry_record-2.new.self l.disk c.carry_record-2.new.disk c.carry_record-2.result l.lsn (r ∷ [])) c.record.ensures c.carry_record-2.ensures.puts in
    record { puts = is.rest c.carry_record-2.new.self c.carry_record-2.new.disk c.carry_record-2.result puts }
