use Rattle.std.proofs.Common.{rules, ap, sym, ◌∙◌, arith}
use Rattle.turn_lock.specs.TwinPasses.{first_of}
use Rattle.twin_ledger.proofs.Mirrors.{copied_on, failed_on}
use Rattle.twin_ledger.proofs.posting.copy_shown.Goals as goal

pub put_device-requires-clause-beside : goal.put_device-requires-clause-beside
put_device-requires-clause-beside g c = let held = c.wait_device-held.ensures in let works = c.copy.ensures.works c.if-copy.true in (
  c.wait_device-held.result.device,
  held.device.0,
  copied_on _ c.args.shown.items (first_of c.args.lock.now) c.wait_device-held.result.device c.copy.new.self _ (c.requires.shown.seen ∙ sym (ap (λ v. v.seen) held.value.0.view)) works.0 works.1
      (c.copy.ensures.copied c.if-copy.true),
)

pub put_device-requires-else-copy-clause-beside : goal.put_device-requires-else-copy-clause-beside
put_device-requires-else-copy-clause-beside g c = let fails = c.copy.ensures.fails c.if-copy.false in
    (c.wait_device-held.result.device, c.wait_device-held.ensures.device.0, failed_on _ c.wait_device-held.result.device c.copy.new.self _ fails.0 fails.1)

pub returns-else-copy-clause-owing : goal.returns-else-copy-clause-owing
returns-else-copy-clause-owing g c =
    let held = c.wait_device-held.ensures in let put = c.put_device-else-copy.ensures in let fails = c.copy.ensures.fails c.if-copy.false in (
      record {
        of_lock = search rules;
        at_rest = record {
          value = ap (λ v. v.stage) (put.value.view ∙ held.value.0.view) ∙ c.requires.shown.value;
          device = put.passed.0;
          slots = search rules;
        };
        owes_is = put.saw.1;
        saw = λ _. (_, put.saw.0, fails.1);
      },
      omega arith,
    )
