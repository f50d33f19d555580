use Rattle.std.proofs.Common.{rules, ◌≡◌, ◌%◌, [], ap, sym, ◌∙◌, append-nil}
use Rattle.turn_lock.specs.TwinPasses.{owes_of}
use Rattle.twin_ledger.proofs.Mirrors.{posting}
use Rattle.twin_ledger.proofs.posting.show.Goals as goal

pub raise-requires-clause-beside : goal.raise-requires-clause-beside
raise-requires-clause-beside g c = let owes : owes_of c.queue_device-ticket.new.pass ≡ 0 = search rules in
    (c.wait-held.result.value, c.queue_device-ticket.ensures.value.own ∙ c.wait-held.ensures.own, posting _ c.wait-held.result.value c.pass.new.self [] _ 0 (ap (λ v. v.items) c.pass.ensures.passed.0 ∙ sym (append-nil _)) c.pass.ensures.same.2 owes)

pub raise-requires-in-Err-clause-beside : goal.raise-requires-in-Err-clause-beside
raise-requires-in-Err-clause-beside g c = let owes : owes_of c.wait-held.new.pass ≡ 0 = search rules in
    (c.wait-held.result.value, c.wait-held.ensures.own, posting _ c.wait-held.result.value c.pass.new.self [] _ 0 (ap (λ v. v.items) c.pass.ensures.passed.0 ∙ sym (append-nil _)) c.pass.ensures.same.2 owes)

pub returns-in-Ok-clause-shown : goal.returns-in-Ok-clause-shown
returns-in-Ok-clause-shown g c =
    let put = c.put.ensures in let raised = c.raise.ensures in let queued = c.queue_device-ticket.ensures in
    let view = put.device.0.view ∙ raised.device.0.view in
    let shown : c.extend_from_slice-copied.new.self.items ≡ c.wait-held.result.value.posts.items = search rules in record {
      of_lock = search rules;
      value = put.passed.0;
      slots = put.passed.1;
      waits = record { device = ap (λ v. v.stage) view ∙ queued.pass.1.device; ticket_is = queued.pass.1.ticket_is ∙ ap (λ v. v.ticket % 18446744073709551616) (sym view) };
      seen = shown ∙ (ap (λ v. v.items) (sym c.pass.ensures.passed.0) ∙ (raised.pass.1.entries_are ∙ sym put.seen.0));
      nothing = put.device.1 ∙ raised.device.1;
    }
