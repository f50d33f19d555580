use Rattle.std.proofs.Common.{ap, sym, ◌∙◌}
use Rattle.log_records.specs.Record.{spelling}
use Rattle.log_records.proofs.Fields.{appended}
use Rattle.log_records.proofs.encoding.encode.Goals as goal

pub returns-in-Update-clause-ok : goal.returns-in-Update-clause-ok
returns-in-Update-clause-ok c =
    appended c.extend_from_slice.result c.args.into.now.items c.extend_from_slice.new.self.items c.update_bytes.result (spelling c.args.rec.now) c.extend_from_slice.ensures.items (c.update_bytes.ensures ∙ sym (ap spelling c.in-Update.is))

pub returns-in-Undo-clause-ok : goal.returns-in-Undo-clause-ok
returns-in-Undo-clause-ok c =
    appended c.extend_from_slice-in-Undo.result c.args.into.now.items c.extend_from_slice-in-Undo.new.self.items c.put_bytes-in-Undo.result (spelling c.args.rec.now) c.extend_from_slice-in-Undo.ensures.items (c.put_bytes-in-Undo.ensures ∙ sym (ap spelling c.in-Undo.is))

pub returns-in-Fix-clause-ok : goal.returns-in-Fix-clause-ok
returns-in-Fix-clause-ok c =
    appended c.extend_from_slice-in-Fix.result c.args.into.now.items c.extend_from_slice-in-Fix.new.self.items c.put_bytes.result (spelling c.args.rec.now) c.extend_from_slice-in-Fix.ensures.items (c.put_bytes.ensures ∙ sym (ap spelling c.in-Fix.is))
