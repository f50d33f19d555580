use Rattle.std.proofs.Common.{◌≡◌, length, Option, sym, ap, ◌∙◌, subst, arith}
use Rattle.std.specs.Prelude.{IsSomeAnd}
use Rattle.logged_pages.specs.State.{pages_in_memory}
use Rattle.volatile_area.specs.Area.{HasField, with_field}
use Rattle.txn_table.specs.Table.{TransactionState, transaction_of}
use Rattle.heap_memory.specs.Memory.{fields_at}
use Rattle.heap_engine.proofs.Tables.{there, told, sound_area}
use Rattle.heap_engine.proofs.ObjectFields.{held_few, own_has}
use Rattle.heap_engine.proofs.engine.Engine.write.Goals as goal

pub overflow_cast-i : goal.overflow_cast-i
overflow_cast-i g c =
    let s = c.args.self.now in
    omega (arith, c.if-i-fields.false, held_few (transaction_of s.table c.args.session) (pages_in_memory s.pages).words c.args.place c.fields.result.now c.requires.active c.fields.ensures)

pub overflow_cast-i-in-Volatile : goal.overflow_cast-i-in-Volatile
overflow_cast-i-in-Volatile g c =
    let s = c.args.self.now in
    omega (arith, c.if-i-fields.false, held_few (transaction_of s.table c.args.session) (pages_in_memory s.pages).words c.args.place c.fields.result.now c.requires.active c.fields.ensures)

pub set_field-requires-clause-there : goal.set_field-requires-clause-there
set_field-requires-clause-there g c =
    let s = c.args.self.now in
    let o = transaction_of s.table c.args.session in
    let t = there o c.requires.active in
    let is = told o t.0 (λ v. c.fields.result.now ≡ fields_at (pages_in_memory s.pages).words v.area c.args.place) t.1 c.fields.ensures in
    let long = ap length (is ∙ ap (fields_at (pages_in_memory s.pages).words t.0.area) c.in-Volatile.is) in
    let has = own_has t.0.area c.in-Volatile.at c.args.i (omega (arith, c.if-i-fields.false, long)) in
    subst (λ (p : Option TransactionState). IsSomeAnd p (λ v. HasField v.area c.in-Volatile.at c.args.i)) (sym t.1) has

pub invariant_of-self-clause-sound : goal.invariant_of-self-clause-sound
invariant_of-self-clause-sound g c =
    let s = c.args.self.now in
    sound_area s.table c.set_field.new.self (length (pages_in_memory s.pages).words) s.reserved s.sealed c.args.session (λ area. with_field area c.in-Volatile.at c.args.i c.encode-in-Volatile.result) s.sound c.requires.active c.set_field.ensures
