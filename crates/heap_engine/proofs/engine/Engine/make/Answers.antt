use Rattle.std.proofs.Common.{◌≡◌, ℕ, ◌+◌, ◌<◌, length, Option, Some, Err, is_some, refl, sym, ap, ◌∙◌, subst, arith}
use Rattle.std.specs.Prelude.{IsSomeAnd}
use Rattle.std.proofs.lemmas.Option.{same_Some}
use Rattle.graph_model.specs.declared.reply.Reply.TheVariants.{Done, Refused}
use Rattle.graph_model.specs.declared.reply.Refusal.TheVariants.{VolatileFull}
use Rattle.graph_model.specs.Plain.{reply_of}
use Rattle.logged_pages.specs.State.{log_of, pages_in_memory}
use Rattle.volatile_area.specs.Area.{with_object}
use Rattle.txn_table.specs.declared.place.Place.TheVariants.{Volatile}
use Rattle.txn_table.specs.Table.{TransactionState, transaction_of, with_transaction}
use Rattle.txn_table.proofs.TableLaws.{with_transaction_twice}
use Rattle.heap_memory.specs.Leaves.{with_handle, with_made}
use Rattle.heap_engine.proofs.Left.{adds_nothing}
use Rattle.heap_engine.proofs.Made.{area_room, can_refer_made, new_granted, new_full}
use Rattle.heap_engine.proofs.Tables.{there, told, turned, granted, still_active, sound_area, sound_handle}
use Rattle.heap_engine.proofs.engine.Engine.make.Goals as goal

-- the transaction with one more object
abbrev with_new : ℕ → TransactionState → TransactionState
with_new len t = record t { area = with_object t.area len }

pub set_handle-requires-clause-active : goal.set_handle-requires-clause-active
set_handle-requires-clause-active c =
    let old = c.args.self.now in
    let some = granted _ c.args.h (sym c.handle_refusal.ensures ∙ c.in_default.is) in
    still_active old.table c.new_object.new.self c.args.session (with_new c.args.len) some c.in-Ok.ensures.made

pub invariant_of-self-clause-sound : goal.invariant_of-self-clause-sound
invariant_of-self-clause-sound c =
    let old = c.args.self.now in
    let s = c.args.session in
    let some = granted _ c.args.h (sym c.handle_refusal.ensures ∙ c.in_default.is) in
    let mid = still_active old.table c.new_object.new.self s (with_new c.args.len) some c.in-Ok.ensures.made in
    let t = there (transaction_of old.table s) some in
    let room = area_room (transaction_of old.table s) t.0 c.new_object.result c.in-Ok.object c.args.len t.1 c.in-Ok.is c.new_object.ensures.full in
    let index = told (transaction_of old.table s) t.0 (λ v. c.in-Ok.object ≡ length v.area.words) t.1 c.in-Ok.ensures.index in
    let made = sound_area old.table c.new_object.new.self (length (pages_in_memory old.pages).words) old.reserved old.sealed s (λ area. with_object area c.args.len) old.sound some c.in-Ok.ensures.made in
    sound_handle c.new_object.new.self c.set_handle.new.self (length (pages_in_memory old.pages).words) old.reserved old.sealed s c.args.h (Some (Volatile c.in-Ok.object)) made mid c.set_handle.ensures
    (can_refer_made c.in-Ok.object (omega (arith, room, index)))

pub returns-in-Ok-clause-reply : goal.returns-in-Ok-clause-reply
returns-in-Ok-clause-reply c =
    let o = transaction_of c.args.self.now.table c.args.session in
    let handle = sym c.handle_refusal.ensures ∙ c.in_default.is in
    let t = there o (granted o c.args.h handle) in
    let room = area_room o t.0 c.new_object.result c.in-Ok.object c.args.len t.1 c.in-Ok.is c.new_object.ensures.full in
    sym (ap (λ why. reply_of why Done) (new_granted o t.0 c.args.h c.args.len t.1 handle c.if-len-gt-MOST_FIELDS.false room))

pub returns-in-Ok-clause-done : goal.returns-in-Ok-clause-done
returns-in-Ok-clause-done c is =
    let old = c.args.self.now in
    let s = c.args.session in
    let some = granted _ c.args.h (sym c.handle_refusal.ensures ∙ c.in_default.is) in
    let d = turned old.table c.new_object.new.self s (with_new c.args.len) some c.in-Ok.ensures.made in
    let change : TransactionState → TransactionState = λ t. with_handle t c.args.h (Some (Volatile c.in-Ok.object)) in
    let e = turned c.new_object.new.self c.set_handle.new.self s change (ap is_some d.now) c.set_handle.ensures in
    let t = d.transaction in
    let index = told (transaction_of old.table s) t (λ v. c.in-Ok.object ≡ length v.area.words) d.was c.in-Ok.ensures.index in
    let between : Some e.transaction ≡ Some (with_new c.args.len t) = sym e.was ∙ d.now in
    let now : change e.transaction ≡ with_made t c.args.h c.args.len =
    ap change (same_Some _ _ between) ∙ ap (λ (n : ℕ). with_handle (with_new c.args.len t) c.args.h (Some (Volatile n))) index in
    record {
      transaction = t;
      was = d.was;
      left = record {
        log = adds_nothing (log_of old.pages);
        words = refl;
        lsns = refl;
        store = refl;
        table = e.is ∙ (λ i. with_transaction (d.is i) s (now i)) ∙ with_transaction_twice old.table s (with_new c.args.len t) (with_made t c.args.h c.args.len);
        locks = refl;
        spaces = refl;
        collection = refl;
        sealed = refl;
      };
    }

pub returns-in-Err-VolatileFull-clause-reply : goal.returns-in-Err-VolatileFull-clause-reply
returns-in-Err-VolatileFull-clause-reply c =
    let o = transaction_of c.args.self.now.table c.args.session in
    let arm = c.in-Err-VolatileFull in
    let handle = sym c.handle_refusal.ensures ∙ c.in_default.is in
    let t = there o (granted o c.args.h handle) in
    let full = (c.new_object.ensures.full arm.used).0 (arm.is ∙ ap Err arm.field-0-is) in
    let is : (arm.used ≡ length t.0.area.words) × (4096 < arm.used + 2 + c.args.len) =
    subst (λ (p : Option TransactionState). IsSomeAnd p (λ v. (arm.used ≡ length v.area.words) × (4096 < arm.used + 2 + c.args.len))) t.1 full in
    let refusal = new_full o t.0 c.args.h c.args.len t.1 handle c.if-len-gt-MOST_FIELDS.false (omega (arith, is.0, is.1)) in
    c.refused-in-Err-VolatileFull.ensures ∙ ap (λ (n : ℕ). Refused (VolatileFull n)) (c.from.ensures ∙ arm.used-is ∙ is.0) ∙ sym (ap (λ why. reply_of why Done) refusal)
