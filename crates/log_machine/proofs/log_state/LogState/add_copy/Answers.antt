use Rattle.std.proofs.Common.{◌≡◌, ◌∷◌, [], true, is_some, length, slice_index, refl, sym, ap, ◌∙◌, subst}
use Rattle.heap_spaces.specs.declared.collection.CopiedObject.{CopiedObject}
use Rattle.heap_spaces.specs.Copying.{with_copies}
use Rattle.log_records.specs.declared.copies.ObjectCopy.{ObjectCopy}
use Rattle.log_machine.specs.Machine.{State}
use Rattle.log_machine.specs.Collecting.{copy_after}
use Rattle.log_machine.proofs.CopyRows.{consistent_added, one_copied}
use Rattle.log_machine.proofs.log_state.LogState.add_copy.Goals as goal

pub invariant_of-self-in-Some : goal.invariant_of-self-in-Some
invariant_of-self-in-Some c =
    let copy : ObjectCopy = record { from = c.args.from; to = c.args.to; words = c.args.words.now } in
    let object : CopiedObject = record { from = c.args.from; to = c.args.to; header = slice_index c.args.words.now 0; words = length c.args.words.now } in
    let follows = subst (λ (s : State). is_some (copy_after s copy) ≡ true) (sym c.self.view_is) c.requires in
    let moved = c.in_ok-add_copies.ensures.ok ∙ ap (λ (o : CopiedObject). with_copies c.in-Some.collection (o ∷ [])) c.copied_object.ensures ∙ one_copied c.in-Some.collection object c.args.words.now refl in
    consistent_added _ c.in-Some.collection c.add_copies.new.self copy _ c.self.invariant c.in-Some.is follows moved refl
