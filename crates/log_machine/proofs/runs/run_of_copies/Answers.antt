use Rattle.std.proofs.Common.{ℕ, ◌/◌, ◌%◌, List, length, ap, sym, ◌∙◌, refl}
use Rattle.std.specs.Prelude.{slice_get, option_and_then}
use Rattle.std.proofs.lemmas.Bool.{ltb-false, ltb-true}
use Rattle.std.proofs.lemmas.Option.{slice_get_past, slice_get_read}
use Rattle.log_records.specs.declared.copies.ObjectCopy.{ObjectCopy}
use Rattle.log_machine.specs.Runs.{copy_runs}
use Rattle.log_machine.proofs.RunLaws.{copies_at}
use Rattle.log_machine.proofs.runs.run_of_copies.Goals as goal

pub returns-in_err-copy-clause-run : goal.returns-in_err-copy-clause-run
returns-in_err-copy-clause-run c =
    let none = slice_get_past c.args.copies.now (c.args.i / 2) (ltb-false (c.args.i / 2) (length c.args.copies.now) (sym c.in_err-copy.ensures.lookup.0)) in
    c.from_residual.ensures
    ∙ sym (copies_at c.args.copies.now c.args.i ∙ ap (option_and_then (λ (k : ObjectCopy). slice_get (copy_runs k.from k.to k.words) (c.args.i % 2))) none)

pub returns-clause-run : goal.returns-clause-run
returns-clause-run c =
    let copy = c.in_ok-copy.copy.now in
    let some = slice_get_read c.args.copies.now (length c.args.copies.now) (c.args.i / 2) copy refl (ltb-true (c.args.i / 2) (length c.args.copies.now) (sym c.in_ok-copy.ensures.lookup.0)) c.in_ok-copy.ensures.lookup.1 in
    c.run_of_copy.ensures.run
    ∙ ap (λ (l : List ℕ). slice_get (copy_runs copy.from copy.to l) (c.args.i % 2)) c.as_slice.ensures
    ∙ sym (copies_at c.args.copies.now c.args.i ∙ ap (option_and_then (λ (k : ObjectCopy). slice_get (copy_runs k.from k.to k.words) (c.args.i % 2))) some)
