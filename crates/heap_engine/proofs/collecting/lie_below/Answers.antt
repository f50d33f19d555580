use Rattle.std.proofs.Common.{◌≡◌, ℕ, List, length, take, refl, sym, subst, arith}
use Rattle.std.proofs.Math.Seq.{take-length}
use Rattle.log_machine.specs.declared.UndoEntry.{UndoEntry}
use Rattle.log_machine.specs.Translation.{translated_list}
use Rattle.log_machine.specs.UndoEntry.{undo_entry}
use Rattle.heap_engine.specs.Reserve.{WroteBelow}
use Rattle.heap_engine.proofs.FlipAlong.{along_more, along_at}
use Rattle.heap_engine.proofs.collecting.lie_below.Goals as goal

pub loop-object-preserved : goal.loop-object-preserved
loop-object-preserved c =
    let none : UndoEntry = undo_entry 0 0 0 in
    along_more c.args.end c.args.pairs.now c.args.entries.now c.loop-object.object-index none c.loop-object-test.true c.loop-object.invariant (omega arith)

pub returns : goal.returns
returns c =
    let last : c.loop-object.object-index ≡ length c.args.entries.now = omega arith in
    let all : take c.loop-object.object-index c.args.entries.now ≡ c.args.entries.now = subst (λ (n : ℕ). take n c.args.entries.now ≡ c.args.entries.now) (sym last) (take-length c.args.entries.now) in
    (λ yes. subst (λ (us : List UndoEntry). WroteBelow c.args.end (translated_list c.args.pairs.now us)) all c.loop-object.invariant, λ below. refl)

pub returns-then-address-from : goal.returns-then-address-from
returns-then-address-from c =
    let none : UndoEntry = undo_entry 0 0 0 in
    (λ no. absurd (cc no), λ below. absurd (omega (arith, along_at c.args.end c.args.pairs.now c.args.entries.now c.loop-object.object-index none c.loop-object-test.true below)))
