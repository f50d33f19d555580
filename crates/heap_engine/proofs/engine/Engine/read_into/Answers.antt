use Rattle.std.proofs.Common.{refl, sym, ap, ◌∙◌, Some, None}
use Rattle.heap_words.specs.declared.Word.TheVariants.{Null, Int}
use Rattle.heap_engine.specs.EngineState.{memory}
use Rattle.heap_engine.proofs.Left.{reads_nothing}
use Rattle.heap_engine.proofs.engine.Engine.read_into.Goals as goal

pub returns-in-Some-Int-clause-left : goal.returns-in-Some-Int-clause-left
returns-in-Some-Int-clause-left c =
    reads_nothing (memory c.args.self.now) c.args.session c.args.h _ (Some (Int c.in-Some-Int.v)) (sym c.decode.ensures.read ∙ c.in-Some-Int.is ∙ ap Some c.in-Some-Int.field-0-is) (λ t. refl)

pub returns-in-Some-Null-clause-left : goal.returns-in-Some-Null-clause-left
returns-in-Some-Null-clause-left c =
    reads_nothing (memory c.args.self.now) c.args.session c.args.h _ (Some Null) (sym c.decode.ensures.read ∙ c.in-Some-Null.is ∙ ap Some c.in-Some-Null.field-0-is) (λ t. refl)

pub returns-in-None-clause-left : goal.returns-in-None-clause-left
returns-in-None-clause-left c =
    reads_nothing (memory c.args.self.now) c.args.session c.args.h _ None (sym c.decode.ensures.read ∙ c.in-None.is) (λ t. refl)
