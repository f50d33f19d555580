use Rattle.std.specs.Prelude.{IsTrue, ◌↔◌, ◌≢◌, [], MatchOption}
use Rattle.std.proofs.Common.{Bool, Option, sym, subst}
use Rattle.heap_core.specs.declared.in_memory.Failure.{Failure}
use Rattle.memory_laws.proofs.Kept.Log.{some_waits}
use Rattle.heap_core.proofs.in_memory.HeapCore.pending.Goals as goal

pub returns-in-Some : goal.returns-in-Some
returns-in-Some c core heap =
    let P : Option Failure → Type 0 = λ o. MatchOption o (Unit {0}) (λ failure. IsTrue failure.pending ↔ (core.pending ≢ [])) in
    subst P c.in-Some.is heap.memory.pending

pub returns-in-None : goal.returns-in-None
returns-in-None c core heap =
    subst (λ (b : Bool). IsTrue b ↔ (core.pending ≢ [])) (sym c.pending.ensures) (some_waits _ core.batches core.pending (heap.engine c.in-None.is).log)
