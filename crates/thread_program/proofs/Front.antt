-- What is written of texts, one after the other.
use Rattle.std.proofs.Common.{ℕ, List, Result, Ok, Err}
use Rattle.std.specs.Result.{IsErr}
use Rattle.heap_program.specs.declared.output.WriteError.{WriteError}
use Rattle.heap_program.specs.Output.{WroteText}
use Rattle.heap_program.specs.Play.{WroteFront}

-- a prefix was written before an error
pub front_wrote : (r : Result (Unit {0}) WriteError) (before text after : List ℕ) → IsErr r → WroteFront before text after → WroteText r before text after
front_wrote (Ok done) before text after failed front = cc
front_wrote (Err e) before text after failed front = front
