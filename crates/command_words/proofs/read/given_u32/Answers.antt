use Rattle.std.proofs.Common.{◌∙◌}
use Rattle.std.specs.Str.Parse.{ParsesUnsigned, ExplainsUnsignedError, HasUnsignedDigitsIfOk}
use Rattle.command_words.proofs.NumberRead.{given_is}
use Rattle.command_words.proofs.read.given_u32.Goals as goal

pub returns : goal.returns
returns c =
    c.ok.ensures.value
    ∙ given_is (λ bs r. ParsesUnsigned 32 10 bs r × ExplainsUnsignedError 10 bs r × HasUnsignedDigitsIfOk bs r) 32 c.args.found.now c.args.id.now c.try_get_one.result
    (λ text x gives. gives.0) c.try_get_one.ensures.none c.try_get_one.ensures.value
