use Rattle.std.specs.Str.Parse.{ParsesUnsigned, ExplainsUnsignedError, HasUnsignedDigitsIfOk}
use Rattle.command_words.proofs.NumberRead.{number_is}
use Rattle.command_words.proofs.read.read_u32.Goals as goal

pub returns : goal.returns
returns c =
    number_is (λ bs r. ParsesUnsigned 32 10 bs r × ExplainsUnsignedError 10 bs r × HasUnsignedDigitsIfOk bs r) 32 c.args.found.now c.args.id.now c.get_one.result
    (λ text x gives. gives.0) c.get_one.ensures.none c.get_one.ensures.value
