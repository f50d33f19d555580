-- The object's address is within the largest heap, and so is the one to which it went.
use Rattle.std.proofs.Common.{◌<◌, ℕ, sym, subst}
use Rattle.heap_words.specs.Word.{IsWord}
use Rattle.relocation.proofs.RelocationLaws.{moved_to-within}
use Rattle.relocation.proofs.translated_word.Goals as goal

pub encode-requires : goal.encode-requires
encode-requires c =
    let Within : ℕ → Type 0 = λ a. a < 2097152 in
    subst Within (sym c.moved_to.ensures) (moved_to-within c.args.pairs.now c.in-Some-Stable.address c.requires (subst IsWord c.in-Some-Stable.field-0-is c.in-Some-Stable.ensures.found.0))
