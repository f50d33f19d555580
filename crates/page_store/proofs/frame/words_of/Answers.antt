use Rattle.std.proofs.Common.{◌≡◌, ◌-◌, ◌*◌, ◌<◌, ℕ, take, drop, length, get_or, ◌∙◌, ap, arith}
use Rattle.std.proofs.lemmas.List.{take_rest}
use Rattle.byteorder.specs.Endian.{little_number}
use Rattle.page_store.specs.Frame.{spelled_words}
use Rattle.page_store.proofs.WordLaws.{words_in-each}
use Rattle.page_store.proofs.frame.words_of.Goals as goal

pub returns : goal.returns
returns c =
    let frame = c.args.frame.now in
    let read = c.read_u64_into.new.dst in
    let size : length read ≡ 64 = c.read_u64_into.auto.dst in
    let each : (k : ℕ) → k < 64 → get_or read k 0 ≡ little_number 8 (drop (8 * k) (take (length frame - 16) (drop 16 frame))) = λ k below. c.read_u64_into.ensures k (omega (arith, size)) in
    words_in-each 64 _ read size each ∙ ap (spelled_words 64) (take_rest frame 16)
