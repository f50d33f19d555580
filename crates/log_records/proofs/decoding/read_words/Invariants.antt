use Rattle.std.proofs.Common.{◌≡◌, ◌*◌, ◌^◌, ◌<◌, ◌++◌, drop, length, vec_len}
use Rattle.std.specs.List.{AllByRecursion}
use Rattle.log_records.specs.Copies.{word_bytes}
use Rattle.log_records.proofs.decoding.read_words.Given as goal

-- the words so far are spelled in front of the rest
abbrev pub invariant-loop-i : goal.invariant-loop-i
invariant-loop-i l = record {
  count : length l.words.items ≡ l.i;
  len : vec_len l.words ≡ l.i;
  fit : AllByRecursion (λ w. w < 2 ^ 64) l.words.items;
  read : l.bytes ≡ word_bytes l.words.items ++ drop (8 * l.i) l.bytes;
}
