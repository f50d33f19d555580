use Rattle.std.proofs.Common.{◌≡◌, ◌+◌, ◌≤◌, length, fold, Ok}
use Rattle.script_text.specs.Reader.{reading_of}
use Rattle.script_text.specs.Script.{lines, start, take_line}
use Rattle.script_text.proofs.script.read_lines.Given as goal

-- the lines that are left lead to the same end, and each of those read had a byte or a newline
abbrev pub invariant-loop-rest : goal.invariant-loop-rest
invariant-loop-rest l = record {
  same : fold take_line (Ok (reading_of l.reader)) (lines l.rest) ≡ fold take_line (Ok start) (lines l.bytes);
  few : l.reader.number + length l.rest ≤ length l.bytes + 1;
}

abbrev pub decreases-loop-rest : goal.decreases-loop-rest
decreases-loop-rest l = length l.rest
