use Rattle.std.proofs.Common.{◌≡◌, ◌<◌, length, Err, rules, sym, ap, arith}
use Rattle.std.proofs.lemmas.Bool.{eqb-false}
use Rattle.script_text.specs.Reader.{reading_of}
use Rattle.script_text.proofs.Lines.{lines-cut, goes_on, ends, number-next, length-after}
use Rattle.script_text.proofs.script.read_lines.Goals as goal

pub returns-in_err-read_line : goal.returns-in_err-read_line
returns-in_err-read_line c =
    let some : 0 < length c.loop-rest.rest.now = omega (arith, eqb-false _ _ (sym c.loop-rest-test.ensures)) in
    let cut = lines-cut c.loop-rest.rest.now c.cut_line.result.0.now c.cut_line.result.1.now some c.cut_line.ensures.line c.cut_line.ensures.rest in
    let err : c.from_residual.result ≡ Err c.in_err-read_line.field-0.0 = search rules in
    rw err (ends c.in_err-read_line.field-0.0 (reading_of c.loop-rest.reader) c.loop-rest.rest.now c.cut_line.result.0.now c.cut_line.result.1.now _ cut c.in_err-read_line.ensures c.loop-rest.invariant.same)

pub loop-rest-preserved : goal.loop-rest-preserved
loop-rest-preserved c =
    let some : 0 < length c.loop-rest.rest.now = omega (arith, eqb-false _ _ (sym c.loop-rest-test.ensures)) in
    let cut = lines-cut c.loop-rest.rest.now c.cut_line.result.0.now c.cut_line.result.1.now some c.cut_line.ensures.line c.cut_line.ensures.rest in
    record {
      same = goes_on (reading_of c.loop-rest.reader) (reading_of c.read_line.new.self) c.loop-rest.rest.now c.cut_line.result.0.now c.cut_line.result.1.now _ cut c.in_ok-read_line.ensures c.loop-rest.invariant.same;
      few = omega (arith, number-next (reading_of c.loop-rest.reader) (reading_of c.read_line.new.self) c.cut_line.result.0.now c.in_ok-read_line.ensures, length-after c.loop-rest.rest.now some, ap length c.cut_line.ensures.rest, c.loop-rest.invariant.few);
    }
