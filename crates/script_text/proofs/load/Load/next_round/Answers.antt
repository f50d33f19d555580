use Rattle.std.proofs.Common.{◌≡◌, ◌+◌, ◌∙◌, ap, sym, List, ◌++◌}
use Rattle.script_text.specs.declared.line.Line.{Line}
use Rattle.script_text.specs.declared.load.Round.{Round}
use Rattle.script_text.specs.Load.{round_lines}
use Rattle.script_text.specs.Loading.{lines_left}
use Rattle.script_text.proofs.LoadLaws.{rounds_next}
use Rattle.script_text.proofs.load.Load.next_round.Goals as goal

pub returns-clause-round : goal.returns-clause-round
returns-clause-round c =
    let old = c.args.self.now in
    let new = c.next.new.self in
    let next = c.next.ensures in
    rounds_next old.left new.left (old.made + 1) (new.made + 1) old.draws new.draws next.left (ap (λ n. n + 1) next.made) next.draws
    ∙ ap (λ (lines : List Line). lines ++ lines_left new) (sym (c.in_ok-round.ensures ∙ ap round_lines next.round))
