use Rattle.std.proofs.Common.{◌≡◌, ◌∙◌, None, Some, map, string_bytes, sym, ap}
use Rattle.std.specs.Result.{result_ok}
use Rattle.std.proofs.lemmas.Result.{IfOk-weaker}
use Rattle.clap.specs.Matches.{found_of, subcommand_name_of}
use Rattle.clap.specs.Simple.{app_of}
use Rattle.clap.specs.Walk.{rows_of}
use Rattle.clap.specs.Values.{kind_of}
use Rattle.command_words.specs.Command.{command, error_of}
use Rattle.command_words.proofs.LimitLaws.{command_within}
use Rattle.command_words.proofs.SpellLaws.{none_not_taken, spelled_taken}
use Rattle.command_words.specs.declared.commands.CommandError.TheVariants.{Usage}
use Rattle.command_words.proofs.WordsRead.{fault_is_none, has_fault, met_is, met_none, met_some, no_fault, read_of}
use Rattle.command_words.proofs.read.read_command.Goals as goal

pub returns-in_err-matches-clause-usage : goal.returns-in_err-matches-clause-usage
returns-in_err-matches-clause-usage c = λ usage.
    let has = has_fault (app_of c.in_ok-program.field-0) (map string_bytes c.args.words.now) c.in_err-matches.field-0.0 c.in_ok-program.ensures c.in_err-matches.ensures.kinds in
    let given : Usage ≡ error_of (kind_of c.in_err-matches.field-0.0) = rw usage at c.from_residual-in_err-matches.ensures.1 in
    fault_is_none (map string_bytes c.args.words.now) c.in_err-matches.field-0.0 has (sym given)

pub returns-in_err-name-clause-usage : goal.returns-in_err-name-clause-usage
returns-in_err-name-clause-usage c = λ usage.
    let faultless = no_fault (app_of c.in_ok-program.field-0) (map string_bytes c.args.words.now) c.in_ok-program.ensures c.in_ok-matches.ensures.kinds in
    let met = met_is (app_of c.in_ok-program.field-0) (map string_bytes c.args.words.now) c.in_ok-matches.matches c.in_ok-program.ensures c.in_ok-matches.ensures.matches in
    let none : c.subcommand.result ≡ None = c.ok_or.ensures.ok_part ∙ ap result_ok c.in_err-name.was in
    let unnamed : None ≡ subcommand_name_of c.in_ok-matches.matches = rw none at c.subcommand.ensures.name in
    met_none (map string_bytes c.args.words.now) c.in_ok-matches.matches faultless met unnamed

pub returns-clause-read : goal.returns-clause-read
returns-clause-read c =
    let faultless = no_fault (app_of c.in_ok-program.field-0) (map string_bytes c.args.words.now) c.in_ok-program.ensures c.in_ok-matches.ensures.kinds in
    let met = met_is (app_of c.in_ok-program.field-0) (map string_bytes c.args.words.now) c.in_ok-matches.matches c.in_ok-program.ensures c.in_ok-matches.ensures.matches in
    let named : Some c.in_ok-name.name.now ≡ subcommand_name_of c.in_ok-matches.matches = rw c.in_ok-name.ensures.ok_part at c.subcommand.ensures.name in
    let held = rw c.in_ok-name.ensures.ok_part at c.subcommand.ensures.rows in
    let is = met_some (map string_bytes c.args.words.now) c.in_ok-matches.matches c.in_ok-name.name.now (rows_of (found_of c.in_ok-name.found.now))
    faultless met named held in
    read_of (command (map string_bytes c.args.words.now)) c.ok_or-2.result (is ∙ sym c.read_matches.ensures ∙ c.ok_or-2.ensures.ok_part)

pub returns-clause-usage : goal.returns-clause-usage
returns-clause-usage c = λ usage.
    let faultless = no_fault (app_of c.in_ok-program.field-0) (map string_bytes c.args.words.now) c.in_ok-program.ensures c.in_ok-matches.ensures.kinds in
    let met = met_is (app_of c.in_ok-program.field-0) (map string_bytes c.args.words.now) c.in_ok-matches.matches c.in_ok-program.ensures c.in_ok-matches.ensures.matches in
    let named : Some c.in_ok-name.name.now ≡ subcommand_name_of c.in_ok-matches.matches = rw c.in_ok-name.ensures.ok_part at c.subcommand.ensures.name in
    let held = rw c.in_ok-name.ensures.ok_part at c.subcommand.ensures.rows in
    let is = met_some (map string_bytes c.args.words.now) c.in_ok-matches.matches c.in_ok-name.name.now (rows_of (found_of c.in_ok-name.found.now))
    faultless met named held in
    is ∙ sym c.read_matches.ensures ∙ c.ok_or-2.ensures.ok_part ∙ ap result_ok usage

pub returns-in_err-matches-clause-refused : goal.returns-in_err-matches-clause-refused
returns-in_err-matches-clause-refused c = λ usage. none_not_taken (map string_bytes c.args.words.now) (returns-in_err-matches-clause-usage c usage)

pub returns-in_err-name-clause-refused : goal.returns-in_err-name-clause-refused
returns-in_err-name-clause-refused c = λ usage. none_not_taken (map string_bytes c.args.words.now) (returns-in_err-name-clause-usage c usage)

pub returns-clause-taken : goal.returns-clause-taken
returns-clause-taken c = IfOk-weaker c.ok_or-2.result _ _ (λ r spelled. spelled_taken (map string_bytes c.args.words.now) r spelled) (returns-clause-read c)

pub returns-clause-refused : goal.returns-clause-refused
returns-clause-refused c = λ usage. none_not_taken (map string_bytes c.args.words.now) (returns-clause-usage c usage)

pub returns-clause-limits : goal.returns-clause-limits
returns-clause-limits c = IfOk-weaker c.ok_or-2.result _ _ (λ r spelled. command_within (map string_bytes c.args.words.now) r spelled) (returns-clause-read c)
