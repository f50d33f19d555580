use Rattle.std.proofs.Common.{◌≡◌, ◌∙◌, ap, ap₂, rules, true, codes}
use Rattle.std.proofs.lemmas.Result.{IfOk-weaker}
use Rattle.clap.specs.Simple.{App, Shape, app_of, new_app, on_top, shape_of, with_subcommand}
use Rattle.command_words.specs.Table.{graph_row, program}
use Rattle.command_words.proofs.grammar.program.Goals as goal

abbrev settings : App → App
settings = on_top (λ (s : Shape). record s { disable_help_flag = true; disable_help_subcommand = true; disable_version_flag = true; subcommand_required = true })

pub returns : goal.returns
unfolding program
returns c =
    let top_is : app_of c.subcommand_required.result ≡ settings (app_of c.new.result) = search rules in
    let named : app_of c.subcommand_required.result ≡ settings (new_app (codes "heap")) = top_is ∙ ap settings c.new.ensures.app in
    let formats = c.in_ok-subcommand.ensures.shape (search rules) ∙ ap₂ with_subcommand named c.in_ok-format_command.ensures.row in
    let plays = c.in_ok-subcommand-2.ensures.shape (search rules) ∙ ap₂ with_subcommand formats c.in_ok-play_command.ensures.row in
    let threads = c.in_ok-subcommand-3.ensures.shape (search rules) ∙ ap₂ with_subcommand plays c.in_ok-threads_command.ensures.row in
    let graph_is : shape_of c.new-2.result ≡ graph_row = ap (λ (a : App). a.top) c.new-2.ensures.app in
    let graphs = c.in_ok-subcommand-4.ensures.shape (search rules) ∙ ap₂ with_subcommand threads graph_is in
    IfOk-weaker c.subcommand-5.result _ _ (λ r h. h.shape (search rules) ∙ ap₂ with_subcommand graphs c.in_ok-load_command.ensures.row) c.subcommand-5.ensures
