use Rattle.std.proofs.Common.{◌++◌, ap, ◌∙◌}
use Rattle.std.specs.Prelude.{is_some}
use Rattle.netcalc_cli.specs.Words.{texts}
use Rattle.netcalc_cli.proofs.WordLists.{with_flag, no_flag, nothing_behind}
use Rattle.netcalc_cli.proofs.words.is_command.Goals as goal

pub returns-in-Some : goal.returns-in-Some
returns-in-Some c =
    c.is_command_on.ensures
    ∙ ap is_some
    (with_flag c.args.word.now (texts c.args.rest.now) (texts (c.in-Some.before.now ++ c.in-Some.after.now))
    c.in-Some.ensures.found)

pub returns-in-None : goal.returns-in-None
returns-in-None c =
    c.is_command_on-in-None.ensures
    ∙ ap is_some
    (nothing_behind c.args.word.now c.args.rest.now
    ∙ no_flag c.args.word.now (texts c.args.rest.now) c.in-None.ensures.none)
