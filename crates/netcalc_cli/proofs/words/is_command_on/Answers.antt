use Rattle.std.proofs.Common.{◌++◌, sym, ◌∙◌}
use Rattle.netcalc_cli.specs.Words.{texts}
use Rattle.netcalc_cli.proofs.WordLists.{called_on, none_on}
use Rattle.netcalc_cli.proofs.words.is_command_on.Goals as goal

pub returns-then-are_all_operands : goal.returns-then-are_all_operands
returns-then-are_all_operands c =
    c.is_called.ensures
    ∙ called_on c.args.word.now (texts (c.args.before.now ++ c.args.after.now)) c.args.json
    (sym c.are_all_operands.ensures ∙ c.if-are_all_operands.true)

pub returns-else-are_all_operands : goal.returns-else-are_all_operands
returns-else-are_all_operands c =
    c.if-are_all_operands.false
    ∙ none_on c.args.word.now (texts (c.args.before.now ++ c.args.after.now)) c.args.json
    (sym c.are_all_operands.ensures ∙ c.if-are_all_operands.false)
