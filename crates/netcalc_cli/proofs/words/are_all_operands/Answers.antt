use Rattle.std.proofs.Common.{sym, ◌∙◌}
use Rattle.netcalc_cli.proofs.WordLists.{all_of_both, none_of_both}
use Rattle.netcalc_cli.proofs.words.are_all_operands.Goals as goal

pub returns-then-are_operands : goal.returns-then-are_operands
returns-then-are_operands c =
    c.are_operands-then-are_operands.ensures
    ∙ all_of_both c.args.before.now c.args.after.now (sym c.are_operands.ensures ∙ c.if-are_operands.true)

pub returns-else-are_operands : goal.returns-else-are_operands
returns-else-are_operands c =
    c.if-are_operands.false
    ∙ none_of_both c.args.before.now c.args.after.now (sym c.are_operands.ensures ∙ c.if-are_operands.false)
