use Rattle.std.proofs.Common.{sym, ap, ◌∙◌, arith}
use Rattle.std.specs.Prelude.{is_some}
use Rattle.netcalc_cli.specs.Words.{texts, command_of}
use Rattle.netcalc_cli.proofs.WordLists.{by_parts, none_of_few}
use Rattle.netcalc_cli.proofs.words.taken.Goals as goal
use Rattle.input_texts.proofs.curve_script.LineFacts.{none_of}

pub returns-in_default-clause-not_taken : goal.returns-in_default-clause-not_taken
returns-in_default-clause-not_taken c = none_of_few c.args.words.now (omega arith)

pub returns-then-not-is_command-clause-not_taken : goal.returns-then-not-is_command-clause-not_taken
returns-then-not-is_command-clause-not_taken c =
    let words = c.args.words.now in
    let is = (rw c.as_str.ensures.value at c.is_command.ensures)
    ∙ ap is_some (by_parts words c.word-item.result c.in-len2-up.len_at_least c.word-item.is) in
    none_of (command_of (texts words)) (sym c.if-not-is_command.true ∙ is)

pub returns-clause-taken : goal.returns-clause-taken
returns-clause-taken c =
    let words = c.args.words.now in
    let is = (rw c.as_str.ensures.value at c.is_command.ensures)
    ∙ ap is_some (by_parts words c.word-item.result c.in-len2-up.len_at_least c.word-item.is) in
    sym is ∙ c.if-not-is_command.false
