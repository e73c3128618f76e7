use Rattle.std.proofs.Common.{[]}
use Rattle.replies.proofs.Fetches.{fetches_none}
use Rattle.netcalc_cli.specs.Commands.{Exercise}
use Rattle.netcalc_cli.proofs.Replies.{on_files}
use Rattle.netcalc_cli.proofs.answering.on_exercise.Goals as goal

pub returns : goal.returns
returns g c =
    on_files g.I.Inputs.content g.I.Inputs.faults g.I.Inputs.last_fault g.I.Inputs.asked g.I.Inputs.had
    (Exercise c.args.seed) c.args.inputs.now c.args.inputs.now c.answer_on.result c.args.steps.now c.answer_on.new.steps
    [] tt tt (fetches_none g.I.Inputs.asked g.I.Inputs.had c.args.inputs.now) c.answer_on.ensures.reply c.answer_on.ensures.counts
