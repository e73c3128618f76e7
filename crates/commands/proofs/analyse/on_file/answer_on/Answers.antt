use Rattle.command_replies.specs.run_findings.CellCounts.{CountsOnCells}
use Rattle.command_replies.proofs.run_findings.Counted.{none_on_cells}
use Rattle.commands.specs.analyse.OnFiles.{IsReplyOnNet}
use Rattle.commands.proofs.FileAnswers.{by_network, by_none}
use Rattle.commands.proofs.analyse.on_file.answer_on.Goals as goal

pub on_network-requires : goal.on_network-requires
on_network-requires g c = c.in-Ok.ensures.network.accepted

pub returns-in-Ok : goal.returns-in-Ok
returns-in-Ok g c =
    let all = by_network c.args.file.now c.args.bytes.now (IsReplyOnNet c.args.form) CountsOnCells c.in-Ok.network
    c.on_network.result c.args.steps.now c.network_from.new.steps c.on_network.new.steps c.in-Ok.ensures.network
    c.in-Ok.ensures.counts c.on_network.ensures.reply c.on_network.ensures.counts in
    record { reply = all.reply; counts = all.counts }

pub returns-in-Err : goal.returns-in-Err
returns-in-Err g c =
    let all = by_none c.args.file.now c.args.bytes.now (IsReplyOnNet c.args.form) CountsOnCells c.in-Err.told
    c.args.steps.now c.network_from.new.steps c.in-Err.ensures.none c.in-Err.ensures.counts (λ net status none. none_on_cells net status c.network_from.new.steps none) in
    record { reply = all.reply; counts = all.counts }
