use Rattle.commands.specs.check.CheckCounts.{CountsOnNet}
use Rattle.commands.specs.check.OnRuns.{IsCheckReplyOnNet}
use Rattle.commands.proofs.FileAnswers.{by_network, by_none}
use Rattle.commands.proofs.FileCounts.{none_on_rows}
use Rattle.commands.proofs.check.on_files.answer_on.Goals as goal

pub on_rows-requires : goal.on_rows-requires
on_rows-requires g c = record { accepted = c.in-Ok.ensures.network.accepted }

pub returns-in-Ok : goal.returns-in-Ok
returns-in-Ok g c =
    let all = by_network c.args.net_file.now c.args.net_bytes.now (λ net. IsCheckReplyOnNet net c.args.run_file.now c.args.run_bytes.now)
    (λ net. CountsOnNet net c.args.run_bytes.now) c.in-Ok.network c.on_rows.result
    c.args.steps.now c.network_from.new.steps c.on_rows.new.steps c.in-Ok.ensures.network c.in-Ok.ensures.counts
    c.on_rows.ensures.reply c.on_rows.ensures.counts in
    record { reply = all.reply; counts = all.counts }

pub returns-in-Err : goal.returns-in-Err
returns-in-Err g c =
    let all = by_none c.args.net_file.now c.args.net_bytes.now (λ net. IsCheckReplyOnNet net c.args.run_file.now c.args.run_bytes.now)
    (λ net. CountsOnNet net c.args.run_bytes.now) c.in-Err.told c.args.steps.now c.network_from.new.steps
    c.in-Err.ensures.none c.in-Err.ensures.counts
    (λ net status none. none_on_rows _ net status c.network_from.new.steps none) in
    record { reply = all.reply; counts = all.counts }
