use Rattle.std.proofs.Common.{ap}
use Rattle.command_replies.specs.Replies.{Reply}
use Rattle.outcomes.specs.Stages.{goes_on}
use Rattle.command_replies.specs.View.{status_of}
use Rattle.commands.proofs.Stopped.{stopped_told, at_status, stopped_counts}
use Rattle.commands.proofs.analyse.on_net.on_network.Goals as goal

pub returns-in_ok-text-in-Ok-clause-reply : goal.returns-in_ok-text-in-Ok-clause-reply
returns-in_ok-text-in-Ok-clause-reply g c =
    let t = c.in-Ok.ensures.table in
    goes_on t.order t.ordered (goes_on _ t.table
    (ap (λ bytes. let r : Reply = record { status = 0; bytes = bytes } in r) c.in_ok-text-in-Ok.ensures))

pub returns-in_ok-text-in-Ok-clause-counts : goal.returns-in_ok-text-in-Ok-clause-counts
returns-in_ok-text-in-Ok-clause-counts g c =
    at_status c.args.net.now 0 _ _ c.in-Ok.ensures.counts

pub returns-in_err-text-in-Ok-clause-counts : goal.returns-in_err-text-in-Ok-clause-counts
returns-in_err-text-in-Ok-clause-counts g c =
    at_status c.args.net.now (status_of c.from_residual.result) _ _ c.in-Ok.ensures.counts

pub returns-in-Err-clause-reply : goal.returns-in-Err-clause-reply
returns-in-Err-clause-reply g c =
    stopped_told c.args.net.now _ c.in-Err.told c.in-Err.ensures.stopped

pub returns-in-Err-clause-counts : goal.returns-in-Err-clause-counts
returns-in-Err-clause-counts g c =
    stopped_counts c.args.net.now c.in-Err.told _ _ c.in-Err.ensures.counts c.in-Err.ensures.stopped
