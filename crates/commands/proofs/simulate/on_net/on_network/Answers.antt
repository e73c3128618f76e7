use Rattle.net_model.proofs.net_graph.Returns.{order_or_cycle}
use Rattle.command_replies.specs.View.{status_of}
use Rattle.commands.specs.simulate.OnTraces.{IsSimulationReply}
use Rattle.commands.proofs.Stopped.{told_beside, stopped_told, at_status, stopped_counts}
use Rattle.commands.proofs.simulate.on_net.on_network.Goals as goal

pub simulated-requires-clause-free : goal.simulated-requires-clause-free
simulated-requires-clause-free g c =
    let t = c.in-Ok.ensures.table in
    order_or_cycle.feed_forward c.args.net.now t.order c.requires.accepted t.ordered

pub returns-in-Ok-clause-reply : goal.returns-in-Ok-clause-reply
returns-in-Ok-clause-reply g c =
    told_beside c.args.net.now _ (IsSimulationReply c.args.net.now c.args.trace.now) c.simulated.result c.in-Ok.ensures.table
    c.keeps_curves.ensures c.simulated.ensures

pub returns-in-Ok-clause-counts : goal.returns-in-Ok-clause-counts
returns-in-Ok-clause-counts g c =
    at_status c.args.net.now (status_of c.simulated.result) _ _ c.in-Ok.ensures.counts

pub returns-in-Err-clause-reply : goal.returns-in-Err-clause-reply
returns-in-Err-clause-reply g c = stopped_told c.args.net.now _ c.in-Err.told c.in-Err.ensures.stopped

pub returns-in-Err-clause-counts : goal.returns-in-Err-clause-counts
returns-in-Err-clause-counts g c =
    stopped_counts c.args.net.now c.in-Err.told _ _ c.in-Err.ensures.counts c.in-Err.ensures.stopped
