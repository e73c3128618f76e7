use Rattle.command_replies.proofs.simulated_findings.OpenServers.{told_fits, told_is}
use Rattle.command_replies.proofs.simulated_findings.told.open_servers.Goals as goal

pub less_stalled-requires : goal.less_stalled-requires
less_stalled-requires c =
    told_fits c.args.net.now c.args.trace.now c.servers.result.now c.in_ok-told.told.items c.stalls.result.now
    c.servers.ensures.servers c.in_ok-told.ensures c.stalls.ensures.stalls c.requires

pub returns : goal.returns
returns c =
    told_is c.args.net.now c.args.trace.now c.servers.result.now c.in_ok-told.told.items c.stalls.result.now
    c.less_stalled.result.items c.servers.ensures.servers c.in_ok-told.ensures c.stalls.ensures.stalls
    c.less_stalled.ensures
