use Rattle.std.proofs.Common.{◌∙◌, ap, map}
use Rattle.net_model.specs.Views.{server_of}
use Rattle.simulator.specs.run_measures.Gauges.{empty_row_of}
use Rattle.simulator.proofs.run_measures.LevelEnds.{mapped_all, mapped_twice}
use Rattle.simulator.proofs.run_measures.gauges.empty_rows.Goals as goal

pub returns : goal.returns
returns c =
    let servers = c.servers-server-items.result.now in
    c.loop-server.invariant ∙ mapped_all (λ s. empty_row_of (server_of s)) servers c.loop-server.server-index c.loop-server.auto.server-index-end c.loop-server-test.false
    ∙ mapped_twice empty_row_of server_of servers ∙ ap (map empty_row_of) c.servers-server-items.ensures.servers
