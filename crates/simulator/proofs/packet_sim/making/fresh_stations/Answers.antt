use Rattle.std.specs.Prelude.{List, length}
use Rattle.std.proofs.Common.{subst}
use Rattle.net_model.specs.declared.trace.Stall.{Stall}
use Rattle.net_model.specs.declared.trace.TracePacket.{TracePacket}
use Rattle.net_model.specs.Views.{server_of}
use Rattle.net_cells.proofs.Stored.{server_stored, server_kept}
use Rattle.net_model.specs.stated_runs.FromTraces.{stalls_at}
use Rattle.simulator.specs.packet_sim.Fresh.{AreSorted, IsFresh}
use Rattle.simulator.proofs.packet_sim.NewRuns.{fresh_push}
use Rattle.simulator.proofs.packet_sim.making.fresh_stations.Goals as goal

pub fresh_station-requires : goal.fresh_station-requires
fresh_station-requires c =
    let net = c.args.net.now in
    let x = c.server-item.result in
    (server_kept net c.loop-number.number (server_of x) c.servers-server-items.ensures.kept
    (server_stored net c.servers-server-items.result.now c.loop-number.number x c.servers-server-items.ensures.servers c.loop-number-test.true c.server-item.is)).queues

pub loop-number-preserved : goal.loop-number-preserved
loop-number-preserved c =
    let net = c.args.net.now in
    let x = c.server-item.result in
    fresh_push net.servers c.args.trace.now c.loop-number.number c.loop-number.stations.items c.push.new.self.items c.in_ok-station.station c.loop-number.invariant
    record {
      server = server_of x;
      at = server_stored net c.servers-server-items.result.now c.loop-number.number x c.servers-server-items.ensures.servers c.loop-number-test.true c.server-item.is;
      spans = c.in_ok-stalls.stalls.items;
      sorted = subst (λ (v : List Stall). AreSorted (stalls_at c.loop-number.number v) c.in_ok-stalls.stalls.items) c.stalls.ensures.stalls c.in_ok-stalls.ensures;
      fresh = subst (λ (v : List TracePacket). IsFresh (server_of x) (length v) c.in_ok-stalls.stalls.items c.in_ok-station.station) c.packets.ensures.packets c.in_ok-station.ensures;
    }
    c.in_ok-push.ensures.items
