use Rattle.std.proofs.Common.{◌≡◌, ◌≤◌, ◌+◌, ◌*◌, ◌^◌, map, drop}
use Rattle.net_model.specs.NetRoutes.{routes_of}
use Rattle.net_model.specs.stated_runs.FromTraces.{entering}
use Rattle.sim_bounds.specs.Horizons.{bits_through}
use Rattle.sim_bounds.proofs.sim_gauge.loads.load.Given as goal

abbrev pub invariant-loop-packet : goal.invariant-loop-packet
invariant-loop-packet l = record {
  sum : l.bits + bits_through (routes_of l.net) l.server (map entering (drop l.packet-index l.packet-items))
      ≡ bits_through (routes_of l.net) l.server (map entering l.packet-items);
  small : l.bits ≤ l.packet-index * 2 ^ 32;
}
