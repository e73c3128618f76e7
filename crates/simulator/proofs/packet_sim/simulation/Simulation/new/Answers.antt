use Rattle.std.specs.Prelude.{◌≡◌, List, length}
use Rattle.std.proofs.Common.{sym, ap, subst, arith, ◌∙◌}
use Rattle.std.proofs.lemmas.List.{length-map}
use Rattle.net_model.specs.Views.{server_of}
use Rattle.run_laws.specs.declared.steps.Step.{Step}
use Rattle.net_model.specs.stated_runs.FromTraces.{setup_of}
use Rattle.sim_bounds.specs.Gauge.{grid_of}
use Rattle.sim_bounds.specs.Horizons.{horizon}
use Rattle.sim_bounds.proofs.Fits.{run_fits}
use Rattle.simulator.specs.packet_sim.Simulating.{IsSimulating}
use Rattle.simulator.proofs.packet_sim.NewRuns.{new_runs, same_links}
use Rattle.simulator.proofs.packet_sim.simulation.Simulation.new.Goals as goal

pub returns : goal.returns
returns c =
    let net = c.args.net.now in
    let trace = c.args.trace.now in
    let S = setup_of net trace in
    let stations = c.in_ok-stations.stations.items in
    let links = c.in_ok-links.links in
    let arrivals = c.in_ok-arrivals.arrivals.items in
    let packets : length c.packets-packets.result.now ≡ length trace.packets = ap length c.packets-packets.ensures.packets in
    let servers : length c.servers.result.now ≡ length net.servers =
    sym (length-map c.servers.result.now server_of) ∙ ap length c.servers.ensures.servers in
    let many : length arrivals ≡ length trace.packets = omega (arith, c.in_ok-arrivals.ensures.len, c.in_ok-arrivals.arrivals.ok.0, packets) in
    subst (λ (xs : List Step). IsSimulating S stations links arrivals 0 xs) (sym c.new-2.ensures.items)
    (new_runs net trace (grid_of net trace) (horizon S) c.servers.ensures.kept c.packets-packets.ensures.kept c.requires.named
    (run_fits net trace c.servers.ensures.kept c.packets-packets.ensures.kept c.requires.named c.requires.free c.requires.narrow)
    stations links arrivals c.in_ok-stations.ensures
    (same_links links (length c.servers.result.now) (length net.servers) (length c.packets-packets.result.now) (length trace.packets) c.in_ok-links.ensures servers packets) many)
