use Rattle.net_model.specs.NetRoutes.{routes_of}
use Rattle.simulator.proofs.run_measures.Lawful.{lawful_runs_are_numbered}
use Rattle.simulator.proofs.packet_sim.measured.measured_run.Goals as goal

pub worst_delays-requires-clause-numbered : goal.worst_delays-requires-clause-numbered
worst_delays-requires-clause-numbered c = lawful_runs_are_numbered (routes_of c.args.net.now) c.in_ok-run.run' c.in_ok-run.ensures.lawful
