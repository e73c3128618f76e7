use Rattle.std.proofs.Common.{refl}
use Rattle.run_laws.specs.declared.steps.Step.TheVariants as steps
use Rattle.net_model.specs.stated_runs.FromTraces.{setup_of}
use Rattle.simulator.proofs.packet_sim.Starting.{visit_done}
use Rattle.simulator.proofs.packet_sim.Stepped.{stepped}
use Rattle.simulator.proofs.packet_sim.simulation.Simulation.visit.Goals as goal

pub returns : goal.returns
returns c =
    let v = c.args.self.now in
    let S = setup_of c.args.net.now c.args.trace.now in
    stepped c.args.net.now c.args.trace.now v _ (steps.Visit c.args.due.server c.args.queue c.args.due.time) v.stations.items v.links v.arrivals.items v.entered
    refl refl refl refl c.in_ok-push.ensures.items
    (visit_done S v.stations.items v.links v.arrivals.items v.entered v.steps.items c.args.due c.args.queue c.requires.turn c.requires.kind)
