use Rattle.std.specs.Prelude.{None, List}
use Rattle.std.proofs.Common.{sym, subst}
use Rattle.net_model.specs.stated_runs.FromTraces.{setup_of}
use Rattle.sim_servers.specs.declared.station.Station.{Station}
use Rattle.sim_servers.specs.sim_loop.Moves.{HasTurned}
use Rattle.simulator.proofs.packet_sim.Starting.{MayTurnAt, start_may, some_turn}
use Rattle.simulator.proofs.packet_sim.simulation.Simulation.start.Goals as goal

pub turn_at-requires-clause-known : goal.turn_at-requires-clause-known
turn_at-requires-clause-known c =
    let v = c.args.self.now in
    let S = setup_of c.args.net.now c.args.trace.now in
    (subst (λ (xs : List Station). MayTurnAt xs c.args.due.server) (sym c.deref_mut.ensures.value)
    (start_may S v.stations.items v.links v.arrivals.items v.entered v.steps.items c.args.due c.requires.next c.requires.kind)).known

pub turn_at-requires-clause-idle : goal.turn_at-requires-clause-idle
turn_at-requires-clause-idle c =
    let v = c.args.self.now in
    let S = setup_of c.args.net.now c.args.trace.now in
    (subst (λ (xs : List Station). MayTurnAt xs c.args.due.server) (sym c.deref_mut.ensures.value)
    (start_may S v.stations.items v.links v.arrivals.items v.entered v.steps.items c.args.due c.requires.next c.requires.kind)).idle

pub unreachable-requires : goal.unreachable-requires
unreachable-requires c =
    let v = c.args.self.now in
    let S = setup_of c.args.net.now c.args.trace.now in
    let turned = subst (λ (xs : List Station). HasTurned xs c.turn_at.new.stations c.args.due.server None) c.deref_mut.ensures.value c.in-None.ensures in
    some_turn S c.turn_at.new.stations v.links v.arrivals.items v.entered v.steps.items c.args.due
    record { before = v.stations.items; due = c.requires.next; turned = turned } c.requires.kind
