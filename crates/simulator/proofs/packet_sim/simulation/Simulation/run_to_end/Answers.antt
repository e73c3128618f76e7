use Rattle.std.specs.Prelude.{Some, None, List, length, map}
use Rattle.std.proofs.Common.{sym, ap, subst}
use Rattle.net_model.specs.stated_runs.FromTraces.{entering, setup_of}
use Rattle.sim_servers.specs.declared.station.Station.{Station}
use Rattle.sim_servers.specs.declared.sim_states.arrival.Arrival.{Arrival}
use Rattle.sim_servers.specs.sim_states.Running.{IsFirstCandidate}
use Rattle.simulator.proofs.packet_sim.Ending.{comes_next, has_ended}
use Rattle.simulator.proofs.packet_sim.simulation.Simulation.run_to_end.Goals as goal

pub take-requires : goal.take-requires
take-requires c =
    let v = c.loop-due.self in
    let S = setup_of c.args.net.now c.args.trace.now in
    let first = c.in-Some.ensures S (ap (map entering) (sym c.packets.ensures.packets)) in
    comes_next S v.stations.items v.links v.arrivals.items v.entered v.steps.items c.in-Some.due c.loop-due.invariant
    (subst (λ (ys : List Arrival). IsFirstCandidate S v.stations.items v.links ys v.entered (length v.stations.items) (Some c.in-Some.due)) c.deref-in-loop-due.ensures.value
    (subst (λ (xs : List Station). IsFirstCandidate S xs v.links c.deref-in-loop-due.result.now v.entered (length xs) (Some c.in-Some.due)) c.deref.ensures.value first))

pub returns : goal.returns
returns c =
    let v = c.loop-due.self in
    let S = setup_of c.args.net.now c.args.trace.now in
    let none = c.in_default.ensures S (ap (map entering) (sym c.packets.ensures.packets)) in
    record {
      follows = has_ended S v.stations.items v.links v.arrivals.items v.entered v.steps.items c.loop-due.invariant
          (subst (λ (ys : List Arrival). IsFirstCandidate S v.stations.items v.links ys v.entered (length v.stations.items) None) c.deref-in-loop-due.ensures.value
          (subst (λ (xs : List Station). IsFirstCandidate S xs v.links c.deref-in-loop-due.result.now v.entered (length xs) None) c.deref.ensures.value none));
    }
