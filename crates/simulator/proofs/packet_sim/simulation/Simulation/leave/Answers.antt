use Rattle.std.specs.Prelude.{List, [], ◌∷◌, ◌++◌, set}
use Rattle.std.proofs.Common.{refl, sym, subst, arith}
use Rattle.std.proofs.lemmas.List.{length-map, with_items_is}
use Rattle.run_laws.specs.declared.steps.Step.TheVariants as steps
use Rattle.queue_sched.specs.index_links.Chains.{list_at, with_list}
use Rattle.net_model.specs.stated_runs.FromTraces.{entering, setup_of}
use Rattle.sim_servers.specs.declared.station.Station.{Station}
use Rattle.sim_servers.specs.declared.sim_states.arrival.Arrival.{Arrival}
use Rattle.sim_servers.specs.sim_loop.Moves.{HasLost}
use Rattle.simulator.proofs.packet_sim.Leaving.{MayLeaveAt, leave_may, leave_gone, leave_list, link_fits, leave_done, leave_last}
use Rattle.simulator.proofs.packet_sim.Stepped.{stepped}
use Rattle.simulator.proofs.packet_sim.simulation.Simulation.leave.Goals as goal

pub leave_at-number-requires-clause-known : goal.leave_at-number-requires-clause-known
leave_at-number-requires-clause-known c =
    let v = c.args.self.now in
    let S = setup_of c.args.net.now c.args.trace.now in
    (subst (λ (xs : List Station). MayLeaveAt xs c.args.due.server c.args.due.time) (sym c.deref_mut.ensures.value)
    (leave_may S v.stations.items v.links v.arrivals.items v.entered v.steps.items c.args.due c.requires.next c.requires.kind)).known

pub leave_at-number-requires-clause-lose : goal.leave_at-number-requires-clause-lose
leave_at-number-requires-clause-lose c =
    let v = c.args.self.now in
    let S = setup_of c.args.net.now c.args.trace.now in
    (subst (λ (xs : List Station). MayLeaveAt xs c.args.due.server c.args.due.time) (sym c.deref_mut.ensures.value)
    (leave_may S v.stations.items v.links v.arrivals.items v.entered v.steps.items c.args.due c.requires.next c.requires.kind)).lose

pub leave_at-number-requires-clause-room : goal.leave_at-number-requires-clause-room
leave_at-number-requires-clause-room c =
    let v = c.args.self.now in
    let S = setup_of c.args.net.now c.args.trace.now in
    (subst (λ (xs : List Station). MayLeaveAt xs c.args.due.server c.args.due.time) (sym c.deref_mut.ensures.value)
    (leave_may S v.stations.items v.links v.arrivals.items v.entered v.steps.items c.args.due c.requires.next c.requires.kind)).room

pub packet_at-packet-requires : goal.packet_at-packet-requires
packet_at-packet-requires c =
    let v = c.args.self.now in
    let S = setup_of c.args.net.now c.args.trace.now in
    let lost = subst (λ (xs : List Station). HasLost xs c.leave_at-number.new.stations c.args.due.server c.args.due.time c.leave_at-number.result)
    c.deref_mut.ensures.value c.leave_at-number.ensures in
    let l = (leave_gone S v.stations.items v.links v.arrivals.items v.entered v.steps.items c.args.due c.requires.next c.requires.kind c.leave_at-number.new.stations c.leave_at-number.result lost).in_trace in
    let e = length-map c.args.trace.now.packets entering in
    omega (arith, l, e)

pub sum-time-requires : goal.sum-time-requires
sum-time-requires c =
    let v = c.args.self.now in
    let S = setup_of c.args.net.now c.args.trace.now in
    link_fits S v.stations.items v.links v.arrivals.items v.entered v.steps.items c.args.due c.requires.next c.requires.kind c.link_of.result c.link_of.ensures

pub index_mut-requires : goal.index_mut-requires
index_mut-requires c =
    let v = c.args.self.now in
    let S = setup_of c.args.net.now c.args.trace.now in
    let lost = subst (λ (xs : List Station). HasLost xs c.leave_at-number.new.stations c.args.due.server c.args.due.time c.leave_at-number.result)
    c.deref_mut.ensures.value c.leave_at-number.ensures in
    let l = (leave_gone S v.stations.items v.links v.arrivals.items v.entered v.steps.items c.args.due c.requires.next c.requires.kind c.leave_at-number.new.stations c.leave_at-number.result lost).in_trace in
    let e = c.requires.next.now.running.on_links.long in
    let o = v.arrivals.ok.0 in
    omega (arith, l, e, o)

pub push_tail-requires-clause-list : goal.push_tail-requires-clause-list
push_tail-requires-clause-list c =
    let v = c.args.self.now in
    let S = setup_of c.args.net.now c.args.trace.now in
    leave_list S v.stations.items v.links v.arrivals.items v.entered v.steps.items c.args.due c.requires.next c.requires.kind

pub push_tail-requires-clause-node : goal.push_tail-requires-clause-node
push_tail-requires-clause-node c =
    let v = c.args.self.now in
    let S = setup_of c.args.net.now c.args.trace.now in
    let lost = subst (λ (xs : List Station). HasLost xs c.leave_at-number.new.stations c.args.due.server c.args.due.time c.leave_at-number.result)
    c.deref_mut.ensures.value c.leave_at-number.ensures in
    (leave_gone S v.stations.items v.links v.arrivals.items v.entered v.steps.items c.args.due c.requires.next c.requires.kind c.leave_at-number.new.stations c.leave_at-number.result lost).nodes

pub push_tail-requires-clause-free : goal.push_tail-requires-clause-free
push_tail-requires-clause-free c =
    let v = c.args.self.now in
    let S = setup_of c.args.net.now c.args.trace.now in
    let lost = subst (λ (xs : List Station). HasLost xs c.leave_at-number.new.stations c.args.due.server c.args.due.time c.leave_at-number.result)
    c.deref_mut.ensures.value c.leave_at-number.ensures in
    (leave_gone S v.stations.items v.links v.arrivals.items v.entered v.steps.items c.args.due c.requires.next c.requires.kind c.leave_at-number.new.stations c.leave_at-number.result lost).free

pub returns-in-Some : goal.returns-in-Some
returns-in-Some c =
    let v = c.args.self.now in
    let S = setup_of c.args.net.now c.args.trace.now in
    let lost = subst (λ (xs : List Station). HasLost xs c.leave_at-number.new.stations c.args.due.server c.args.due.time c.leave_at-number.result)
    c.deref_mut.ensures.value c.leave_at-number.ensures in
    let a : Arrival = record { server = c.in-Some.server; time = c.sum-time.result } in
    stepped c.args.net.now c.args.trace.now v _ (steps.Leave c.args.due.server c.leave_at-number.result c.args.due.time) c.leave_at-number.new.stations (with_list v.links c.args.due.server (list_at v.links c.args.due.server ++ c.leave_at-number.result ∷ [])) (set v.arrivals.items c.leave_at-number.result a) v.entered
    (with_items_is v.stations c.leave_at-number.new.stations (omega (arith, c.leave_at-number.auto.stations, c.deref_mut.ensures.len))) c.push_tail.ensures refl refl c.in_ok-push.ensures.items
    (leave_done S v.stations.items v.links v.arrivals.items v.entered v.steps.items c.args.due c.requires.next c.requires.kind c.leave_at-number.new.stations c.leave_at-number.result lost c.packet_at-packet.result (c.packet_at-packet.ensures S refl) a c.in-Some.ensures c.link_of.result c.link_of.ensures c.sum-time.ensures)

pub returns-in-None : goal.returns-in-None
returns-in-None c =
    let v = c.args.self.now in
    let S = setup_of c.args.net.now c.args.trace.now in
    let lost = subst (λ (xs : List Station). HasLost xs c.leave_at-number.new.stations c.args.due.server c.args.due.time c.leave_at-number.result)
    c.deref_mut.ensures.value c.leave_at-number.ensures in
    stepped c.args.net.now c.args.trace.now v _ (steps.Leave c.args.due.server c.leave_at-number.result c.args.due.time) c.leave_at-number.new.stations v.links v.arrivals.items v.entered
    (with_items_is v.stations c.leave_at-number.new.stations (omega (arith, c.leave_at-number.auto.stations, c.deref_mut.ensures.len))) refl refl refl c.in_ok-push.ensures.items
    (leave_last S v.stations.items v.links v.arrivals.items v.entered v.steps.items c.args.due c.requires.next c.requires.kind c.leave_at-number.new.stations c.leave_at-number.result lost c.packet_at-packet.result (c.packet_at-packet.ensures S refl) c.in-None.ensures)
