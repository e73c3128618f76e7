use Rattle.std.specs.Prelude.{◌+◌, List}
use Rattle.std.proofs.Common.{refl, sym, subst, arith}
use Rattle.std.proofs.lemmas.List.{length-map, with_items_is}
use Rattle.run_laws.specs.declared.steps.Step.TheVariants as steps
use Rattle.net_model.specs.stated_runs.FromTraces.{entering, setup_of}
use Rattle.sim_servers.specs.declared.station.Station.{Station}
use Rattle.sim_servers.specs.sim_loop.Moves.{HasTaken}
use Rattle.simulator.proofs.packet_sim.Arriving.{MayArriveAt, enter_in_trace, enter_may, enter_done}
use Rattle.simulator.proofs.packet_sim.Stepped.{stepped}
use Rattle.simulator.proofs.packet_sim.simulation.Simulation.enter.Goals as goal

pub packet_at-packet-requires : goal.packet_at-packet-requires
packet_at-packet-requires c =
    let v = c.args.self.now in
    let S = setup_of c.args.net.now c.args.trace.now in
    let l = enter_in_trace S v.stations.items v.links v.arrivals.items v.entered v.steps.items c.args.due c.requires.next c.requires.kind in
    omega (arith, l, length-map c.args.trace.now.packets entering)

pub arrive_at-requires : goal.arrive_at-requires
arrive_at-requires c =
    let v = c.args.self.now in
    let S = setup_of c.args.net.now c.args.trace.now in
    let may = subst (λ (xs : List Station). MayArriveAt xs c.entrance-server.result c.args.due.packet c.queue_of-queue.result c.args.due.time) (sym c.deref_mut.ensures.value)
    (enter_may S v.stations.items v.links v.arrivals.items v.entered v.steps.items c.args.due c.requires.next c.requires.kind c.packet_at-packet.result (c.packet_at-packet.ensures S refl) c.entrance-server.result c.queue_of-queue.result c.entrance-server.ensures c.queue_of-queue.ensures) in
    record { known = may.known; take = may.take; room = may.room }

pub returns : goal.returns
returns c =
    let v = c.args.self.now in
    let S = setup_of c.args.net.now c.args.trace.now in
    let taken = subst (λ (xs : List Station). HasTaken xs c.arrive_at.new.stations c.entrance-server.result c.args.due.packet c.queue_of-queue.result c.packet_at-packet.result.bits c.args.due.time)
    c.deref_mut.ensures.value c.arrive_at.ensures in
    stepped c.args.net.now c.args.trace.now v _ (steps.Enter c.packet_at-packet.result.flow c.args.due.packet c.args.due.time c.packet_at-packet.result.bits) c.arrive_at.new.stations v.links v.arrivals.items (v.entered + 1)
    (with_items_is v.stations c.arrive_at.new.stations (omega (arith, c.arrive_at.auto.stations, c.deref_mut.ensures.len))) refl refl refl c.in_ok-push.ensures.items
    (enter_done S v.stations.items v.links v.arrivals.items v.entered v.steps.items c.args.due c.requires.next c.requires.kind c.packet_at-packet.result (c.packet_at-packet.ensures S refl) c.entrance-server.result c.queue_of-queue.result c.entrance-server.ensures c.queue_of-queue.ensures c.arrive_at.new.stations taken)
