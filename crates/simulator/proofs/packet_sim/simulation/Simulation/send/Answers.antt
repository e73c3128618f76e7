use Rattle.std.specs.Prelude.{◌<◌, Some, List, length, slice_get}
use Rattle.std.proofs.Common.{refl, sym, subst, arith, ap, ◌∙◌}
use Rattle.std.proofs.lemmas.List.{length-map, with_items_is}
use Rattle.rational.specs.Rational.{◌/ℚ◌}
use Rattle.rational.specs.Ratio.{IsSmall}
use Rattle.run_laws.specs.declared.steps.Step.TheVariants as steps
use Rattle.queue_sched.specs.declared.turn.Turn.TheVariants as turns
use Rattle.net_model.specs.stated_runs.FromTraces.{entering, setup_of}
use Rattle.sim_servers.specs.declared.station.Station.{Station}
use Rattle.sim_servers.specs.sim_loop.Moves.{HasWorked}
use Rattle.simulator.proofs.packet_sim.Working.{MayWorkAt}
use Rattle.simulator.proofs.packet_sim.Starting.{send_in_trace, send_known, send_fits, send_may, send_done}
use Rattle.simulator.proofs.packet_sim.Stepped.{stepped}
use Rattle.simulator.proofs.packet_sim.simulation.Simulation.send.Goals as goal

pub packet_at-row-requires : goal.packet_at-row-requires
packet_at-row-requires c =
    let v = c.args.self.now in
    let S = setup_of c.args.net.now c.args.trace.now in
    let l = send_in_trace S v.stations.items v.links v.arrivals.items v.entered v.steps.items c.args.due c.args.packet c.requires.turn c.requires.kind in
    let e = length-map c.args.trace.now.packets entering in
    omega (arith, l, e)

pub rate_at-rate-requires : goal.rate_at-rate-requires
rate_at-rate-requires c =
    let v = c.args.self.now in
    let S = setup_of c.args.net.now c.args.trace.now in
    subst (λ (xs : List Station). c.args.due.server < length xs) (sym c.deref.ensures.value)
    (send_known S v.stations.items v.links v.arrivals.items v.entered v.steps.items c.args.due (Some (turns.Send c.args.packet)) c.requires.turn)

pub quotient-left-requires-clause-some : goal.quotient-left-requires-clause-some
quotient-left-requires-clause-some c =
    let v = c.args.self.now in
    let S = setup_of c.args.net.now c.args.trace.now in
    (send_fits S v.stations.items v.links v.arrivals.items v.entered v.steps.items c.args.due c.args.packet c.requires.turn c.requires.kind c.packet_at-row.result (c.packet_at-row.ensures S refl) c.rate_at-rate.result (λ x at. c.rate_at-rate.ensures x (ap (λ (xs : List Station). slice_get xs c.args.due.server) c.deref.ensures.value ∙ at))).some

pub quotient-left-requires-clause-fits : goal.quotient-left-requires-clause-fits
quotient-left-requires-clause-fits c =
    let v = c.args.self.now in
    let S = setup_of c.args.net.now c.args.trace.now in
    subst (λ u. IsSmall (u /ℚ c.rate_at-rate.result)) (sym c.from.ensures) (send_fits S v.stations.items v.links v.arrivals.items v.entered v.steps.items c.args.due c.args.packet c.requires.turn c.requires.kind c.packet_at-row.result (c.packet_at-row.ensures S refl) c.rate_at-rate.result (λ x at. c.rate_at-rate.ensures x (ap (λ (xs : List Station). slice_get xs c.args.due.server) c.deref.ensures.value ∙ at))).fits

pub work_at-stretch-requires-clause-known : goal.work_at-stretch-requires-clause-known
work_at-stretch-requires-clause-known c =
    let v = c.args.self.now in
    let S = setup_of c.args.net.now c.args.trace.now in
    (subst (λ (xs : List Station). MayWorkAt xs c.args.due.server c.args.due.time c.quotient-left.result) (sym c.deref_mut.ensures.value)
    (send_may S v.stations.items v.links v.arrivals.items v.entered v.steps.items c.args.due c.args.packet c.requires.turn c.requires.kind c.packet_at-row.result (c.packet_at-row.ensures S refl) c.rate_at-rate.result (λ x at. c.rate_at-rate.ensures x (ap (λ (xs : List Station). slice_get xs c.args.due.server) c.deref.ensures.value ∙ at)) c.quotient-left.result (c.quotient-left.ensures ∙ ap (λ u. u /ℚ c.rate_at-rate.result) c.from.ensures))).known

pub work_at-stretch-requires-clause-may : goal.work_at-stretch-requires-clause-may
work_at-stretch-requires-clause-may c =
    let v = c.args.self.now in
    let S = setup_of c.args.net.now c.args.trace.now in
    (subst (λ (xs : List Station). MayWorkAt xs c.args.due.server c.args.due.time c.quotient-left.result) (sym c.deref_mut.ensures.value)
    (send_may S v.stations.items v.links v.arrivals.items v.entered v.steps.items c.args.due c.args.packet c.requires.turn c.requires.kind c.packet_at-row.result (c.packet_at-row.ensures S refl) c.rate_at-rate.result (λ x at. c.rate_at-rate.ensures x (ap (λ (xs : List Station). slice_get xs c.args.due.server) c.deref.ensures.value ∙ at)) c.quotient-left.result (c.quotient-left.ensures ∙ ap (λ u. u /ℚ c.rate_at-rate.result) c.from.ensures))).may

pub returns : goal.returns
returns c =
    let v = c.args.self.now in
    let S = setup_of c.args.net.now c.args.trace.now in
    let worked = subst (λ (xs : List Station). HasWorked xs c.work_at-stretch.new.stations c.args.due.server c.args.packet c.args.due.time c.quotient-left.result c.work_at-stretch.result)
    c.deref_mut.ensures.value c.work_at-stretch.ensures in
    stepped c.args.net.now c.args.trace.now v _ (steps.Work c.args.due.server c.args.packet c.args.due.time c.work_at-stretch.result.end c.work_at-stretch.result.bits) c.work_at-stretch.new.stations v.links v.arrivals.items v.entered
    (with_items_is v.stations c.work_at-stretch.new.stations (omega (arith, c.work_at-stretch.auto.stations, c.deref_mut.ensures.len))) refl refl refl c.in_ok-push.ensures.items
    (send_done S v.stations.items v.links v.arrivals.items v.entered v.steps.items c.args.due c.args.packet c.requires.turn c.requires.kind c.packet_at-row.result (c.packet_at-row.ensures S refl) c.rate_at-rate.result (λ x at. c.rate_at-rate.ensures x (ap (λ (xs : List Station). slice_get xs c.args.due.server) c.deref.ensures.value ∙ at)) c.quotient-left.result (c.quotient-left.ensures ∙ ap (λ u. u /ℚ c.rate_at-rate.result) c.from.ensures) c.work_at-stretch.new.stations c.work_at-stretch.result worked)
