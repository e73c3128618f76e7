use Rattle.std.specs.Prelude.{◌<◌, List, length, slice_get}
use Rattle.std.proofs.Common.{refl, sym, subst, arith, ap, ◌∙◌}
use Rattle.std.proofs.lemmas.List.{with_items_is}
use Rattle.run_laws.specs.declared.steps.Step.TheVariants as steps
use Rattle.net_model.specs.stated_runs.FromTraces.{setup_of}
use Rattle.sim_servers.specs.declared.station.Station.{Station}
use Rattle.sim_servers.specs.sim_loop.Moves.{HasWorked}
use Rattle.simulator.proofs.packet_sim.Working.{MayWorkAt, resume_known, resume_may, resume_some, resume_done}
use Rattle.simulator.proofs.packet_sim.Stepped.{stepped}
use Rattle.simulator.proofs.packet_sim.simulation.Simulation.resume.Goals as goal

pub rest_at-requires : goal.rest_at-requires
rest_at-requires c =
    let v = c.args.self.now in
    let S = setup_of c.args.net.now c.args.trace.now in
    subst (λ (xs : List Station). c.args.due.server < length xs) (sym c.deref.ensures.value) (resume_known S v.stations.items v.links v.arrivals.items v.entered v.steps.items c.args.due c.requires.next c.requires.kind)

pub unreachable-requires : goal.unreachable-requires
unreachable-requires c =
    let v = c.args.self.now in
    let S = setup_of c.args.net.now c.args.trace.now in
    resume_some S v.stations.items v.links v.arrivals.items v.entered v.steps.items c.args.due c.requires.next c.requires.kind (λ x at. c.in-None.ensures x (ap (λ (xs : List Station). slice_get xs c.args.due.server) c.deref.ensures.value ∙ at))

pub work_at-stretch-requires-clause-known : goal.work_at-stretch-requires-clause-known
work_at-stretch-requires-clause-known c =
    let v = c.args.self.now in
    let S = setup_of c.args.net.now c.args.trace.now in
    (subst (λ (xs : List Station). MayWorkAt xs c.args.due.server c.args.due.time c.in-Some.rest.left) (sym c.deref_mut.ensures.value)
    (resume_may S v.stations.items v.links v.arrivals.items v.entered v.steps.items c.args.due c.requires.next c.requires.kind c.in-Some.rest (λ x at. c.in-Some.ensures x (ap (λ (xs : List Station). slice_get xs c.args.due.server) c.deref.ensures.value ∙ at)))).known

pub work_at-stretch-requires-clause-may : goal.work_at-stretch-requires-clause-may
work_at-stretch-requires-clause-may c =
    let v = c.args.self.now in
    let S = setup_of c.args.net.now c.args.trace.now in
    (subst (λ (xs : List Station). MayWorkAt xs c.args.due.server c.args.due.time c.in-Some.rest.left) (sym c.deref_mut.ensures.value)
    (resume_may S v.stations.items v.links v.arrivals.items v.entered v.steps.items c.args.due c.requires.next c.requires.kind c.in-Some.rest (λ x at. c.in-Some.ensures x (ap (λ (xs : List Station). slice_get xs c.args.due.server) c.deref.ensures.value ∙ at)))).may

pub returns : goal.returns
returns c =
    let v = c.args.self.now in
    let S = setup_of c.args.net.now c.args.trace.now in
    let worked = subst (λ (xs : List Station). HasWorked xs c.work_at-stretch.new.stations c.args.due.server c.in-Some.rest.packet c.args.due.time c.in-Some.rest.left c.work_at-stretch.result)
    c.deref_mut.ensures.value c.work_at-stretch.ensures in
    stepped c.args.net.now c.args.trace.now v _ (steps.Work c.args.due.server c.in-Some.rest.packet c.args.due.time c.work_at-stretch.result.end c.work_at-stretch.result.bits) c.work_at-stretch.new.stations v.links v.arrivals.items v.entered
    (with_items_is v.stations c.work_at-stretch.new.stations (omega (arith, c.work_at-stretch.auto.stations, c.deref_mut.ensures.len))) refl refl refl c.in_ok-push-in-Some.ensures.items
    (resume_done S v.stations.items v.links v.arrivals.items v.entered v.steps.items c.args.due c.requires.next c.requires.kind c.in-Some.rest (λ x at. c.in-Some.ensures x (ap (λ (xs : List Station). slice_get xs c.args.due.server) c.deref.ensures.value ∙ at)) c.work_at-stretch.new.stations c.work_at-stretch.result worked)
