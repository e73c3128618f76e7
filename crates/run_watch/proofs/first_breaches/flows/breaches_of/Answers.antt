use Rattle.std.proofs.Common.{◌≡◌, ◌∙◌, arith, sym, subst, ap}
use Rattle.upp_curve.specs.Curve.{SpecCurve}
use Rattle.upp_limits.specs.Limits.{curve_numbers}
use Rattle.upp_limits.specs.Sized.{Stands}
use Rattle.run_laws.specs.Runs.{SpecRun}
use Rattle.net_model.specs.NetRoutes.{routes_of}
use Rattle.net_model.specs.Views.{flow_of}
use Rattle.net_cells.specs.Numbered.{arrival, arrival_of}
use Rattle.flow_watch.specs.watch_laws.Entries.{entries}
use Rattle.flow_watch.proofs.watch_laws.Entered.{in_order}
use Rattle.run_watch.proofs.first_breaches.CurvesRead.{flow_reads}
use Rattle.run_watch.proofs.first_breaches.Parts.{none_dead, size_one, arrival_one, enters_in_order, live_flow_is}
use Rattle.run_watch.proofs.first_breaches.flows.breaches_of.Goals as goal

pub returns-in-None-clause-size : goal.returns-in-None-clause-size
returns-in-None-clause-size c = none_dead c.args.net.now c.args.run.now 0 c.args.number (omega arith) c.in-None.ensures.flow

pub returns-in-None-clause-arrival : goal.returns-in-None-clause-arrival
returns-in-None-clause-arrival c = none_dead c.args.net.now c.args.run.now 1 c.args.number (omega arith) c.in-None.ensures.flow

pub arrival_breach-arrival-requires-clause-reads : goal.arrival_breach-arrival-requires-clause-reads
arrival_breach-arrival-requires-clause-reads c =
    let net = c.args.net.now in
    let run = c.args.run.now in
    let flow = c.args.number in
    let R = c.requires.sizes.1 in
    let f = c.in-Some.flow.now in
    let steps_are = c.deref.ensures.value ∙ ap (λ (r : SpecRun). r.steps) c.run.view_is in
    let packets_are : c.as_slice-entered.result.now ≡ entries flow run.steps = c.as_slice-entered.ensures.value ∙ c.in_ok-packets-in-Some.ensures ∙ ap (entries flow) steps_are in
    let curve : f.arrival ≡ arrival net flow = ap arrival_of c.in-Some.ensures.flow in
    let stands = R.arrivals flow (live_flow_is net flow (flow_of f) c.in-Some.ensures.flow) in
    flow_reads c.requires.sizes.0 run.end flow f.arrival run.steps c.as_slice-entered.result.now R.limited c.keeps.ensures
    (subst (λ (k : SpecCurve). Stands c.requires.sizes.0 (curve_numbers run.end k)) (sym curve) stands) R.steps (in_order (routes_of net) run flow c.requires.lawful) packets_are

pub returns-in_ok-packets-in-Some : goal.returns-in_ok-packets-in-Some
returns-in_ok-packets-in-Some c =
    let net = c.args.net.now in
    let run = c.args.run.now in
    let flow = c.args.number in
    let f = flow_of c.in-Some.flow.now in
    let steps_are = c.deref.ensures.value ∙ ap (λ (r : SpecRun). r.steps) c.run.view_is in
    let packets_are = c.as_slice-entered.ensures.value ∙ c.in_ok-packets-in-Some.ensures ∙ ap (entries flow) steps_are in
    let order = enters_in_order net run flow c.requires.lawful packets_are in
    record {
      size = size_one net run flow f c.size_breach-size.result c.in-Some.ensures.flow (c.size_breach-size.ensures run packets_are order);
      arrival = arrival_one net run flow f c.arrival_breach-arrival.result c.in-Some.ensures.flow (c.arrival_breach-arrival.ensures run packets_are order);
    }
