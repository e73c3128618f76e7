use Rattle.std.proofs.Common.{◌≡◌, get_or, sym, subst, Option, Some}
use Rattle.net_model.specs.declared.flow.Flow.{Flow}
use Rattle.net_model.specs.Views.{flow_of}
use Rattle.net_cells.proofs.Stored.{flow_stored, flow_kept}
use Rattle.net_cells.proofs.numbered.live_flow.Goals as goal

pub returns-in-Some-clause-kept : goal.returns-in-Some-clause-kept
returns-in-Some-clause-kept c =
    let fs = c.flows-flows.result.now in
    let net = c.args.net.now in
    let i = c.args.flow in
    let P : Option Flow → Type 0 = λ x. x ≡ get_or fs i x in
    let is = subst P c.in-Some.is c.index-flows-place.is in
    flow_kept net i (flow_of c.in-Some.found) c.flows-flows.ensures.kept
    (sym (flow_stored net fs i (Some c.in-Some.found) c.flows-flows.ensures.flows c.if-place-flows.true is))
