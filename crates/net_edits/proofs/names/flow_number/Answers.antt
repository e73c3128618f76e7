use Rattle.std.proofs.Common.{Err, List, ℕ, ap, ◌∙◌, sym}
use Rattle.std.proofs.lemmas.Result.{err_from_is_err_and}
use Rattle.net_edits.specs.Refusals.{unknown_name}
use Rattle.net_edits.proofs.Found.{flow_found, flow_unknown}
use Rattle.net_edits.proofs.FlowEdits.{live_at}
use Rattle.net_edits.proofs.names.flow_number.Goals as goal

pub returns-in-Some-clause-number : goal.returns-in-Some-clause-number
returns-in-Some-clause-number c =
    flow_found c.args.net.now c.args.name.now c.in-Some.number c.keeps.ensures.names.1 c.in-Some.ensures

pub returns-in-Some-clause-live : goal.returns-in-Some-clause-live
returns-in-Some-clause-live c = live_at c.args.net.now c.in-Some.number c.in-Some.ensures.flow c.in-Some.ensures.is

pub returns-in_ok-from_str-in-None-clause-number : goal.returns-in_ok-from_str-in-None-clause-number
returns-in_ok-from_str-in-None-clause-number c =
    flow_unknown c.args.net.now c.args.name.now c.in-None.ensures
    ∙ ap (λ (bytes : List ℕ). Err (unknown_name bytes)) (sym c.in_ok-from_str-in-None.ensures.ok)

pub returns-in_ok-from_str-in-None-clause-unknown : goal.returns-in_ok-from_str-in-None-clause-unknown
returns-in_ok-from_str-in-None-clause-unknown c = flow_unknown c.args.net.now c.args.name.now c.in-None.ensures

pub returns-in_err-from_str-in-None-clause-unknown : goal.returns-in_err-from_str-in-None-clause-unknown
returns-in_err-from_str-in-None-clause-unknown c =
    let p = err_from_is_err_and c.from_residual.result c.from_residual.ensures.1 in
    rw p.1 (flow_unknown c.args.net.now c.args.name.now c.in-None.ensures)
