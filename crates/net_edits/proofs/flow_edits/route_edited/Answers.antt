use Rattle.std.proofs.Common.{◌≡◌, List, ℕ, Some, sym, ap, ◌∙◌, None, true, Option}
use Rattle.net_model.specs.Networks.{NetFlow}
use Rattle.net_model.specs.Views.{flow_of}
use Rattle.net_edits.specs.Values.{may_be_path, quanta_fit}
use Rattle.net_edits.specs.Changed.{put_flow, with_path}
use Rattle.net_edits.specs.Edited.{fitting, route_edited}
use Rattle.net_edits.proofs.Steps.{passed}
use Rattle.net_edits.proofs.Pathways.{way_of}
use Rattle.net_edits.proofs.ServerEdits.{unfit_reply, fitting_reply}
use Rattle.net_edits.proofs.FlowEdits.{route_found, path_stands, fitting_stands, lanes_long}
use Rattle.net_edits.proofs.flow_edits.route_edited.Goals as goal
use Rattle.net_edits.proofs.flow_edits.route_edited.Goals.{After-may_be_path, In_ok-flow}

told : (c : After-may_be_path) → may_be_path c.args.net.now c.in_ok-path.path.items c.in_ok-lanes.lanes.items ≡ c.may_be_path.result
told c =
    let net = c.args.net.now in
    ap (λ (xs : List ℕ). may_be_path net c.in_ok-path.path.items xs) (sym c.deref-2.ensures.value)
    ∙ ap (λ (xs : List ℕ). may_be_path net xs c.deref-2.result.now) (sym c.deref.ensures.value)
    ∙ sym c.may_be_path.ensures

-- ---- the flow with the path
found_edit : (c : In_ok-flow) → may_be_path c.args.net.now c.in_ok-path.path.items c.in_ok-lanes.lanes.items ≡ true
    → route_edited c.args.net.now c.args.name.now c.args.entries.now
    ≡ fitting (put_flow c.args.net.now c.in_ok-number.number (Some (flow_of c.in_ok-flow.flow))) None
found_edit c way =
    let net = c.args.net.now in
    let i = c.in_ok-number.number in
    let path = c.in_ok-path.path.items in
    let lanes = c.in_ok-lanes.lanes.items in
    route_found net c.args.name.now i c.args.entries.now path lanes (flow_of c.flow_of_number.result.now) c.in_ok-number.ensures.number
    c.in_ok-path.ensures.numbers c.in_ok-lanes.ensures c.flow_of_number.ensures.flow
    ∙ passed (may_be_path net path lanes) _ way
    ∙ ap (λ (p : Option NetFlow). fitting (put_flow net i p) None) (sym c.in_ok-flow.ensures)

pub returns-then-not-flow_fits : goal.returns-then-not-flow_fits
returns-then-not-flow_fits c =
    let at = goal.at.returns-then-not-flow_fits c in
    let i = c.in_ok-number.number in
    unfit_reply (put_flow c.args.net.now i (Some (flow_of c.in_ok-flow.flow))) _
    (found_edit at.In_ok-flow (told at.After-may_be_path ∙ c.if-not-may_be_path.false))
    (sym (c.flow_fits.ensures i c.in_ok-number.ensures.live) ∙ c.if-not-flow_fits.true)

pub returns : goal.returns
returns c =
    let at = goal.at.returns c in
    let net = c.args.net.now in
    let i = c.in_ok-number.number in
    let path = c.in_ok-path.path.items in
    let lanes = c.in_ok-lanes.lanes.items in
    let found = c.flow_of_number.ensures in
    let old = flow_of c.flow_of_number.result.now in
    let way : may_be_path net path lanes ≡ true = told at.After-may_be_path ∙ c.if-not-may_be_path.false in
    let fits : quanta_fit (put_flow net i (Some (flow_of c.in_ok-flow.flow))) ≡ true =
    sym (c.flow_fits.ensures i c.in_ok-number.ensures.live) ∙ c.if-not-flow_fits.false in
    fitting_reply net _ _ (found_edit at.In_ok-flow way) fits
    (fitting_stands net i old found.accepted found.flow found.kept (with_path path lanes old) (Some (flow_of c.in_ok-flow.flow))
    c.in_ok-flow.ensures
    (path_stands net i old found.accepted found.flow found.kept path lanes (way_of net path lanes way)
    (lanes_long net c.args.entries.now path lanes c.in_ok-path.ensures.numbers c.in_ok-lanes.ensures)) fits)
