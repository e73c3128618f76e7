use Rattle.std.specs.Option.{option_map}
use Rattle.net_model.specs.Views.{flow_of}
use Rattle.cell_rules.proofs.edit_sites.PutBack.{place_at, flow_put_back}
use Rattle.cell_rules.proofs.edit_sites.replaced.flow_at.Goals as goal

pub returns-in_ok-flow : goal.returns-in_ok-flow
returns-in_ok-flow c = λ new made.
    flow_put_back c.args.net.now new c.args.number (option_map flow_of c.in_ok-flow.flow)
    (place_at c.flows-flows.result.now c.args.net.now.flows c.args.number c.index-flows-place.result c.in_ok-flow.flow
    c.flows-flows.ensures.flows c.if-place-flows.true c.index-flows-place.is c.in_ok-flow.ensures) made
