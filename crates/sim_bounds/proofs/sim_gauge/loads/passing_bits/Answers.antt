use Rattle.std.proofs.Common.{◌≡◌, ◌<◌, length, get_or, sym, ap, ◌∙◌, subst, arith, Some, None}
use Rattle.net_model.specs.NetRoutes.{hops_along}
use Rattle.net_model.specs.Views.{flow_of}
use Rattle.sim_bounds.specs.Horizons.{path_bits}
use Rattle.sim_bounds.proofs.sim_gauge.FlowsOf.{flow_route, flow_there}
use Rattle.sim_bounds.proofs.sim_gauge.loads.passing_bits.Goals as goal

pub returns-in-Some : goal.returns-in-Some
returns-in-Some c =
    let fs = c.args.flows.now in
    let place = c.args.packet.now.flow in
    let flow = c.in-Some.flow in
    let s = c.args.server in
    let bits = c.args.packet.now.bits in
    let there : Some flow ≡ get_or fs place (Some flow) = subst (λ x. x ≡ get_or fs place x) c.in-Some.is c.index-flows-place.is in
    let inside : place < length fs = omega arith in
    let known = c.requires (flow_of flow) (flow_there fs place flow inside there) in
    let value = c.deref.ensures.value in
    c.bits_on.ensures flow.queues.items (known ∙ ap length (sym value)) ∙ ap (λ p. path_bits s (hops_along p flow.queues.items) bits) value
    ∙ ap (λ hs. path_bits s hs bits) (sym (flow_route fs place (Some flow) inside there))

pub returns-in-None : goal.returns-in-None
returns-in-None c =
    let fs = c.args.flows.now in
    let place = c.args.packet.now.flow in
    let there : None ≡ get_or fs place None = subst (λ x. x ≡ get_or fs place x) c.in-None.is c.index-flows-place.is in
    ap (λ hs. path_bits c.args.server hs c.args.packet.now.bits) (sym (flow_route fs place None (omega arith) there))
