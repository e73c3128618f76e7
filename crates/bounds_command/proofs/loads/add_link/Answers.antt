use Rattle.std.proofs.Common.{◌+◌, ℕ, List, sym, subst, arith}
use Rattle.tree_network.specs.Networks.{IsLink}
use Rattle.tree_network.specs.declared.network.Link.{Link}
use Rattle.tree_bounds.specs.Tables.{items_of}
use Rattle.bounds_command.proofs.Rates.{Adding, adds_node, frame_small}
use Rattle.bounds_command.proofs.loads.add_link.Goals as goal

pub overflow_mul-link : goal.overflow_mul-link
overflow_mul-link c =
    let net = c.args.network.now in
    let link = c.index-link.result.now in
    let L : Link → Type 0 = λ l. IsLink net l in
    let is = subst L (sym c.index-link.ensures) (c.requires.network.links c.args.number link c.requires.inside) in
    let few = frame_small net link is in
    omega (arith, few)

pub add_at-requires-clause-fits : goal.add_at-requires-clause-fits
add_at-requires-clause-fits c =
    let net = c.args.network.now in
    let link = c.index-link.result.now in
    let L : Link → Type 0 = λ l. IsLink net l in
    let is = subst L (sym c.index-link.ensures) (c.requires.network.links c.args.number link c.requires.inside) in
    (adds_node net c.args.number c.link_rate-rate.result c.loop-node.node-index c.deref-node-items.result.now link
    (items_of c.loop-node.rates) c.requires.network is c.deref-node-items.ensures.value c.link_rate-rate.ensures
    c.loop-node-test.true c.loop-node.invariant).fits

pub loop-node-preserved : goal.loop-node-preserved
loop-node-preserved c =
    let net = c.args.network.now in
    let link = c.index-link.result.now in
    let nodes = c.deref-node-items.result.now in
    let k = c.loop-node.node-index in
    let L : Link → Type 0 = λ l. IsLink net l in
    let is = subst L (sym c.index-link.ensures) (c.requires.network.links c.args.number link c.requires.inside) in
    let P : List (List ℕ) → Type 0 = λ rates. Adding net c.args.number c.link_rate-rate.result (k + 1) nodes rates in
    subst P (sym c.add_at.ensures)
    (adds_node net c.args.number c.link_rate-rate.result k nodes link (items_of c.loop-node.rates) c.requires.network is
    c.deref-node-items.ensures.value c.link_rate-rate.ensures c.loop-node-test.true c.loop-node.invariant).next
