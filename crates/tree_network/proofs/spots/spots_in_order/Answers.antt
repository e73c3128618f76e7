use Rattle.std.proofs.Common.{◌<◌, length, arith, sym, ◌∙◌, ap, subst, refl, List, ◌++◌}
use Rattle.tree_network.specs.declared.spots.Spot.{Spot}
use Rattle.std.proofs.lemmas.Option.{slice_get_read}
use Rattle.tree_network.specs.Networks.{IsLink, no_port, node_at}
use Rattle.tree_network.specs.declared.network.Link.{Link}
use Rattle.tree_network.specs.Spots.{spots_in}
use Rattle.tree_network.proofs.FewSpots.{few_nodes, few_below}
use Rattle.tree_network.proofs.SpotLists.{below_zero, below_more}
use Rattle.tree_network.proofs.spots.spots_in_order.Goals as goal

pub loop-number-init : goal.loop-number-init
loop-number-init c = c.in_ok-spots.ensures.items ∙ sym (below_zero c.args.network.now)

pub add_link-requires-clause-small : goal.add_link-requires-clause-small
add_link-requires-clause-small c = omega (arith, c.loop-number-test.true, c.len-number-end.ensures, c.requires.few_links)

pub add_link-requires-clause-frame : goal.add_link-requires-clause-frame
add_link-requires-clause-frame c =
    let inside : c.loop-number.number < length c.args.network.now.links.items = omega (arith, c.loop-number-test.true, c.len-number-end.ensures) in
    let P : Link → Type 0 = λ l. IsLink c.args.network.now l in
    (subst P (sym c.index.ensures) (c.requires.links c.loop-number.number c.index.result.now inside)).frame

pub add_link-requires-clause-few : goal.add_link-requires-clause-few
add_link-requires-clause-few c =
    let net = c.args.network.now in
    let number = c.loop-number.number in
    let inside : number < length net.links.items = omega (arith, c.loop-number-test.true, c.len-number-end.ensures) in
    let P : Link → Type 0 = λ l. IsLink net l in
    let nodes = few_nodes net c.index.result.now (subst P (sym c.index.ensures) (c.requires.links number c.index.result.now inside)) in
    let before = few_below net number c.requires (omega (arith, inside)) in
    let count = ap length c.loop-number.invariant in
    omega (arith, inside, nodes, before, count, c.requires.few_links, c.requires.few_ports)

pub add_link-requires-clause-hangs : goal.add_link-requires-clause-hangs
add_link-requires-clause-hangs c =
    let inside : c.loop-number.number < length c.args.network.now.links.items = omega (arith, c.loop-number-test.true, c.len-number-end.ensures) in
    let P : Link → Type 0 = λ l. IsLink c.args.network.now l in
    let l = subst P (sym c.index.ensures) (c.requires.links c.loop-number.number c.index.result.now inside) in
    record {
      hangs = λ place h. (l.nodes place h).hangs;
      ports = λ place h. let lt = (l.nodes place h).port in omega (arith, lt, c.requires.few_ports);
      queues = λ place h.
          let node = l.nodes place h in
          let most = (c.requires.ports (node_at c.index.result.now place).port no_port node.port).queues in
          omega (arith, node.queue, most);
    }

pub loop-number-preserved : goal.loop-number-preserved
loop-number-preserved c =
    let net = c.args.network.now in
    let inside : c.loop-number.number < length net.links.items = omega (arith, c.loop-number-test.true, c.len-number-end.ensures) in
    let is = slice_get_read net.links.items (length net.links.items) c.loop-number.number c.index.result.now refl inside c.index.ensures in
    let S = λ (xs : List Spot). xs ++ spots_in c.loop-number.number (length xs) c.index.result.now (length c.index.result.now.nodes.items) in
    c.in_ok-add_link.ensures ∙ ap S c.loop-number.invariant ∙ sym (below_more net c.loop-number.number c.index.result.now is)
