use Rattle.std.proofs.Common.{◌-◌, ◌++◌, ◌<◌, length, arith, sym, ◌∙◌, ap, append-nil}
use Rattle.std.proofs.lemmas.List.{get_or_default}
use Rattle.tree_network.specs.Networks.{longest_frame, no_node}
use Rattle.tree_network.proofs.SpotLists.{in_zero, link_more, link_length, is_spot_of}
use Rattle.tree_network.proofs.spots.add_link.Goals as goal

pub loop-place-init : goal.loop-place-init
loop-place-init c =
    sym (append-nil c.args.spots.now.items) ∙ ap (λ l. c.args.spots.now.items ++ l) (sym (in_zero c.args.number (length c.args.spots.now.items) c.args.link.now))

pub overflow_sub-first : goal.overflow_sub-first
overflow_sub-first c =
    let count = link_length c.args.number c.args.link.now c.loop-place.place c.args.spots.now.items c.loop-place.spots.items c.loop-place.invariant in
    omega (arith, count)

pub overflow_cast-frame : goal.overflow_cast-frame
unfolding longest_frame
overflow_cast-frame c = omega (arith, c.requires.frame)

pub overflow_cast-from : goal.overflow_cast-from
overflow_cast-from c =
    let count = link_length c.args.number c.args.link.now c.loop-place.place c.args.spots.now.items c.loop-place.spots.items c.loop-place.invariant in
    omega (arith, count, c.spot_before-earlier.ensures.small, c.requires.few, c.loop-place-test.true, c.len-place-end.ensures)

pub loop-place-preserved : goal.loop-place-preserved
loop-place-preserved c =
    let link = c.args.link.now in
    let place = c.loop-place.place in
    let old = c.args.spots.now.items in
    let count = link_length c.args.number link place old c.loop-place.spots.items c.loop-place.invariant in
    let inside : place < length link.nodes.items = omega (arith, c.loop-place-test.true, c.len-place-end.ensures) in
    let node = c.index-node.ensures ∙ get_or_default link.nodes.items place c.index-node.result.now no_node inside in
    link_more c.args.number link place old c.loop-place.spots.items c.push.new.self.items _ c.loop-place.invariant c.in_ok-push.ensures.items
    (is_spot_of c.args.number (length old) link place c.index-node.result.now c.source_of-before.result c.spot_before-earlier.result (c.len.result - place) node c.source_of-before.ensures.value
    (omega (arith, count)) c.spot_before-earlier.ensures.value)
