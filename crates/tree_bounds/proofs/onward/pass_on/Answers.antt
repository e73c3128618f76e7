use Rattle.std.proofs.Common.{◌<◌, None, length, get_or, arith, ◌∙◌, ap}
use Rattle.std.proofs.lemmas.List.{get_or_default}
use Rattle.tree_network.specs.Spots.{spot_at}
use Rattle.tree_bounds.specs.Stairs.{later_stair}
use Rattle.tree_bounds.proofs.Onwards.{none_passed, one_passed}
use Rattle.tree_bounds.proofs.onward.pass_on.Goals as goal

pub loop-n-init : goal.loop-n-init
loop-n-init c = none_passed c.args.spots.now c.args.numbers.now c.args.rows.now c.args.stairs.now.items

pub loop-n-preserved : goal.loop-n-preserved
loop-n-preserved c =
    let spots = c.args.spots.now in
    let n = get_or c.args.numbers.now c.loop-n.n-index 0 in
    let from = (spot_at spots n).from in
    let stairs = c.loop-n.stairs.items in
    let inside : from < length stairs = let lt = c.requires.before c.loop-n.n-index c.loop-n-test.true in omega (arith, lt, c.loop-n.invariant.count) in
    let stair = c.index.ensures ∙ get_or_default stairs from c.index.result.now None inside in
    let is = c.stair_after.ensures ∙ ap (λ l. later_stair l (get_or c.args.rows.now (spot_at spots from).queue None)) stair in
    one_passed spots c.args.numbers.now c.args.rows.now (length c.args.rows.now) c.loop-n.n-index c.args.stairs.now.items stairs c.stair_after.result c.requires c.loop-n-test.true is c.loop-n.invariant
