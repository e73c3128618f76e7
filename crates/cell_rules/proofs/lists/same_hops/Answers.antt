use Rattle.std.proofs.Common.{length, arith}
use Rattle.cell_numbers.specs.Chosen.{chosen}
use Rattle.cell_rules.proofs.Tells.{tells_no}
use Rattle.cell_rules.proofs.SameHops.{same_flat, other_flat, chosen_blank, chosen_own}
use Rattle.cell_rules.proofs.lists.same_hops.Goals as goal

pub returns-then-not-is_same_hop : goal.returns-then-not-is_same_hop
returns-then-not-is_same_hop c =
    let old = c.args.old.now in
    let new = c.args.new.now in
    let here = c.args.place.1 in
    let there = c.args.other.1 in
    other_flat (chosen old c.args.place.0 here c.args.except) (chosen new c.args.other.0 there c.args.except)
    (length old.flows) (length new.flows) c.loop-flow.flow c.chosen_at-here.result c.chosen_at-there.result
    (chosen_blank old c.args.place.0 here c.args.except) (chosen_blank new c.args.other.0 there c.args.except)
    (chosen_own old c.args.place.0 here c.args.except) (chosen_own new c.args.other.0 there c.args.except)
    c.chosen_at-here.ensures c.chosen_at-there.ensures
    (tells_no c.chosen_at-here.result c.chosen_at-there.result c.is_same_hop.result c.is_same_hop.ensures
    c.if-not-is_same_hop.true)

pub returns : goal.returns
returns c =
    let old = c.args.old.now in
    let new = c.args.new.now in
    let here = c.args.place.1 in
    let there = c.args.other.1 in
    same_flat (chosen old c.args.place.0 here c.args.except) (chosen new c.args.other.0 there c.args.except)
    (length old.flows) (length new.flows) c.loop-flow.flow
    (omega (arith, c.flows-old_flows.ensures.kept.few_flows, c.loop-flow-test.false))
    (omega (arith, c.flows-new_flows.ensures.kept.few_flows, c.loop-flow-test.false))
    (chosen_blank old c.args.place.0 here c.args.except) (chosen_blank new c.args.other.0 there c.args.except)
    c.loop-flow.invariant
