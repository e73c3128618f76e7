use Rattle.std.proofs.Common.{ap, arith, length}
use Rattle.std.specs.Prelude.{None}
use Rattle.std.specs.Option.{option_map}
use Rattle.std.proofs.lemmas.List.{length-map}
use Rattle.net_model.specs.Views.{flow_of}
use Rattle.cell_rules.proofs.Tells.{tells_yes, tells_no}
use Rattle.cell_rules.proofs.SameHops.{none_chosen, some_chosen}
use Rattle.cell_rules.proofs.lists.is_unused.Goals as goal

pub loop-flow-preserved : goal.loop-flow-preserved
loop-flow-preserved c =
    none_chosen c.args.net.now c.args.server c.args.pick c.loop-flow.flow c.chosen_at-found.result c.loop-flow.invariant c.chosen_at-found.ensures
    (tells_yes c.chosen_at-found.result None c.is_same_hop.result c.is_same_hop.ensures c.if-not-is_same_hop.false)

pub returns-then-not-is_same_hop : goal.returns-then-not-is_same_hop
returns-then-not-is_same_hop c =
    let same = ap length c.flows.ensures.flows in
    let all = length-map c.flows.result.now (option_map flow_of) in
    let t = c.loop-flow-test.true in
    some_chosen c.args.net.now c.args.server c.args.pick c.loop-flow.flow c.chosen_at-found.result (omega (arith, same, all, t)) c.chosen_at-found.ensures
    (tells_no c.chosen_at-found.result None c.is_same_hop.result c.is_same_hop.ensures c.if-not-is_same_hop.true)
