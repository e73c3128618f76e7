use Rattle.std.proofs.Common.{◌∙◌, ap}
use Rattle.std.proofs.lemmas.List.{take_all}
use Rattle.tree_bounds.specs.Groups.{longest_group}
use Rattle.tree_bounds.proofs.PartsMade.{longest_more, longest_zero}
use Rattle.tree_bounds.proofs.groups.longest_in.Goals as goal

pub loop-group-preserved : goal.loop-group-preserved
loop-group-preserved c =
    longest_more c.args.groups.now c.loop-group.group-index c.loop-group.longest c.greater-longest.result _ c.loop-group-test.true c.loop-group.invariant c.greater-longest.ensures

pub returns : goal.returns
returns c = c.loop-group.invariant ∙ ap longest_group (take_all c.loop-group.group-index c.args.groups.now c.loop-group-test.false)

pub loop-group-init : goal.loop-group-init
loop-group-init c = longest_zero c.args.groups.now
