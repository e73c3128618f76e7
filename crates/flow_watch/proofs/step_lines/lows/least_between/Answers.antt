use Rattle.std.proofs.Common.{◌-◌, refl}
use Rattle.flow_watch.proofs.step_lines.LowTrees.{least_none, least_more, least_is}
use Rattle.flow_watch.proofs.step_lines.lows.least_between.Goals as goal

pub loop-from-init : goal.loop-from-init
loop-from-init c = least_none c.args.nodes.now c.args.low c.args.high c.args.most c.requires.some c.requires.in_range

pub loop-from-preserved : goal.loop-from-preserved
loop-from-preserved c =
    least_more c.args.nodes.now c.args.low c.args.high c.loop-from.from c.loop-from.upto (c.loop-from.upto - 1) c.loop-from.least c.index-nodes-from.result c.index-nodes-last.result c.lesser-pair.result c.lesser-least.result
    c.loop-from-test.true refl c.index-nodes-from.is c.index-nodes-last.is c.lesser-pair.ensures c.lesser-least.ensures c.loop-from.invariant

pub returns : goal.returns
returns c = least_is c.args.nodes.now c.args.low c.args.high c.loop-from.from c.loop-from.upto c.loop-from.least c.loop-from-test.false c.loop-from.invariant
