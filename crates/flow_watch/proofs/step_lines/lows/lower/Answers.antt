use Rattle.std.proofs.Common.{arith, length-set}
use Rattle.flow_watch.proofs.step_lines.LowTrees.{lowering_none, lowering_more, all_lowered, still_covers}
use Rattle.flow_watch.proofs.step_lines.lows.lower.Goals as goal

pub loop-at-init : goal.loop-at-init
loop-at-init c = record { within = c.requires; so_far = lowering_none c.args.nodes.now c.args.value c.args.leaf }

pub loop-at-preserved : goal.loop-at-preserved
loop-at-preserved c =
    let had = c.loop-at.invariant.within in
    let same = length-set c.loop-at.nodes c.loop-at.at c.lesser-low.result in
    record {
      within = omega (arith, same);
      so_far = lowering_more c.args.nodes.now c.loop-at.nodes c.args.value c.index-nodes-at.result c.lesser-low.result c.args.leaf c.loop-at.at had c.index-nodes-at.is c.lesser-low.ensures c.loop-at.invariant.so_far;
    }

pub returns-clause-covers : goal.returns-clause-covers
returns-clause-covers c = all_lowered c.args.nodes.now c.loop-at.nodes c.args.value c.args.leaf c.loop-at.at c.loop-at-test.false c.loop-at.invariant.so_far

pub returns-clause-keeps : goal.returns-clause-keeps
returns-clause-keeps c = λ k v C. still_covers c.args.nodes.now c.loop-at.nodes c.args.value v c.args.leaf c.loop-at.at k c.loop-at.invariant.so_far C
