use Rattle.run_watch.specs.FirstEnds.{mark_of}
use Rattle.run_watch.proofs.Gathered.{mapped, all_mapped}
use Rattle.run_watch.proofs.shorts.marks_of.Goals as goal

pub loop-p-preserved : goal.loop-p-preserved
loop-p-preserved c =
    mapped (mark_of c.args.slope) c.p-item.result c.args.points.now c.loop-p.p-index c.mark_of.result c.loop-p.marks.items c.push.new.self.items c.loop-p-test.true c.p-item.is c.mark_of.ensures
    c.in_ok-push.ensures.items c.loop-p.invariant

pub returns : goal.returns
returns c = all_mapped (mark_of c.args.slope) c.args.points.now c.loop-p.p-index c.loop-p.marks.items c.loop-p-test.false c.loop-p.invariant
