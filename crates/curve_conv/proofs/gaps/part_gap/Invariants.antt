use Rattle.upp_curve.specs.Curve.{value_at}
use Rattle.curve_conv.specs.Scans.{sizes_in}
use Rattle.curve_conv.proofs.GapWalks.{PartGapWalk}
use Rattle.curve_conv.proofs.GridSteps.{steps_to}
use Rattle.curve_conv.proofs.WalkGrid.{walk_grid}
use Rattle.curve_conv.proofs.gaps.part_gap.Given as goal

abbrev pub invariant-times : goal.invariant-times
invariant-times l = PartGapWalk (sizes_in l.s.first.now l.s.second.now l.s.end) (value_at l.s.first.now) (value_at l.s.second.now) l.first l.second l.fn.from l.s.end l.t l.gap

abbrev pub decreases-times : goal.decreases-times
decreases-times l = steps_to (walk_grid (sizes_in l.s.first.now l.s.second.now l.s.end)) l.s.end l.t
