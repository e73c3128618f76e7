use Rattle.plain_operators.proofs.pointwise.LatticeLimits.{bounds_compared}
use Rattle.plain_operators.proofs.pointwise.lattice.least_number.Goals as goal

pub least_periods-requires : goal.least_periods-requires
least_periods-requires c = bounds_compared c.args.of c.args.f.now c.args.g.now c.args.first.now c.requires.curves c.requires.window

pub least_by_lines-requires : goal.least_by_lines-requires
least_by_lines-requires c = bounds_compared c.args.of c.args.f.now c.args.g.now c.args.first.now c.requires.curves c.requires.window
