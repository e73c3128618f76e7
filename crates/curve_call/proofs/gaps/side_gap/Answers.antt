use Rattle.upp_curve.specs.Curve.{value_at}
use Rattle.curve_call.proofs.GapWalk.{until_end}
use Rattle.curve_call.proofs.gaps.side_gap.Goals as goal

pub returns-clause-gap : goal.returns-clause-gap
returns-clause-gap c = until_end c.args.from c.args.end (value_at c.args.f.now) (value_at c.args.g.now) c.gap_until.result c.gap_until.ensures.gap
