use Rattle.rational.specs.Rational.{◌*ℚ◌}
use Rattle.plain_operators.proofs.pointwise.Leanings.{lower_is}
use Rattle.plain_operators.proofs.pointwise.leaning.number_lower.Goals as goal

pub returns : goal.returns
returns c = lower_is c.args.v c.args.icept c.in_ok-through.through c.lesser.result (c.args.rate *ℚ c.args.t) c.in_ok-through.ensures c.lesser.ensures
