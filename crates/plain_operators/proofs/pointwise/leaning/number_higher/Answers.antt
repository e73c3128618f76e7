use Rattle.rational.specs.Rational.{◌*ℚ◌}
use Rattle.plain_operators.proofs.pointwise.Leanings.{higher_is}
use Rattle.plain_operators.proofs.pointwise.leaning.number_higher.Goals as goal

pub returns : goal.returns
returns c = higher_is c.args.v c.args.icept c.in_ok-through.through c.greater.result (c.args.rate *ℚ c.args.t) c.in_ok-through.ensures c.greater.ensures
