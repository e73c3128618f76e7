use Rattle.rational.specs.Euclid.{gcd_pos}
use Rattle.fraction128.proofs.division.least_common_multiple.Goals as goal

pub quotient-requires : goal.quotient-requires
quotient-requires c = rw c.gcd_of.ensures (gcd_pos c.args.a c.args.b c.requires)
