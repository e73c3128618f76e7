use Rattle.std.specs.Prelude.{◌≡◌, ◌≤◌, nat_abs}
use Rattle.std.proofs.Common.{arith}
use Rattle.rational.specs.Rational.{den}
use Rattle.plain_operators.proofs.pointwise.StraightSums.{little_in}
use Rattle.plain_operators.proofs.pointwise.straight.is_little.Goals as goal

pub returns : goal.returns
returns c =
    let same : den c.args.x ≡ c.args.denominator = omega arith in
    let most : nat_abs c.args.x.num ≤ c.args.size = omega arith in
    λ k. little_in c.args.x c.args.denominator c.args.size same most
