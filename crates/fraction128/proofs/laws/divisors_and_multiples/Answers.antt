use Rattle.rational.specs.Euclid.{gcd_is}
use Rattle.rational.proofs.Multiples.{lcm_left, lcm_right, lcm_least}
use Rattle.fraction128.proofs.CommonMultiple.{common_multiple_least}
use Rattle.fraction128.proofs.laws.divisors_and_multiples.Goals as goal

pub returns-clause-divisor : goal.returns-clause-divisor
returns-clause-divisor c = λ a b. gcd_is a b

pub returns-clause-multiple : goal.returns-clause-multiple
returns-clause-multiple c = λ a b some other.
    record { left = lcm_left a b; right = lcm_right a b; least = λ n p q. lcm_least a b n some other p q }

pub returns-clause-fraction : goal.returns-clause-fraction
returns-clause-fraction c = λ a b some other. common_multiple_least a b some other
