-- The bounds of the sums of a member of each.
use Rattle.rational.proofs.Bounds.{infimum_sum, supremum_sum}
use Rattle.rational.proofs.bound_laws.summed_families.Goals as goal

pub returns-clause-infimum : goal.returns-clause-infimum
returns-clause-infimum g c = λ F G x y. infimum_sum F G x y

pub returns-clause-supremum : goal.returns-clause-supremum
returns-clause-supremum g c = λ F G x y. supremum_sum F G x y
