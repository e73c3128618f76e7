-- A family that is moved has its bounds moved.
use Rattle.rational.proofs.Bounds.{infimum_shift, supremum_shift}
use Rattle.rational.proofs.bound_laws.shifted_families.Goals as goal

pub returns-clause-infimum : goal.returns-clause-infimum
returns-clause-infimum g c = λ F G d x. infimum_shift F G d x

pub returns-clause-supremum : goal.returns-clause-supremum
returns-clause-supremum g c = λ F G d x. supremum_shift F G d x
