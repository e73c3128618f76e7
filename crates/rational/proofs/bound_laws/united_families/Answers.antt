-- The bounds of two families together.
use Rattle.rational.proofs.Bounds.{infimum_union, supremum_union}
use Rattle.rational.proofs.bound_laws.united_families.Goals as goal

pub returns-clause-infimum : goal.returns-clause-infimum
returns-clause-infimum g c = λ F G x y. infimum_union F G x y

pub returns-clause-supremum : goal.returns-clause-supremum
returns-clause-supremum g c = λ F G x y. supremum_union F G x y
