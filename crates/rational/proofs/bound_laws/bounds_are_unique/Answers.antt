-- An infimum is the greatest lower bound, a supremum the least upper bound.
use Rattle.rational.proofs.Bounds.{greatest, infimum_unique, smallest, supremum_unique}
use Rattle.rational.proofs.bound_laws.bounds_are_unique.Goals as goal

pub returns-clause-infimum : goal.returns-clause-infimum
returns-clause-infimum g c = record { greatest = λ F x y. greatest F x y; only = λ F x y. infimum_unique F x y }

pub returns-clause-supremum : goal.returns-clause-supremum
returns-clause-supremum g c = record { least = λ F x y. smallest F x y; only = λ F x y. supremum_unique F x y }
