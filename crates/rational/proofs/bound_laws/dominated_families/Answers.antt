-- Families that dominate each other have the same bounds.
use Rattle.rational.proofs.Bounds.{same_infimum, same_supremum}
use Rattle.rational.proofs.bound_laws.dominated_families.Goals as goal

pub returns-clause-infimum : goal.returns-clause-infimum
returns-clause-infimum g c = λ F G x. same_infimum F G x

pub returns-clause-supremum : goal.returns-clause-supremum
returns-clause-supremum g c = λ F G x. same_supremum F G x
