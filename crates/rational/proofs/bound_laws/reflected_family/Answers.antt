-- The bounds of the numbers taken from one number.
use Rattle.rational.proofs.Bounds.{reflected_infimum, reflected_supremum}
use Rattle.rational.proofs.bound_laws.reflected_family.Goals as goal

pub returns : goal.returns
returns g c = record { infimum = λ f d x. reflected_infimum f d x; supremum = λ f d x. reflected_supremum f d x }
