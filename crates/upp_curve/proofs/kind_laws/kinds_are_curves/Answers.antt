use Rattle.upp_curve.proofs.KindsAre.{kinds_have_their_values, kinds_are_normal}
use Rattle.upp_curve.proofs.kind_laws.kinds_are_curves.Goals as goal

pub returns-clause-values : goal.returns-clause-values
returns-clause-values c = kinds_have_their_values

pub returns-clause-normal : goal.returns-clause-normal
returns-clause-normal c = kinds_are_normal
