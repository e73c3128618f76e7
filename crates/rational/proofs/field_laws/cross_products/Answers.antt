-- What two fractions are to each other, their cross products are.
use Rattle.rational.specs.Fractions.{frac-same, frac-same_out}
use Rattle.rational.proofs.Over.{le_frac, lt_frac}
use Rattle.rational.proofs.field_laws.cross_products.Goals as goal

pub returns : goal.returns
returns c = λ a d b e. record { equal = (frac-same_out a d b e, frac-same a d b e); at_most = le_frac a d b e; less = lt_frac a d b e }
