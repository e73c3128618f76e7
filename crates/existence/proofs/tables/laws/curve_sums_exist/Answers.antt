use Rattle.existence.proofs.tables.OperatorSums.{sums_of}
use Rattle.existence.proofs.tables.laws.curve_sums_exist.Goals as goal

pub returns : goal.returns
returns c = sums_of
