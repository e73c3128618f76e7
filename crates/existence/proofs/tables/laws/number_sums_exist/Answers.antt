use Rattle.existence.proofs.tables.Numbers.{number_sum}
use Rattle.existence.proofs.tables.laws.number_sums_exist.Goals as goal

pub returns : goal.returns
returns c = number_sum
