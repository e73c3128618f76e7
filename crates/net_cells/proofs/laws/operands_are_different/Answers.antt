use Rattle.net_cells.proofs.Different.{operands_are_different}
use Rattle.net_cells.proofs.laws.operands_are_different.Goals as goal

pub returns : goal.returns
returns c = operands_are_different
