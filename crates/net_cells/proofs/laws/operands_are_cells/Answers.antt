use Rattle.net_cells.proofs.Precedes.{operands_are_cells}
use Rattle.net_cells.proofs.laws.operands_are_cells.Goals as goal

pub returns : goal.returns
returns c = operands_are_cells
