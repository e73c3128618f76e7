use Rattle.net_cells.proofs.Precedes.{operands_come_first}
use Rattle.net_cells.proofs.laws.operands_come_first.Goals as goal

pub returns : goal.returns
returns c = operands_come_first
