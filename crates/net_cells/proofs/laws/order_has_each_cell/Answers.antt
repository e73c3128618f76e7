use Rattle.net_cells.proofs.Members.{has_each_cell}
use Rattle.net_cells.proofs.laws.order_has_each_cell.Goals as goal

pub returns : goal.returns
returns c = has_each_cell
