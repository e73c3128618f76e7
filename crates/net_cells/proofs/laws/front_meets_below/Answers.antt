use Rattle.net_cells.proofs.Tables.{front_meets_below}
use Rattle.net_cells.proofs.laws.front_meets_below.Goals as goal

pub returns : goal.returns
returns c = front_meets_below
