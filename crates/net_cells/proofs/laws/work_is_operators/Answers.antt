use Rattle.net_cells.proofs.Works.{work_is}
use Rattle.net_cells.proofs.laws.work_is_operators.Goals as goal

pub returns : goal.returns
returns c = work_is
