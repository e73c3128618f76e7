use Rattle.net_cells.proofs.Tables.{one_is_first_over}
use Rattle.net_cells.proofs.laws.one_is_first_over.Goals as goal

pub returns : goal.returns
returns c = one_is_first_over
