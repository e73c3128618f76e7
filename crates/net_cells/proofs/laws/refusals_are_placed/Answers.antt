use Rattle.net_cells.proofs.Placing.{refusals_placed}
use Rattle.net_cells.proofs.laws.refusals_are_placed.Goals as goal

pub returns : goal.returns
returns c = refusals_placed
