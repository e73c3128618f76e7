use Rattle.port_bounds.proofs.StairsHeld.{stair_rows_are_held}
use Rattle.port_bounds.proofs.by_stairs.stair_rows_are_held.Goals as goal

pub returns : goal.returns
returns c = stair_rows_are_held
