use Rattle.residuals.proofs.calls.Placed.{services_placed}
use Rattle.residuals.proofs.calls.in_turn.services_are_placed.Goals as goal

pub returns : goal.returns
returns c = services_placed
