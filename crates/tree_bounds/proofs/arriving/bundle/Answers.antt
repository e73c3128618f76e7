use Rattle.std.proofs.Common.{Option, List, ap₂}
use Rattle.arrival_lines.specs.declared.grid.Line.{Line}
use Rattle.arrival_stairs.specs.Views.{Bunch}
use Rattle.arrival_stairs.specs.declared.stairs.Stair.{Stair}
use Rattle.tree_bounds.proofs.arriving.bundle.Goals as goal

pub returns : goal.returns
returns c = let B : List Stair → Option Line → Bunch = λ ss p. record { stairs = ss; pace = p } in ap₂ B c.in_ok-found.ensures c.pace_of.ensures
