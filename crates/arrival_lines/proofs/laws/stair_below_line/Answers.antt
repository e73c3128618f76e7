use Rattle.arrival_lines.proofs.StairAndGate.{stair_below_line}
use Rattle.arrival_lines.proofs.laws.stair_below_line.Goals as goal

pub returns : goal.returns
returns c = stair_below_line
