use Rattle.arrival_lines.proofs.StairAndGate.{gate_above_line}
use Rattle.arrival_lines.proofs.laws.gate_above_line.Goals as goal

pub returns : goal.returns
returns c = gate_above_line
