use Rattle.residual_laws.proofs.lines.Lines
use Rattle.residual_laws.proofs.lines.fifo_line_serves.Goals as goal

pub returns : goal.returns
returns c = Lines.fifo_serves
