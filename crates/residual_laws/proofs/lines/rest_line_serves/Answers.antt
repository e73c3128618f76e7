use Rattle.residual_laws.proofs.lines.Lines
use Rattle.residual_laws.proofs.lines.rest_line_serves.Goals as goal

pub returns : goal.returns
returns c = Lines.rest_line
