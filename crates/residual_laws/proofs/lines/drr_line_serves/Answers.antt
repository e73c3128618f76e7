use Rattle.residual_laws.proofs.lines.Lines
use Rattle.residual_laws.proofs.lines.drr_line_serves.Goals as goal

pub returns : goal.returns
returns c = Lines.drr_line
