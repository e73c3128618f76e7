use Rattle.residuals.proofs.fifo.fifo_curve_serves.Goals as goal
use Rattle.residuals.proofs.fifo.FifoCurves.{curve_serves}

pub returns : goal.returns
returns c = curve_serves
