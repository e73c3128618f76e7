use Rattle.upp_curve.proofs.Worked.{minimum_rows}
use Rattle.upp_curve.proofs.WorkedRunning.{running_rows}
use Rattle.upp_curve.proofs.WorkedOperators.{convolution_rows}
use Rattle.upp_curve.proofs.worked_laws.worked_operators.Goals as goal

pub returns-clause-minimum : goal.returns-clause-minimum
returns-clause-minimum c = minimum_rows

pub returns-clause-running : goal.returns-clause-running
returns-clause-running c = running_rows

pub returns-clause-convolution : goal.returns-clause-convolution
returns-clause-convolution c = convolution_rows
