use Rattle.commands.proofs.measure.OneMeasure.{reports_are_least}
use Rattle.commands.proofs.measure.laws.reports_are_least.Goals as goal

pub returns : goal.returns
returns c = reports_are_least
