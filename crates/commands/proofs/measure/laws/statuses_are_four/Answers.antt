use Rattle.commands.proofs.measure.OneMeasure.{statuses_are_four}
use Rattle.commands.proofs.measure.laws.statuses_are_four.Goals as goal

pub returns : goal.returns
returns c = statuses_are_four
