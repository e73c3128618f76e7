use Rattle.commands.proofs.measure.OneMeasure.{replies_are_determined}
use Rattle.commands.proofs.measure.laws.replies_are_determined.Goals as goal

pub returns : goal.returns
returns c = replies_are_determined
