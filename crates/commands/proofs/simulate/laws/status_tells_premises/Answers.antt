use Rattle.commands.proofs.simulate.Status.{status_tells}
use Rattle.commands.proofs.simulate.laws.status_tells_premises.Goals as goal

pub returns : goal.returns
returns c = status_tells
