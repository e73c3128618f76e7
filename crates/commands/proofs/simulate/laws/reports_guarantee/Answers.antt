use Rattle.commands.proofs.simulate.Within.{guarantee}
use Rattle.commands.proofs.simulate.laws.reports_guarantee.Goals as goal

pub returns : goal.returns
returns c = guarantee
