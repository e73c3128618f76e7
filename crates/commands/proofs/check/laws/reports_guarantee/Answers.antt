use Rattle.commands.proofs.check.Within.{guarantee}
use Rattle.commands.proofs.check.laws.reports_guarantee.Goals as goal

pub returns : goal.returns
returns c = guarantee
