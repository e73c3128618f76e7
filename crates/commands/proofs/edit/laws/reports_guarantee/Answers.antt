use Rattle.commands.proofs.edit.Promised.{reports_guarantee}
use Rattle.commands.proofs.edit.laws.reports_guarantee.Goals as goal

pub returns : goal.returns
returns c = reports_guarantee
