use Rattle.upp_limits.proofs.Gathering.{gathers_nothing}
use Rattle.upp_limits.proofs.gathered.Gathered.nothing.Goals as goal

pub returns : goal.returns
returns c = gathers_nothing
