use Rattle.net_laws.proofs.paces.output_from_pace.Goals as goal
use Rattle.net_laws.proofs.paces.Paces

pub returns : goal.returns
returns c = Paces.output_from_pace
