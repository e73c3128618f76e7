use Rattle.net_laws.proofs.kept_everywhere.Goals as goal
use Rattle.net_laws.proofs.Orders

pub returns : goal.returns
returns c = Orders.kept_everywhere
