use Rattle.net_laws.proofs.delay_from_path_service.Goals as goal
use Rattle.net_laws.proofs.PathRuns

pub returns : goal.returns
returns c = PathRuns.delay_from_path_service
