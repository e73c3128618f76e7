use Rattle.run_laws.proofs.laws.backlog_from_gap.Goals as goal
use Rattle.run_laws.proofs.Backlog

pub returns : goal.returns
returns c = Backlog.backlog_from_gap
