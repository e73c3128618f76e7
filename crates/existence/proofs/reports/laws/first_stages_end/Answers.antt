use Rattle.existence.proofs.reports.Reports.{first_stages}
use Rattle.existence.proofs.reports.laws.first_stages_end.Goals as goal

pub returns : goal.returns
returns c = first_stages
