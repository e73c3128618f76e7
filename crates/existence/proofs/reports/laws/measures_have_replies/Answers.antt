use Rattle.existence.proofs.reports.Measures.{measures_have}
use Rattle.existence.proofs.reports.laws.measures_have_replies.Goals as goal

pub returns : goal.returns
returns c = measures_have
