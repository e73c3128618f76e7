use Rattle.existence.proofs.texts.EachRun.{run_stages_end as law}
use Rattle.existence.proofs.texts.laws.run_stages_end.Goals as goal

pub returns : goal.returns
returns c = law
