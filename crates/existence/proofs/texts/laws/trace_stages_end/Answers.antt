use Rattle.existence.proofs.texts.EachTable.{trace_stages_end as law}
use Rattle.existence.proofs.texts.laws.trace_stages_end.Goals as goal

pub returns : goal.returns
returns c = law
