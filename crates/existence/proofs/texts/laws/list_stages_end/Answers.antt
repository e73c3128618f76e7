use Rattle.existence.proofs.texts.EachTable.{list_stages_end as law}
use Rattle.existence.proofs.texts.laws.list_stages_end.Goals as goal

pub returns : goal.returns
returns c = law
