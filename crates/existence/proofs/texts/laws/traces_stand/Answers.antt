use Rattle.existence.proofs.texts.KeptTraces.{traces_stand as law}
use Rattle.existence.proofs.texts.laws.traces_stand.Goals as goal

pub returns : goal.returns
returns c = law
