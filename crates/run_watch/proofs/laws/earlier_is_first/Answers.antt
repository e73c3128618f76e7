use Rattle.run_watch.proofs.FirstOfTwo.{earlier_is_first}
use Rattle.run_watch.proofs.laws.earlier_is_first.Goals as goal

pub returns : goal.returns
returns c = earlier_is_first
