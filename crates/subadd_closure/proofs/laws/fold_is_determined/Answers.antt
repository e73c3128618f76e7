use Rattle.subadd_closure.proofs.OneFold.{close_once}
use Rattle.subadd_closure.proofs.laws.fold_is_determined.Goals as goal

pub returns : goal.returns
returns c = close_once
