use Rattle.subadd_closure.proofs.HeavyCalls.{heavy_is_refused}
use Rattle.subadd_closure.proofs.element_laws.heavy_is_refused.Goals as goal

pub returns : goal.returns
returns c = heavy_is_refused
