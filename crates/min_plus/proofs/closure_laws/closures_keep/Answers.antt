use Rattle.min_plus.proofs.closure_laws.KeptShapes.{closures_keep}
use Rattle.min_plus.proofs.closure_laws.closures_keep.Goals as goal

pub returns : goal.returns
returns c = closures_keep
