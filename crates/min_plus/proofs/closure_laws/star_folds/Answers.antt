use Rattle.min_plus.proofs.closure_laws.StarFolding.{star_of_least, closure_of_set_back}
use Rattle.min_plus.proofs.closure_laws.star_folds.Goals as goal

pub returns-clause-least : goal.returns-clause-least
returns-clause-least c = star_of_least

pub returns-clause-closure : goal.returns-clause-closure
returns-clause-closure c = closure_of_set_back
