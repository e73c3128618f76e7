use Rattle.min_plus.proofs.closure_laws.StarSums.{star_of_lesser, star_of_closure, closure_of_star, stars_of_values}
use Rattle.min_plus.proofs.closure_laws.stars.Goals as goal

pub returns-clause-lesser : goal.returns-clause-lesser
returns-clause-lesser c = star_of_lesser

pub returns-clause-lowered : goal.returns-clause-lowered
returns-clause-lowered c = star_of_closure

pub returns-clause-closure : goal.returns-clause-closure
returns-clause-closure c = closure_of_star

pub returns-clause-values : goal.returns-clause-values
returns-clause-values c = stars_of_values
