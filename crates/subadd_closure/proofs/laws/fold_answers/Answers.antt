use Rattle.subadd_closure.proofs.FoldStars.{part_star, close_answer}
use Rattle.subadd_closure.proofs.laws.fold_answers.Goals as goal

pub returns-clause-part : goal.returns-clause-part
returns-clause-part c = part_star

pub returns-clause-closure : goal.returns-clause-closure
returns-clause-closure c = close_answer
