use Rattle.subadd_closure.proofs.ElementSums.{closure_of_point, closure_of_segment}
use Rattle.subadd_closure.proofs.element_laws.elements_close.Goals as goal

pub returns-clause-point : goal.returns-clause-point
returns-clause-point c = closure_of_point

pub returns-clause-segment : goal.returns-clause-segment
returns-clause-segment c = closure_of_segment
