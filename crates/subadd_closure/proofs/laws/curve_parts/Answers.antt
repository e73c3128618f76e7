use Rattle.subadd_closure.proofs.LeastParts.{parts_make_curve}
use Rattle.subadd_closure.proofs.EachParts.{parts_are_parts}
use Rattle.subadd_closure.proofs.laws.curve_parts.Goals as goal

pub returns-clause-least : goal.returns-clause-least
returns-clause-least c = parts_make_curve

pub returns-clause-each : goal.returns-clause-each
returns-clause-each c = parts_are_parts
