use Rattle.std.proofs.Common.{subst}
use Rattle.upp_curve.specs.Shapes.{IsLine}
use Rattle.curve_deviation.proofs.walks.line_of.Goals as goal

pub returns-in-None : goal.returns-in-None
returns-in-None c = absurd (subst IsLine c.in-None.is c.requires)
