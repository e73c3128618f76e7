use Rattle.std.proofs.Common.{subst}
use Rattle.element_envelope.specs.ElementRoom.{SumElement}
use Rattle.curve_conv.proofs.ElementStretches.{segment_fits}
use Rattle.curve_conv.proofs.elements.element_stretch.Goals as goal

pub open_stretch-requires-clause-fits : goal.open_stretch-requires-clause-fits
open_stretch-requires-clause-fits c =
    let w = c.requires.room in segment_fits w.0 w.1 _ c.args.t _ _ w.2 (subst (SumElement w.0 w.1) c.in-Open.is w.3)

pub returns-in-Point-clause-sizes : goal.returns-in-Point-clause-sizes
returns-in-Point-clause-sizes c z end T S = c.point_stretch.ensures.sizes z end T (subst (SumElement z end) c.in-Point.is S)

pub returns-in-Open-clause-sizes : goal.returns-in-Open-clause-sizes
returns-in-Open-clause-sizes c z end T S = c.open_stretch.ensures.sizes z end T (subst (SumElement z end) c.in-Open.is S)
