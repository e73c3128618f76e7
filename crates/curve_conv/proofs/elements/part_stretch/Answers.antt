use Rattle.std.proofs.Common.{subst}
use Rattle.element_envelope.specs.ElementRoom.{SumPart}
use Rattle.curve_conv.proofs.elements.part_stretch.Goals as goal

pub element_stretch-requires-clause-room : goal.element_stretch-requires-clause-room
element_stretch-requires-clause-room c = let w = c.requires.room in (w.0, w.1, w.2, subst (SumPart w.0 w.1) c.in-Some.is w.3)

pub returns-in-Some-clause-sizes : goal.returns-in-Some-clause-sizes
returns-in-Some-clause-sizes c z end T S = c.element_stretch.ensures.sizes z end T (subst (SumPart z end) c.in-Some.is S)
