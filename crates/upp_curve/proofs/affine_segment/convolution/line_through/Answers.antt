use Rattle.upp_curve.proofs.affine_segment.Through.{through}
use Rattle.upp_curve.proofs.affine_segment.convolution.line_through.Goals as goal

pub returns-clause-through : goal.returns-clause-through
returns-clause-through c =
    through c.args.slope c.args.x c.args.v c.in_ok-risen.risen c.in_ok-icept.icept c.in_ok-risen.ensures.value c.in_ok-icept.ensures.value
