use Rattle.std.proofs.Common.{◌∙◌}
use Rattle.upp_curve.proofs.affine_segment.PieceIn.{le_test}
use Rattle.upp_curve.proofs.affine_segment.reading.starts_by.Goals as goal

pub returns : goal.returns
returns c = c.le.ensures ∙ le_test c.args.p.now.x c.args.t
