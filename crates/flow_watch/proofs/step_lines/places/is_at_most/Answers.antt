use Rattle.std.proofs.Common.{◌∙◌}
use Rattle.upp_curve.proofs.affine_segment.PieceIn.{le_test}
use Rattle.flow_watch.proofs.step_lines.places.is_at_most.Goals as goal

pub returns : goal.returns
returns c = c.le.ensures ∙ le_test c.args.a c.args.b
