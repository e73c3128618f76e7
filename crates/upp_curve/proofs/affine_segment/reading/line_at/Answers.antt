use Rattle.std.proofs.Common.{◌∙◌}
use Rattle.upp_curve.proofs.affine_segment.LineValues.{level_value}
use Rattle.upp_curve.proofs.affine_segment.reading.line_at.Goals as goal

pub returns-then-eq : goal.returns-then-eq
returns-then-eq c = level_value c.args.line.now c.args.t (c.eq.ensures.same.0 c.if-eq.true ∙ c.zero.ensures)
