use Rattle.std.proofs.Common.{◌∙◌}
use Rattle.upp_curve.proofs.affine_segment.LineValues.{level_value}
use Rattle.upp_curve.proofs.affine_segment.line.value.Goals as goal

pub returns-then-eq-clause-value : goal.returns-then-eq-clause-value
returns-then-eq-clause-value c = level_value c.args.line.now c.args.t (c.eq.ensures.same.0 c.if-eq.true ∙ c.zero.ensures)
