use Rattle.std.proofs.Common.{◌∙◌, sym, ap}
use Rattle.upp_curve.specs.Unrolled.{line_later}
use Rattle.upp_curve.proofs.affine_segment.LineValues.{level_later}
use Rattle.upp_curve.proofs.fitting.line_later.Goals as goal

pub returns-then-eq : goal.returns-then-eq
returns-then-eq c =
    level_later c.in-Some.l c.args.by c.args.rise c.sum-risen.result c.sum-risen.ensures (c.eq.ensures.same.0 c.if-eq.true ∙ c.zero.ensures)
    ∙ ap (λ o. line_later c.args.by c.args.rise o) (sym c.in-Some.is)
