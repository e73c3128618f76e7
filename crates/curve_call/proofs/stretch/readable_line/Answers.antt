use Rattle.std.proofs.Common.{◌∙◌, sym, ap}
use Rattle.rational.specs.declared.Extended.TheVariants.{Fin}
use Rattle.upp_curve.specs.affine_segment.Values.{line_value}
use Rattle.upp_curve.proofs.affine_segment.LineValues.{level_value}
use Rattle.curve_call.proofs.stretch.readable_line.Goals as goal

pub returns-then-eq : goal.returns-then-eq
returns-then-eq c =
    ap Fin (level_value c.in-Some.l c.args.x (c.eq.ensures.same.0 c.if-eq.true ∙ c.zero.ensures)) ∙ ap (λ l. line_value l c.args.x) (sym c.in-Some.is)
