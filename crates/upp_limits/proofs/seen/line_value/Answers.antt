use Rattle.std.proofs.Common.{◌∙◌, sym, ap}
use Rattle.rational.specs.declared.Extended.TheVariants.{Fin}
use Rattle.upp_curve.specs.affine_segment.Values.{line_value}
use Rattle.upp_curve.proofs.affine_segment.LineValues.{level_value, start_value}
use Rattle.upp_limits.proofs.seen.line_value.Goals as goal

pub returns-then-eq-clause-value : goal.returns-then-eq-clause-value
returns-then-eq-clause-value c =
    ap Fin (level_value c.in-Some.l c.args.t (c.eq.ensures.same.0 c.if-eq.true ∙ c.zero.ensures)) ∙ ap (λ o. line_value o c.args.t) (sym c.in-Some.is)

pub returns-then-eq-2-clause-value : goal.returns-then-eq-2-clause-value
returns-then-eq-2-clause-value c =
    ap Fin (start_value c.in-Some.l c.args.t (c.eq-in-Some.ensures.same.0 c.if-eq-2.true ∙ c.zero-in-Some.ensures)) ∙ ap (λ o. line_value o c.args.t) (sym c.in-Some.is)
