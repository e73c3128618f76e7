use Rattle.std.proofs.Common.{◌≡◌, ◌∙◌, sym, ap, subst}
use Rattle.std.specs.Prelude.{IfSome}
use Rattle.rational.specs.Rational.{◌+ℚ◌}
use Rattle.upp_curve.specs.Curve.{value_at}
use Rattle.curve_call.specs.Bounds.{own_or}
use Rattle.plain_operators.specs.pointwise.Leaning.{IsOver, IsSpan}
use Rattle.plain_operators.proofs.pointwise.leaning.own_over.Goals as goal

pub over-requires : goal.over-requires
over-requires c =
    let end : c.in_ok-end.end ≡ c.args.from +ℚ own_or c.args.period c.args.c.now = c.in_ok-end.ensures ∙ ap (λ x. c.args.from +ℚ x) c.period_or.ensures in
    subst (IsSpan c.args.c.now c.args.from) (sym end) c.requires

pub returns : goal.returns
returns c =
    let end : c.in_ok-end.end ≡ c.args.from +ℚ own_or c.args.period c.args.c.now = c.in_ok-end.ensures ∙ ap (λ x. c.args.from +ℚ x) c.period_or.ensures in
    subst (λ e. IfSome c.over.result (IsOver (value_at c.args.c.now) c.args.from e c.args.rate)) end c.over.ensures
