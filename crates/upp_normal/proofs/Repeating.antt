-- From its steady time on a curve repeats.
use Rattle.std.specs.Prelude.{◌≡◌, Option, Some, None, IfSome}
use Rattle.std.proofs.Common.{sym, subst}
use Rattle.rational.specs.Rational.{ℚ}
use Rattle.upp_curve.specs.Curve.{SpecCurve}
use Rattle.upp_curve.specs.Curves.{IsCurve}
use Rattle.upp_normal.specs.Repeating.{RepeatsFrom}
use Rattle.upp_curve.specs.Steady.{steady}
use Rattle.upp_curve.proofs.Steady.{steady_rule}

pub repeats_at : (c : SpecCurve) (t : ℚ) → IsCurve c → t ≡ steady c → RepeatsFrom c t
repeats_at c t is e = subst (RepeatsFrom c) (sym e) (λ d whole some. steady_rule c d is.normal.raw whole some)

pub repeats_if : (c : SpecCurve) (o : Option ℚ) → IsCurve c → IfSome o (λ t. t ≡ steady c) → IfSome o (RepeatsFrom c)
repeats_if c None is h = tt
repeats_if c (Some t) is h = repeats_at c t is h
