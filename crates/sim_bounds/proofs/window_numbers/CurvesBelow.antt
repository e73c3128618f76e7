-- Where the numbers of curves up to the end of a window stand, those of each curve up to an earlier time do.
use Rattle.std.specs.Prelude.{List, [], ◌∷◌}
use Rattle.std.proofs.Common.{subst, inl, inr}
use Rattle.rational.specs.Rational.{ℚ, ◌≤ℚ◌}
use Rattle.upp_curve.specs.Curve.{SpecCurve}
use Rattle.upp_curve.specs.Curves.{IsCurve}
use Rattle.upp_limits.specs.Limits.{Sizes, curve_numbers}
use Rattle.upp_limits.specs.Sized.{Stands}
use Rattle.upp_limits.proofs.Operands.{curve_period}
use Rattle.upp_limits.proofs.Stands.{stands_left, stands_right}
use Rattle.upp_normal.proofs.GaugeRises.{curve_earlier}
use Rattle.run_laws.proofs.Members.{Has}
use Rattle.sim_bounds.specs.Gauge.{numbers_to, numbers_of_curves}

one_curve : (z : Sizes) (far : ℚ) (cs : List SpecCurve) (c : SpecCurve) → Has cs c → Stands z (numbers_of_curves far cs) → Stands z (curve_numbers far c)
one_curve z far [] c i h = absurd i
one_curve z far (d ∷ cs) c (inl e) h =
    subst (λ (x : SpecCurve). Stands z (curve_numbers far x)) e (stands_left z (curve_numbers far d) _ (stands_left z (numbers_to far d) (numbers_of_curves far cs) h))
one_curve z far (d ∷ cs) c (inr i) h = one_curve z far cs c i (stands_right z (numbers_to far d) (numbers_of_curves far cs) h)

pub curve_stands : (z : Sizes) (far end : ℚ) (cs : List SpecCurve) (c : SpecCurve) → Has cs c → IsCurve c → end ≤ℚ far → Stands z (numbers_of_curves far cs) → Stands z (curve_numbers end c)
curve_stands z far end cs c i C l h = curve_earlier z end far c (curve_period c C) l (one_curve z far cs c i h)
