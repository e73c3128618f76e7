-- The curve that is infinite everywhere.
use Rattle.std.proofs.Common.{◌≡◌, [], ◌∷◌, refl}
use Rattle.rational.specs.Rational.{ℚ}
use Rattle.rational.specs.declared.Extended.TheVariants.{Inf}
use Rattle.min_plus.specs.Functions.{zero_q}
use Rattle.upp_curve.specs.declared.curve.Tail.TheVariants.{Infinite}
use Rattle.upp_curve.specs.Curve.{SpecCurve, value_at}
use Rattle.upp_curve.specs.Curves.{IsCurve}
use Rattle.upp_curve.specs.affine_segment.Reading.{nothing_at}
use Rattle.plain_operators.proofs.pointwise.Nowhere.{IsNowhere, made_curve, made_values}

abbrev pub nowhere : SpecCurve
nowhere = record { pieces = nothing_at zero_q ∷ []; tail = Infinite zero_q }

is_nowhere : IsNowhere (nothing_at zero_q ∷ []) [] zero_q zero_q
is_nowhere = record { zero = refl; at = refl; none = refl; one = refl }

pub nowhere_curve : IsCurve nowhere
nowhere_curve = made_curve (nothing_at zero_q ∷ []) [] zero_q zero_q is_nowhere

pub nowhere_values : (t : ℚ) → value_at nowhere t ≡ Inf
nowhere_values t = made_values (nothing_at zero_q ∷ []) [] zero_q zero_q t nowhere is_nowhere refl
