-- A curve is nowhere above another exactly where it is the lesser of the two everywhere.
use Rattle.std.specs.Prelude.{◌↔◌}
use Rattle.std.proofs.Common.{sym, subst, ◌∙◌}
use Rattle.rational.specs.Rational.{ℚ, ◌≤ℚ◌}
use Rattle.rational.specs.Extended.{◌≤ₑ◌}
use Rattle.rational.proofs.ExtendedOrder.{min_right, min_ext_of_le}
use Rattle.min_plus.specs.Functions.{zero_q}
use Rattle.min_plus.specs.Pointwise.{IsMinimum}
use Rattle.upp_curve.specs.Curve.{SpecCurve, value_at, HasSameValues}

pub lesser_is : (f g c : SpecCurve) → ((t : ℚ) → zero_q ≤ℚ t → IsMinimum (value_at f) (value_at g) t (value_at c t))
    → HasSameValues c f ↔ ((t : ℚ) → zero_q ≤ℚ t → value_at f t ≤ₑ value_at g t)
lesser_is f g c min = (
  λ same t n. subst (λ x. x ≤ₑ value_at g t) (sym (min t n) ∙ same t n) (min_right (value_at f t) (value_at g t)),
  λ below t n. min t n ∙ min_ext_of_le (value_at f t) (value_at g t) (below t n),
)
