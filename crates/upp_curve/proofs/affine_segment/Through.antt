-- The line of a slope that has a value at a time.
use Rattle.std.specs.Prelude.{◌≡◌}
use Rattle.std.proofs.Common.{arith, refl}
use Rattle.rational.specs.Rational.{ℚ, ◌+ℚ◌, ◌-ℚ◌, ◌*ℚ◌}
use Rattle.rational.proofs.Linear.{with4}
use Rattle.upp_curve.specs.affine_segment.Segments.{IsThrough}

-- it starts at 0 as far below as it rises
pub through : (r x v risen icept : ℚ) → risen ≡ r *ℚ x → icept ≡ v -ℚ risen → IsThrough r x v record { icept = icept; slope = r }
through r x v risen icept e f = record { slope = refl; value = at_x (r *ℚ x) e }
  where
    at_x : (p : ℚ) → risen ≡ p → icept +ℚ p ≡ v
    at_x p g = with4 v risen icept p (λ c. omega (arith, c.le, c.lt, c.same))
