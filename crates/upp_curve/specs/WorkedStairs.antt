-- Stairs without jitter, and a supremum at a jump that no time takes, worked out by hand from the words of the
-- definitions. Own choice of examples.
use Rattle.std.specs.Prelude.{◌≡◌}
use Rattle.rational.specs.Rational.{ℚ, ◌≤ℚ◌, ◌<ℚ◌}
use Rattle.rational.specs.declared.Extended.TheVariants.{Fin}
use Rattle.upp_curve.specs.Curve.{value_at}
use Rattle.min_plus.specs.Functions.{zero_q}
use Rattle.min_plus.specs.Convolution.{IsConvolution, IsDeconvolution}
use Rattle.upp_curve.specs.Kinds.{stair, rate_latency}
use Rattle.min_plus.specs.Formulas.{stair_value}
use Rattle.upp_curve.specs.WorkedRows.{whole, dip}

-- at each time from 0 on the curve's value is that of the formula: packet (floor (t / period) + 1)
abbrev pub StairFormula : Type 0
StairFormula =
    (packet period t : ℚ) → zero_q <ℚ packet → zero_q <ℚ period → zero_q ≤ℚ t
    → value_at (stair packet period zero_q) t ≡ stair_value packet period zero_q t

-- packets of 1 with period 2, and packets of 1 with period 3: over all splits of 4, of 5 and of 8
pub record TwoStairs : Type 0 where
  pub at_4 : IsConvolution (value_at (stair (whole 1) (whole 2) (whole 0)))
      (value_at (stair (whole 1) (whole 3) (whole 0))) (whole 4) (Fin (whole 2))
  pub at_5 : IsConvolution (value_at (stair (whole 1) (whole 2) (whole 0)))
      (value_at (stair (whole 1) (whole 3) (whole 0))) (whole 5) (Fin (whole 3))
  pub at_8 : IsConvolution (value_at (stair (whole 1) (whole 2) (whole 0)))
      (value_at (stair (whole 1) (whole 3) (whole 0))) (whole 8) (Fin (whole 4))

-- packets of 4000 with period 1000 that leave a server of rate 100 and latency 256: from 744 on the step at 1000 lies
-- at the latency, and from 743 on it lies a unit of time past it
pub record StairLeaves : Type 0 where
  pub at_743 : IsDeconvolution (value_at (stair (whole 4000) (whole 1000) (whole 0)))
      (value_at (rate_latency (whole 100) (whole 256))) (whole 743) (Fin (whole 7900))
  pub at_744 : IsDeconvolution (value_at (stair (whole 4000) (whole 1000) (whole 0)))
      (value_at (rate_latency (whole 100) (whole 256))) (whole 744) (Fin (whole 8000))

-- 3 t before 1 and t from 1 on, that leaves a rate of 1 after 1: before 1 it comes as close to 3 as one likes, and at
-- no time is it there
abbrev pub JumpLeaves : Type 0
JumpLeaves = IsDeconvolution (value_at dip) (value_at (rate_latency (whole 1) (whole 1))) (whole 0) (Fin (whole 3))
