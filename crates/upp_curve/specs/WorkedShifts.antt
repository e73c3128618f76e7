-- Shifts, multiples and differences of curves, worked out by hand from the words of the definitions.
-- Own choice of examples.
use Rattle.std.specs.Prelude.{◌≡◌, pos, [], ◌∷◌}
use Rattle.rational.specs.Rational.{ℚ, ◌≤ℚ◌, frac}
use Rattle.rational.specs.declared.Extended.TheVariants.{Fin, Inf}
use Rattle.upp_curve.specs.declared.curve.Tail.TheVariants.{Infinite}
use Rattle.upp_curve.specs.Curve.{SpecCurve, value_at}
use Rattle.min_plus.specs.Functions.{zero_q}
use Rattle.min_plus.specs.Pointwise.{IsShift, IsScaled, IsPositiveMinus, IsPositiveDifference}
use Rattle.min_plus.specs.Running.{IsFifoLeftover}
use Rattle.upp_curve.specs.Kinds.{flat, stair, bucket, rate_latency}
use Rattle.upp_curve.specs.WorkedRows.{whole}

-- 4 up to 1, and infinite after it
abbrev pub cut_at_1 : SpecCurve
cut_at_1 = record { pieces = flat zero_q (whole 4) ∷ []; tail = Infinite (whole 1) }

-- packets of 1 with period 2, as they are 3/2 later: the step at 2 is passed from 1/2 on
pub record ShiftRows : Type 0 where
  pub at_0 : IsShift (value_at (stair (whole 1) (whole 2) (whole 0))) (Fin (frac (pos 3) 1)) (whole 0) (Fin (whole 1))
  pub at_1_2 : IsShift (value_at (stair (whole 1) (whole 2) (whole 0))) (Fin (frac (pos 3) 1)) (frac (pos 1) 1)
      (Fin (whole 2))
  pub endless : IsShift (value_at (stair (whole 1) (whole 2) (whole 0))) Inf (whole 0) Inf

-- 3 times a rate of 100 after 10; half of 3 + 2 t; and 0 times infinity is infinity
pub record ScaleRows : Type 0 where
  pub three_times : IsScaled (value_at (rate_latency (whole 100) (whole 10))) (whole 3) (whole 110) (Fin (whole 30000))
  pub half : IsScaled (value_at (bucket (whole 3) (whole 2))) (frac (pos 1) 1) (whole 1) (Fin (frac (pos 5) 1))
  pub none : IsScaled (value_at cut_at_1) (whole 0) (whole 1) (Fin (whole 0))
  pub endless : IsScaled (value_at cut_at_1) (whole 0) (whole 2) Inf

-- 3 + 2 t less 5
pub record MinusRows : Type 0 where
  pub at_1 : IsPositiveMinus (value_at (bucket (whole 3) (whole 2))) (whole 5) (whole 1) (Fin (whole 0))
  pub at_3_2 : IsPositiveMinus (value_at (bucket (whole 3) (whole 2))) (whole 5) (frac (pos 3) 1) (Fin (whole 1))

-- a rate of 100 after 10 less 6000 + 5 t; and where one of the two is infinite
pub record DifferenceRows : Type 0 where
  pub at_50 : IsPositiveDifference (value_at (rate_latency (whole 100) (whole 10)))
      (value_at (bucket (whole 6000) (whole 5))) (whole 50) (Fin (whole 0))
  pub at_110 : IsPositiveDifference (value_at (rate_latency (whole 100) (whole 10)))
      (value_at (bucket (whole 6000) (whole 5))) (whole 110) (Fin (whole 3450))
  pub endless_first : IsPositiveDifference (value_at cut_at_1) (value_at (bucket (whole 3) (whole 2))) (whole 2) Inf
  pub endless_second : IsPositiveDifference (value_at (bucket (whole 3) (whole 2))) (value_at cut_at_1) (whole 2)
      (Fin (whole 0))

-- what a rate of 100 after 10 leaves of 6000 + 5 t, with theta 70: a rate of 95 after 70, at each time from 0 on
pub record LeftOverRows : Type 0 where
  pub left : (t : ℚ) → zero_q ≤ℚ t →
      IsFifoLeftover (value_at (rate_latency (whole 100) (whole 10))) (value_at (bucket (whole 6000) (whole 5)))
      (Fin (whole 70)) t (value_at (rate_latency (whole 95) (whole 70)) t)
  pub at_70 : value_at (rate_latency (whole 95) (whole 70)) (whole 70) ≡ Fin (whole 0)
  pub at_80 : value_at (rate_latency (whole 95) (whole 70)) (whole 80) ≡ Fin (whole 950)
  pub endless : IsFifoLeftover (value_at (rate_latency (whole 100) (whole 10)))
      (value_at (bucket (whole 6000) (whole 5))) Inf (whole 80) (Fin (whole 0))
