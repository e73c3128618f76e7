-- The two calls that tell whether a curve is subadditive. Own choice.
use Rattle.std.specs.Prelude.{◌≡◌, ℕ, Bool, Result, Ok}
use Rattle.upp_limits.specs.declared.op_kind.OpKind.TheVariants.{Min, Convolve}
use Rattle.upp_limits.specs.declared.op_kind.OpFault.{OpFault}
use Rattle.upp_curve.specs.Curve.{SpecCurve}
use Rattle.upp_limits.specs.Outcome.{IsWithin, KeepsLimits}
use Rattle.curve_call.specs.Calls.{Applies}
use Rattle.outcomes.specs.Calls.{Then}

-- the convolution of f with itself, and then the lesser of f and that: a refusal is the first one's that is over its
-- limit
abbrev pub TestsSubadditive : SpecCurve → Result Bool OpFault → Type 0
TestsSubadditive f r = Then (Applies Convolve f f) (λ c. KeepsLimits Min f c) r

-- where both are counted and memory is wanting, the first has made a curve, and of it the second is within its limits:
-- so no limit of the two is told as want of memory once they are counted
abbrev pub TestWants : SpecCurve → (n : ℕ) → Type 0
TestWants f n = n ≡ 2 → (c : SpecCurve) × Applies Convolve f f (Ok c) × IsWithin Min f c
