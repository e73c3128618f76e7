-- A curve is over one limit, and a fault tells which.
use Rattle.std.proofs.Common.{◌≡◌, arith, refl}
use Rattle.upp_curve.specs.Curve.{SpecCurve}
use Rattle.upp_limits.specs.declared.own_limits.OverLimit.{OverLimit}
use Rattle.upp_limits.specs.declared.own_limits.OverLimit.TheVariants.{TooMany, TooWide}
use Rattle.upp_limits.specs.LimitTest.{fault_of}
use Rattle.upp_limits.specs.OwnLimits.{IsOver}

pub one_limit : (c : SpecCurve) (a b : OverLimit) → IsOver c a → IsOver c b → a ≡ b
one_limit c TooWide TooWide h k = refl
one_limit c TooMany TooMany h k = refl
one_limit c TooWide TooMany h k = let n = k.0 in absurd (omega (arith, h, n))
one_limit c TooMany TooWide h k = let n = h.0 in absurd (omega (arith, k, n))

pub same_limit : (a b : OverLimit) → fault_of a ≡ fault_of b → a ≡ b
same_limit TooMany TooMany e = refl
same_limit TooWide TooWide e = refl
same_limit TooMany TooWide e = absurd (cc)
same_limit TooWide TooMany e = absurd (cc)
