-- What a service is worth to whole packets has the shape of a service curve. (Le Boudec and Thiran, packetisers.)
use Rattle.std.specs.Prelude.{Ok}
use Rattle.rational.specs.Rational.{ℚ, ◌≤ℚ◌}
use Rattle.rational.specs.Extended.{Ext}
use Rattle.upp_limits.specs.declared.op_kind.OpKind.TheVariants.{PosMinus}
use Rattle.upp_curve.specs.Curve.{SpecCurve, value_at}
use Rattle.min_plus.specs.Functions.{zero_q}
use Rattle.min_plus.specs.Pointwise.{IsPositiveMinus}
use Rattle.plain_operators.specs.CurveCalls.{AppliesTo, GrowsFromZero, IsGrowingCurve}

-- R is β less l bits
abbrev pub PacketServiceGrows : Type 0
PacketServiceGrows = (β R : ℚ → Ext) (l : ℚ) → zero_q ≤ℚ l → GrowsFromZero β →
    ((t : ℚ) → zero_q ≤ℚ t → IsPositiveMinus β l t (R t)) → GrowsFromZero R

-- c is the curve that the call makes
abbrev pub PacketCurveGrows : Type 0
PacketCurveGrows = (β c : SpecCurve) (l : ℚ) → zero_q ≤ℚ l → GrowsFromZero (value_at β) →
    AppliesTo (PosMinus l) β (Ok c) → IsGrowingCurve c
