-- The minimum, the maximum and the positive difference of two curves: which kind of call each is, what it makes of
-- two values, and by how much it rises over a common period. (Bouillard, Boyer and Le Corronc: from some time on the
-- slower of two curves is below the faster.)
use Rattle.std.specs.Prelude.{◌≡◌, Bool, true, false, pos}
use Rattle.rational.specs.Rational.{ℚ, ◌-ℚ◌, int}
use Rattle.rational.specs.Extended.{Ext, ◌<ₑ◌, min_ext, max_ext}
use Rattle.upp_limits.specs.declared.op_kind.OpKind.{OpKind}
use Rattle.upp_limits.specs.declared.op_kind.OpKind.TheVariants.{Min, Max, PosDiff}
use Rattle.upp_curve.specs.Curve.{SpecCurve}
use Rattle.min_plus.specs.Functions.{IsFinite}
use Rattle.min_plus.specs.Pointwise.{excess}
use Rattle.upp_curve.specs.Steady.{rate}
use Rattle.plain_operators.specs.declared.pointwise.lattice.Lattice.{Lattice}
use Rattle.plain_operators.specs.declared.pointwise.lattice.Lattice.TheVariants.{Lower, Upper, Excess}

abbrev pub kind_of : Lattice → OpKind
kind_of Lower = Min
kind_of Upper = Max
kind_of Excess = PosDiff

abbrev pub made_of : Lattice → Ext → Ext → Ext
made_of Lower v w = min_ext v w
made_of Upper v w = max_ext v w
made_of Excess v w = excess v w

-- whether the slope rises where the operands' lines cross
abbrev pub rises_of : Lattice → Bool
rises_of Lower = false
rises_of Upper = true
rises_of Excess = true

-- a difference asks for a finite first curve
abbrev pub FiniteFor : Lattice → (ℚ → Ext) → Type 0
FiniteFor Lower f = Unit {0}
FiniteFor Upper f = Unit {0}
FiniteFor Excess f = IsFinite f

-- where P holds the rise is a, and else b
pub record RisesBy (P : Type 0) (a b rise : ℚ) : Type 0 where
  pub so : P → rise ≡ a
  pub else : ¬ P → rise ≡ b

-- the rise over a common period: that of the slower, of the faster, or by how much the first is the faster; a and b
-- are the operands' own
abbrev pub IsTailRise : Lattice → SpecCurve → SpecCurve → ℚ → ℚ → ℚ → Type 0
IsTailRise Lower f g a b rise = RisesBy (rate g <ₑ rate f) b a rise
IsTailRise Upper f g a b rise = RisesBy (rate f <ₑ rate g) b a rise
IsTailRise Excess f g a b rise = RisesBy (rate g <ₑ rate f) (a -ℚ b) (int (pos 0)) rise
