-- A bound of how far the copies of a curve's pieces are from the first ones, so that a gauge is known to be below the
-- limit by the first copies alone. Own choice.
use Rattle.std.specs.Prelude.{◌≡◌, ℕ, ◌<◌, ◌≤◌, ◌^◌, pos}
use Rattle.rational.specs.Rational.{ℚ, ◌+ℚ◌, ◌*ℚ◌, ◌≤ℚ◌, ◌<ℚ◌, int}
use Rattle.rational.specs.Grid.{Within}
use Rattle.upp_curve.specs.declared.curve.Tail.{Tail}
use Rattle.upp_curve.specs.declared.curve.Tail.TheVariants.{Periodic, Affine, Infinite}
use Rattle.upp_curve.specs.Curve.{SpecCurve}
use Rattle.upp_limits.specs.declared.op_kind.OpKind.{OpKind}
use Rattle.upp_limits.specs.declared.op_kind.Operands.{Operands}
use Rattle.upp_limits.specs.declared.op_kind.Operands.TheVariants.{First, Both, FirstScaled}
use Rattle.upp_limits.specs.declared.call_sizes.CallNumbers.{CallNumbers}
use Rattle.upp_limits.specs.declared.call_sizes.CallGrids.{CallGrids}
use Rattle.upp_limits.specs.Limits.{Numbers, Sizes, joined, sizes_of, gauge_of}
use Rattle.upp_limits.specs.Sized.{grid_of}
use Rattle.upp_limits.specs.ClosedForm.{first_numbers}
use Rattle.upp_limits.specs.Spans.{number_below}
use Rattle.upp_curve.specs.declared.affine_segment.line.Piece.{Piece}
use Rattle.upp_limits.specs.Gauges.{gauge_over, numbers_over}

-- whatever number of periods after the rank starts before `end`: so many rises are within m
abbrev pub IsMostRise : Tail → ℚ → ℕ → Type 0
IsMostRise (Periodic rank period rise) end m =
    (x : ℚ) (n : ℕ) → rank ≤ℚ x → x +ℚ int (pos n) *ℚ period <ℚ end → Within (int (pos m)) (int (pos n) *ℚ rise)
IsMostRise (Affine rank) end m = Unit {0}
IsMostRise (Infinite rank) end m = Unit {0}

-- no more than m of a piece and its copies start before `end`
abbrev pub MostCopies : Tail → ℚ → ℕ → Type 0
MostCopies tail end m = (p : Piece) → number_below tail end p ≤ m

-- of a call's operands; a scaled one is left to the exact gauge
abbrev pub AreMostRises : Operands → ℚ → SpecCurve → SpecCurve → ℕ → Type 0
AreMostRises First end f g m = IsMostRise f.tail end m
AreMostRises Both end f g m = IsMostRise f.tail end m × IsMostRise g.tail end m
AreMostRises (FirstScaled q) end f g m = ⊥

abbrev pub first_operands : Operands → ℚ → SpecCurve → SpecCurve → Numbers
first_operands First end f g = first_numbers end f
first_operands Both end f g = joined (first_numbers end f) (first_numbers end g)
first_operands (FirstScaled q) end f g = first_numbers end f

-- the grids of sizes whose gauge is below the limit
pub record AreGridsOf (z : Sizes) (g : CallGrids) : Type 0 where
  pub gauge : gauge_of z < 2 ^ 120
  pub times : g.times ≡ z.dt
  pub values : g.values ≡ grid_of z

-- the grids among numbers whose gauge is below the limit
pub record AreGridsBelow (n : CallNumbers) (g : CallGrids) : Type 0 where
  pub gauge : n.gauge < 2 ^ 120
  pub times : g.times ≡ n.times
  pub values : g.values ≡ n.values

-- the grids of a call whose gauge is below the limit
pub record AreNarrowGrids (op : OpKind) (f g : SpecCurve) (end : ℚ) (n : CallGrids) : Type 0 where
  pub gauge : gauge_over op f g end < 2 ^ 120
  pub times : n.times ≡ (sizes_of end (numbers_over op f g end)).dt
  pub values : n.values ≡ grid_of (sizes_of end (numbers_over op f g end))
