-- Windows whose pieces repeat from a time on: the periods stand on the grids of the call.
use Rattle.std.specs.Prelude.{◌*◌, Bool, List}
use Rattle.std.proofs.Common.{sym, subst}
use Prim.Native.Nat.{◌∣◌}
use native.Mathlib.Nat.{mul_comm}
use Rattle.rational.specs.Rational.{ℚ, ◌<ℚ◌}
use Rattle.rational.specs.Extended.{Ext}
use Rattle.upp_curve.specs.declared.affine_segment.line.Piece.{Piece}
use Rattle.upp_curve.specs.affine_segment.Reading.{read}
use Rattle.upp_curve.specs.Curve.{repeated}
use Rattle.upp_curve.specs.affine_segment.Pieces.{Each}
use Rattle.upp_curve.specs.Normal.{FitsPeriod}
use Rattle.upp_normal.specs.Normalising.{OnGridsUnlessLine}
use Rattle.upp_limits.specs.Limits.{Sizes}
use Rattle.upp_limits.specs.Sized.{grid_of}
use Rattle.upp_limits.proofs.NarrowSizes.{slope_time_divides}
use Rattle.upp_normal.proofs.Bends.{bends_on}
use Rattle.curve_call.specs.Operands.{AreOperands, IsMadeOf}
pub use Rattle.curve_call.specs.Tails.{TailOf}

pub grids_nest : (z : Sizes) → z.dt * z.ds ∣ grid_of z
grids_nest z = subst (λ n. n ∣ grid_of z) (mul_comm z.ds z.dt) (slope_time_divides z)

fits_period : (z : Sizes) (end from period rise : ℚ) (ps : List Piece) → TailOf z end from period rise → Each (λ p. p.x <ℚ end) ps → FitsPeriod ps from period
fits_period z end from period rise ps T E = record { nonneg = T.nonneg; some = T.some; starts = subst (λ y. Each (λ p. p.x <ℚ y) ps) (sym T.ends) E }

-- of the lower, the upper or the excess
pub made_on_grids : (z : Sizes) (made : Ext → Ext → Ext) (rises : Bool) (f g ps : List Piece) (end from period rise : ℚ) → AreOperands z end f g → IsMadeOf made rises f g end ps
    → TailOf z end from period rise → OnGridsUnlessLine z.dt (grid_of z) (repeated (read ps) from period rise) from period rise
made_on_grids z made rises f g ps end from period rise A M T =
    bends_on rises z.dt z.ds (grid_of z) ps from period rise (grids_nest z) M.starts (fits_period z end from period rise ps T M.early) (M.bends z A) T.time T.whole T.value
