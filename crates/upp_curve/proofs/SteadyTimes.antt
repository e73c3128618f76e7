-- A curve begins to repeat at its rank or 1 later, so at 0 or later.
use Rattle.std.specs.Prelude.{pos, Bool, true, false, List}
use Rattle.std.proofs.Common.{arith}
use Rattle.rational.specs.Rational.{ℚ, ◌≤ℚ◌, int}
use Rattle.rational.proofs.Linear.{with1}
use Rattle.rational.proofs.Laws.{le_refl, le_trans}
use Rattle.upp_curve.specs.declared.affine_segment.line.Piece.{Piece}
use Rattle.upp_curve.specs.declared.curve.Tail.{Tail}
use Rattle.upp_curve.specs.declared.curve.Tail.TheVariants.{Periodic, Affine, Infinite}
use Rattle.upp_curve.specs.Curve.{SpecCurve}
use Rattle.upp_curve.specs.Curves.{IsCurve}
use Rattle.upp_curve.specs.Normal.{TailFits}
use Rattle.upp_curve.specs.Steady.{rank_of, later_unless, steady_in, steady}

pub later_at_least : (b : Bool) (r : ℚ) → r ≤ℚ later_unless b r
later_at_least true r = le_refl r
later_at_least false r = with1 r (λ c. omega (arith, c.le, c.lt, c.same))

pub rank_nonneg : (ps : List Piece) (tail : Tail) → TailFits ps tail → int (pos 0) ≤ℚ rank_of tail
rank_nonneg ps (Periodic rank period rise) h = h.nonneg
rank_nonneg ps (Affine rank) h = h.nonneg
rank_nonneg ps (Infinite rank) h = h.nonneg

pub curve_rank : (c : SpecCurve) → IsCurve c → int (pos 0) ≤ℚ rank_of c.tail
curve_rank c is = rank_nonneg c.pieces c.tail is.normal.raw.tail

pub rank_early : (c : SpecCurve) → rank_of c.tail ≤ℚ steady c
unfolding steady
rank_early c = by_tail c.pieces c.tail
  where
    by_tail : (ps : List Piece) (tail : Tail) → rank_of tail ≤ℚ steady_in ps tail
    by_tail ps (Periodic rank period rise) = le_refl rank
    by_tail ps (Affine rank) = later_at_least _ rank
    by_tail ps (Infinite rank) = later_at_least _ rank

pub steady_nonneg : (c : SpecCurve) → IsCurve c → int (pos 0) ≤ℚ steady c
steady_nonneg c is = le_trans (curve_rank c is) (rank_early c)
