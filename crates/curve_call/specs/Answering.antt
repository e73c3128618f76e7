-- Pieces of an answer in a call's window, where the call's sizes hold them. Own choice.
use Rattle.std.specs.Prelude.{◌≡◌, ℕ, pos, List}
use Rattle.rational.specs.Rational.{ℚ, ◌+ℚ◌, ◌≤ℚ◌, ◌<ℚ◌, int}
use Rattle.rational.specs.Grid.{Whole, Within}
use Rattle.upp_curve.specs.declared.affine_segment.line.Piece.{Piece}
use Rattle.upp_curve.specs.affine_segment.Reading.{read}
use Rattle.upp_curve.specs.Curve.{repeated}
use Rattle.upp_curve.specs.affine_segment.Pieces.{Each, StartsAtZero}
use Rattle.upp_normal.specs.Normalising.{OnGridsUnlessLine}
use Rattle.upp_normal.specs.Room.{PieceHasRoom}
use Rattle.upp_limits.specs.Limits.{Sizes}
use Rattle.upp_limits.specs.Sized.{grid_of, times_largest}
use Rattle.upp_normal.specs.Operand.{AreLimited, answer_room}

-- pieces from 0 on below from + period, which is no later than the end of a window; they and what repeats them have
-- room by the window's sizes, and where the answer turns its true periods stand on their grids
pub record IsAnswerWindow (ps : List Piece) (from period rise : ℚ) (times values : ℕ) : Type 0 where
  pub sizes : Sizes
  pub end : ℚ
  pub limited : AreLimited sizes end
  pub times_is : times ≡ sizes.dt
  pub values_is : values ≡ grid_of sizes
  pub starts : StartsAtZero ps
  pub before : Each (λ p. p.x <ℚ from +ℚ period) ps
  pub room : Each (PieceHasRoom (answer_room sizes end) 1) ps
  pub from_whole : Whole sizes.dt from
  pub nonneg : int (pos 0) ≤ℚ from
  pub period_whole : Whole sizes.dt period
  pub above : int (pos 0) <ℚ period
  pub early : from +ℚ period ≤ℚ end
  pub rise_whole : Whole (grid_of sizes) rise
  pub rise_within : Within (times_largest 8 sizes) rise
  pub grids : OnGridsUnlessLine sizes.dt (grid_of sizes) (repeated (read ps) from period rise) from period rise
