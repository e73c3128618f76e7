-- The end of a curve's own window by its last piece and its tail, and which steps to it have to fit. Own choice.
use Rattle.std.specs.Prelude.{◌≡◌, ◌*◌, pos, Bool}
use Rattle.rational.specs.Rational.{ℚ, ◌+ℚ◌, ◌≤ℚ◌, int}
use Rattle.rational.specs.Ratio.{SumFits}
use Rattle.rational.specs.declared.Extended.TheVariants.{Inf}
use Rattle.upp_curve.specs.declared.affine_segment.line.Piece.{Piece}
use Rattle.upp_curve.specs.affine_segment.Values.{line_value}
use Rattle.upp_curve.specs.declared.curve.Tail.{Tail}
use Rattle.upp_curve.specs.declared.curve.Tail.TheVariants.{Periodic, Affine, Infinite}
use Rattle.upp_curve.specs.affine_segment.Reading.{piece_value}
use Rattle.upp_curve.specs.Steady.{same_ext, later_unless}
use Rattle.upp_limits.specs.Seen.{RankLineFits}
use Rattle.upp_limits.specs.Limits.{Sizes, gauge_of}
use Rattle.upp_limits.specs.declared.own_window.OwnNumbers.{OwnNumbers}

-- the last piece starts at the rank of an affine or infinite tail or before
abbrev pub LastBy : Piece → Tail → Type 0
LastBy p (Periodic rank period rise) = Unit {0}
LastBy p (Affine rank) = p.x ≤ℚ rank
LastBy p (Infinite rank) = p.x ≤ℚ rank

-- whether the value at the rank is that of what goes on past it
abbrev pub affine_keeps : Piece → ℚ → Bool
affine_keeps p rank = same_ext (piece_value p rank) (line_value p.line rank)

abbrev pub infinite_keeps : Piece → ℚ → Bool
infinite_keeps p rank = same_ext (piece_value p rank) Inf

abbrev pub end_from : Piece → Tail → ℚ
end_from p (Periodic rank period rise) = rank +ℚ period
end_from p (Affine rank) = later_unless (affine_keeps p rank) rank +ℚ int (pos 1)
end_from p (Infinite rank) = later_unless (infinite_keeps p rank) rank +ℚ int (pos 1)

pub record RankFits (rank steady : ℚ) : Type 0 where
  pub first : SumFits rank (int (pos 1))
  pub second : SumFits steady (int (pos 1))

pub record AffineFits (p : Piece) (rank steady : ℚ) : Type 0 where
  pub line : RankLineFits p rank
  pub sums : RankFits rank steady

abbrev pub EndFits : Piece → Tail → Type 0
EndFits p (Periodic rank period rise) = SumFits rank period
EndFits p (Affine rank) = AffineFits p rank (later_unless (affine_keeps p rank) rank)
EndFits p (Infinite rank) = RankFits rank (later_unless (infinite_keeps p rank) rank)

-- `end` is the end of the first period of a periodic tail
abbrev pub EndsAt : Tail → ℚ → Type 0
EndsAt (Periodic rank period rise) end = end ≡ rank +ℚ period
EndsAt (Affine rank) end = Unit {0}
EndsAt (Infinite rank) end = Unit {0}

-- the end of a window, and the gauge and the grids of its sizes: times on that of dt, values and products of slopes
-- with times on that of dv dt ds
pub record AreNumbers (until : ℚ) (z : Sizes) (o : OwnNumbers) : Type 0 where
  pub end : o.end ≡ until
  pub gauge : o.gauge ≡ gauge_of z
  pub times : o.times ≡ z.dt
  pub values : o.values ≡ z.dv * z.dt * z.ds
