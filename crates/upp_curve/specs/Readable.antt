-- What is read of a curve by steps that always fit: its lines at the start and at the end of each piece, rank + period,
-- the value there, and rise / period. (Own choice: with it a curve's rate and whether it rises are always known.)
use Rattle.std.specs.Prelude.{List, [], ◌∷◌, Option, Some, None}
use Rattle.rational.specs.Rational.{ℚ, ◌+ℚ◌, ◌/ℚ◌}
use Rattle.rational.specs.Ratio.{IsSmall, SumFits}
use Rattle.rational.specs.Extended.{Ext}
use Rattle.rational.specs.declared.Extended.TheVariants.{Fin, Inf}
use Rattle.upp_curve.specs.declared.affine_segment.line.Line.{Line}
use Rattle.upp_curve.specs.declared.affine_segment.line.Piece.{Piece}
use Rattle.upp_curve.specs.declared.curve.Tail.{Tail}
use Rattle.upp_curve.specs.declared.curve.Tail.TheVariants.{Periodic, Affine, Infinite}
use Rattle.upp_curve.specs.affine_segment.Pieces.{start_after}
use Rattle.upp_curve.specs.affine_segment.Fits.{LineFitsAt}
use Rattle.upp_curve.specs.affine_segment.Reading.{read}
use Rattle.upp_curve.specs.Curve.{SpecCurve}

abbrev pub LineFitsTo : Option ℚ → Option Line → Type 0
LineFitsTo None l = Unit {0}
LineFitsTo (Some e) l = LineFitsAt e l

-- each line is readable at its start and at its end: the next start, or of the last line `end` (None: it has no end)
abbrev pub EachFits : Option ℚ → List Piece → Type 0
EachFits end [] = Unit {0}
EachFits end (p ∷ ps) = LineFitsAt p.x p.line × LineFitsTo (start_after ps end) p.line × EachFits end ps

abbrev pub SumFitsAt : Ext → ℚ → Type 0
SumFitsAt (Fin v) c = SumFits v c
SumFitsAt Inf c = Unit {0}

-- of a periodic tail the end of its first period, the value there and its rate are readable too
pub record PeriodFits (ps : List Piece) (rank period rise : ℚ) : Type 0 where
  pub end : SumFits rank period
  pub rate : IsSmall (rise /ℚ period)
  pub next : SumFitsAt (read ps rank) rise
  pub lines : EachFits (Some (rank +ℚ period)) ps

abbrev pub TailReadable : List Piece → Tail → Type 0
TailReadable ps (Periodic rank period rise) = PeriodFits ps rank period rise
TailReadable ps (Affine rank) = EachFits None ps
TailReadable ps (Infinite rank) = EachFits (Some rank) ps

abbrev pub IsReadable : SpecCurve → Type 0
IsReadable c = TailReadable c.pieces c.tail
