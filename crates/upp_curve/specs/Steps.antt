-- Which step of a curve's value was too wide. Own choice.
use Rattle.std.specs.Prelude.{pos, List, [], ◌∷◌, Option, Some, None, ◌⊎◌}
use Rattle.rational.specs.Rational.{ℚ, ◌-ℚ◌, ◌*ℚ◌, ◌≤ℚ◌, ◌<ℚ◌, int}
use Rattle.rational.specs.Whole.{periods}
use Rattle.rational.specs.Extended.{Ext}
use Rattle.rational.specs.declared.Extended.TheVariants.{Fin, Inf}
use Rattle.fraction128.specs.declared.fault.Wide.{Wide}
use Rattle.upp_curve.specs.declared.affine_segment.line.Line.{Line}
use Rattle.upp_curve.specs.declared.affine_segment.line.Piece.{Piece}
use Rattle.upp_curve.specs.affine_segment.Steps.{IsWideSum, IsWideDifference, IsWideProduct, IsWideQuotient, IsWideValue}
use Rattle.upp_curve.specs.declared.curve.Tail.{Tail}
use Rattle.upp_curve.specs.declared.curve.Tail.TheVariants.{Periodic, Affine, Infinite}
use Rattle.upp_curve.specs.affine_segment.Reading.{read, piece_in}
use Rattle.upp_curve.specs.Curve.{SpecCurve}

-- w is a step of the line's value at t; where there is no line there is no step
abbrev pub IsWideLine : Option Line → ℚ → Wide → Type 0
IsWideLine None t w = ⊥
IsWideLine (Some l) t w = IsWideValue l t w

-- w is a step of the line there
abbrev pub IsWideRead : List Piece → ℚ → Wide → Type 0
IsWideRead [] t w = ⊥
IsWideRead (p ∷ ps) t w = IsWideLine (piece_in p ps t).line t w

-- w is the sum of a finite value and a rise
abbrev pub IsWideRise : Ext → ℚ → Wide → Type 0
IsWideRise Inf c w = ⊥
IsWideRise (Fin v) c w = IsWideSum v c w

-- w is a step of the number of whole periods between the rank and t: t - rank, and its quotient by the period
abbrev pub IsWidePeriods : ℚ → ℚ → ℚ → Wide → Type 0
IsWidePeriods rank period t w = IsWideDifference t rank w ⊎ IsWideQuotient (t -ℚ rank) period w

-- past the rank of a periodic tail: the number n of whole periods, n times the period, t less that, the value there, n
-- times the rise, and the sum with that
abbrev pub IsWidePast : List Piece → (rank period rise t n : ℚ) → Wide → Type 0
IsWidePast ps rank period rise t n w =
    IsWidePeriods rank period t w ⊎ IsWideProduct n period w ⊎ IsWideDifference t (n *ℚ period) w
    ⊎ IsWideRead ps (t -ℚ n *ℚ period) w
    ⊎ IsWideProduct n rise w ⊎ IsWideRise (read ps (t -ℚ n *ℚ period)) (n *ℚ rise) w

abbrev pub IsWideAt : List Piece → Tail → ℚ → Wide → Type 0
IsWideAt ps (Periodic rank period rise) t w =
    (t ≤ℚ rank × IsWideRead ps t w)
    ⊎ (rank <ℚ t × IsWidePast ps rank period rise t (int (pos (periods rank period t))) w)
IsWideAt ps (Affine rank) t w = IsWideRead ps t w
IsWideAt ps (Infinite rank) t w = t ≤ℚ rank × IsWideRead ps t w

-- w is one of the steps of the curve's value at t
abbrev pub IsWideValueAt : SpecCurve → ℚ → Wide → Type 0
IsWideValueAt c t w = IsWideAt c.pieces c.tail t w
