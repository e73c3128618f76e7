-- The value at which a curve of rate 0 that rises ends. Own choice.
use Rattle.std.specs.Prelude.{List, Option, Some, None}
use Rattle.rational.specs.Rational.{ℚ, ◌<ℚ◌}
use Rattle.upp_curve.specs.declared.affine_segment.line.Line.{Line}
use Rattle.upp_curve.specs.declared.affine_segment.line.Piece.{Piece}
use Rattle.upp_curve.specs.declared.curve.Tail.{Tail}
use Rattle.upp_curve.specs.declared.curve.Tail.TheVariants.{Periodic, Affine, Infinite}
use Rattle.upp_curve.specs.Curve.{SpecCurve}
use Rattle.upp_curve.specs.Steady.{last_line}

abbrev pub icept_of : Option Line → Option ℚ
icept_of None = None
icept_of (Some l) = Some l.icept

-- the value at 0 of an affine tail's line; where its slope is 0, that is the line's value
abbrev pub level_in : List Piece → Tail → Option ℚ
level_in ps (Periodic rank period rise) = None
level_in ps (Affine rank) = icept_of (last_line ps)
level_in ps (Infinite rank) = None

abbrev pub level_of : SpecCurve → Option ℚ
level_of c = level_in c.pieces c.tail

-- both have a level, and the first is above the second
abbrev pub IsLevelAbove : Option ℚ → Option ℚ → Type 0
IsLevelAbove None y = ⊥
IsLevelAbove (Some x) None = ⊥
IsLevelAbove (Some x) (Some y) = y <ℚ x
