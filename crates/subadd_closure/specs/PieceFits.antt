-- The steps by which the pieces of a closure are made, where they fit. Own choice.
use Rattle.std.specs.Prelude.{Option, Some, None, List, [], ◌∷◌, Result, Ok, Err}
use Rattle.rational.specs.Rational.{ℚ, ◌-ℚ◌, ◌*ℚ◌, neg_ℚ}
use Rattle.rational.specs.Ratio.{IsSmall, SumFits}
use Rattle.rational.specs.Extended.{Ext}
use Rattle.rational.specs.declared.Extended.TheVariants.{Fin, Inf}
use Rattle.upp_curve.specs.declared.affine_segment.line.Line.{Line}
use Rattle.upp_curve.specs.declared.affine_segment.line.Piece.{Piece}
use Rattle.upp_curve.specs.affine_segment.Values.{line_value}
use Rattle.upp_curve.specs.declared.curve.Tail.{Tail}
use Rattle.upp_curve.specs.declared.curve.Tail.TheVariants.{Periodic, Affine, Infinite}
use Rattle.upp_limits.specs.declared.op_kind.OpFault.{OpFault}
use Rattle.upp_limits.specs.declared.op_kind.OpFault.TheVariants.{TooMany, TooWide, NoMemory}
use Rattle.upp_curve.specs.Curve.{SpecCurve, HasSameValues}
use Rattle.upp_curve.specs.Curves.{IsCurve}
use Rattle.upp_curve.specs.affine_segment.Pieces.{Each}
use Rattle.upp_curve.specs.affine_segment.Fits.{LineFitsAt}
use Rattle.subadd_closure.specs.Heavy.{IsHeavy}

abbrev pub AtFits : Ext → Type 0
AtFits Inf = Unit {0}
AtFits (Fin v) = IsSmall v

pub record LineParts (l : Line) : Type 0 where
  pub icept : IsSmall l.icept
  pub slope : IsSmall l.slope

abbrev pub LineFits : Option Line → Type 0
LineFits None = Unit {0}
LineFits (Some l) = LineParts l

-- from the value just after a start down to the value at it
abbrev pub DropFits : Ext → Ext → Type 0
DropFits Inf w = Unit {0}
DropFits (Fin v) Inf = Unit {0}
DropFits (Fin v) (Fin w) = SumFits w (neg_ℚ (w -ℚ v))

pub record PieceFits (p : Piece) : Type 0 where
  pub start : IsSmall p.x
  pub at : AtFits p.at
  pub line : LineFits p.line
  pub reads : LineFitsAt p.x p.line
  pub drop : DropFits p.at (line_value p.line p.x)

-- the slope of a line times x
abbrev pub SlopeFitsAt : ℚ → Option Line → Type 0
SlopeFitsAt x None = Unit {0}
SlopeFitsAt x (Some l) = IsSmall (l.slope *ℚ x)

-- that of each line at its start and at the next start, and of a line before them at the first start
abbrev pub SlopesRead : Option Line → List Piece → Type 0
SlopesRead l [] = Unit {0}
SlopesRead l (p ∷ ps) = SlopeFitsAt p.x l × SlopeFitsAt p.x p.line × SlopesRead p.line ps

-- a tail that repeats
abbrev pub Turns : Tail → Type 0
Turns (Periodic rank period rise) = Unit {0}
Turns (Affine rank) = ⊥
Turns (Infinite rank) = ⊥

-- ---- answers
-- pieces that are not made: a step does not fit, or want of memory
abbrev pub IsUnfit : List Piece → OpFault → Type 0
IsUnfit ps TooMany = ⊥
IsUnfit ps TooWide = ¬ (Each PieceFits ps)
IsUnfit ps NoMemory = Unit {0}

-- the curve, or that it is too wide for any call, or want of memory
pub record IsCurveOf (c d : SpecCurve) : Type 0 where
  pub same : HasSameValues d c
  pub curve : IsCurve d

abbrev pub IsMade : SpecCurve → Result SpecCurve OpFault → Type 0
IsMade c (Ok d) = IsCurveOf c d
IsMade c (Err TooMany) = ⊥
IsMade c (Err TooWide) = IsHeavy c
IsMade c (Err NoMemory) = Unit {0}
