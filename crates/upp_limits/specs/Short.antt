-- Calls whose numbers are all whole and below 2 ^ 36 in size: their gauge is below the limit, and both grids are 1. Own choice.
use Rattle.std.specs.Prelude.{◌≡◌, ◌<◌, ◌^◌, nat_abs, Option, Some, None}
use Rattle.rational.specs.Rational.{ℚ, den}
use Rattle.rational.specs.Extended.{Ext}
use Rattle.rational.specs.declared.Extended.TheVariants.{Fin, Inf}
use Rattle.upp_curve.specs.declared.affine_segment.line.Line.{Line}
use Rattle.upp_curve.specs.declared.affine_segment.line.Piece.{Piece}
use Rattle.upp_curve.specs.declared.curve.Tail.{Tail}
use Rattle.upp_curve.specs.declared.curve.Tail.TheVariants.{Periodic, Affine, Infinite}
use Rattle.upp_curve.specs.affine_segment.Pieces.{Each}
use Rattle.upp_curve.specs.Curve.{SpecCurve}
use Rattle.upp_curve.specs.Curves.{IsCurve}
use Rattle.upp_limits.specs.declared.op_kind.OpKind.{OpKind}
use Rattle.upp_limits.specs.declared.op_kind.OpKind.TheVariants.{PosMinus, Shift, FifoLeft}
use Rattle.upp_limits.specs.declared.op_kind.Operands.{Operands}
use Rattle.upp_limits.specs.declared.op_kind.Operands.TheVariants.{First, Both, FirstScaled}
use Rattle.upp_limits.specs.Gauges.{operands_of}

-- a whole number below 2 ^ 36 in size
pub record IsShort (x : ℚ) : Type 0 where
  pub whole : den x ≡ 1
  pub size : nat_abs x.num < 2 ^ 36

abbrev pub IsShortValue : Ext → Type 0
IsShortValue Inf = Unit {0}
IsShortValue (Fin v) = IsShort v

abbrev pub IsShortLine : Option Line → Type 0
IsShortLine None = Unit {0}
IsShortLine (Some l) = IsShort l.icept × IsShort l.slope

pub record IsShortPiece (p : Piece) : Type 0 where
  pub start : IsShort p.x
  pub at : IsShortValue p.at
  pub line : IsShortLine p.line

abbrev pub IsShortTail : Tail → Type 0
IsShortTail (Periodic rank period rise) = IsShort rank × IsShort period × IsShort rise
IsShortTail (Affine rank) = IsShort rank
IsShortTail (Infinite rank) = IsShort rank

pub record IsShortCurve (c : SpecCurve) : Type 0 where
  pub is : IsCurve c
  pub pieces : Each IsShortPiece c.pieces
  pub tail : IsShortTail c.tail

-- of a call's operands; a scaled one is left to the gauge
abbrev pub AreShort : Operands → SpecCurve → SpecCurve → Type 0
AreShort First f g = IsShortCurve f
AreShort Both f g = IsShortCurve f × IsShortCurve g
AreShort (FirstScaled q) f g = ⊥

-- the numbers that belong to the kind itself
abbrev pub IsShortKind : OpKind → Type 0
IsShortKind (PosMinus l) = IsShort l
IsShortKind (Shift x) = IsShortValue x
IsShortKind (FifoLeft theta) = IsShortValue theta
IsShortKind op = Unit {0}

-- a call over the end of its window
pub record IsShortCall (op : OpKind) (f g : SpecCurve) (end : ℚ) : Type 0 where
  pub until : IsShort end
  pub kind : IsShortKind op
  pub operands : AreShort (operands_of op) f g
