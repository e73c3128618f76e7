-- The numbers of a call's operands without unrolling, and that each of them is known. Own choice.
use Rattle.std.specs.Prelude.{Option, Some, None}
use Rattle.std.specs.List.{AllByRecursion}
use Rattle.rational.specs.Rational.{ℚ, ◌*ℚ◌, ◌<ℚ◌}
use Rattle.rational.specs.Ratio.{IsSmall}
use Rattle.rational.specs.Extended.{Ext}
use Rattle.rational.specs.declared.Extended.TheVariants.{Fin, Inf}
use Rattle.upp_curve.specs.declared.affine_segment.line.Line.{Line}
use Rattle.upp_curve.specs.declared.affine_segment.line.Piece.{Piece}
use Rattle.upp_curve.specs.declared.curve.Tail.{Tail}
use Rattle.upp_curve.specs.declared.curve.Tail.TheVariants.{Periodic, Affine, Infinite}
use Rattle.upp_limits.specs.declared.op_kind.Operands.{Operands}
use Rattle.upp_limits.specs.declared.op_kind.Operands.TheVariants.{First, Both, FirstScaled}
use Rattle.upp_curve.specs.Curve.{SpecCurve}
use Rattle.upp_limits.specs.Spans.{Span, spans}
use Rattle.upp_limits.specs.Limits.{Numbers, joined}
use Rattle.upp_limits.specs.Seen.{Knows}
use Rattle.upp_limits.specs.ClosedForm.{closed_numbers}
use Rattle.upp_limits.specs.Gauges.{scaled_piece, scaled_tail, scaled_curve}

abbrev pub closed_operands : Operands → ℚ → SpecCurve → SpecCurve → Numbers
closed_operands First end f g = closed_numbers end f
closed_operands Both end f g = joined (closed_numbers end f) (closed_numbers end g)
closed_operands (FirstScaled q) end f g = joined (closed_numbers end f) (closed_numbers end (scaled_curve q f))

-- every number of a curve below `end` is known
abbrev pub KnowsCurve : ℚ → SpecCurve → Type 0
KnowsCurve end c = AllByRecursion (Knows c.tail end) (spans c.tail c.pieces)

-- ---- a curve times a factor
abbrev pub ValueScales : ℚ → Ext → Type 0
ValueScales q Inf = Unit {0}
ValueScales q (Fin x) = IsSmall (q *ℚ x)

pub record ScaledLineFits (q : ℚ) (l : Line) : Type 0 where
  pub icept : IsSmall (q *ℚ l.icept)
  pub slope : IsSmall (q *ℚ l.slope)

abbrev pub LineScales : ℚ → Option Line → Type 0
LineScales q None = Unit {0}
LineScales q (Some l) = ScaledLineFits q l

pub record PieceScales (q : ℚ) (p : Piece) : Type 0 where
  pub at : ValueScales q p.at
  pub line : LineScales q p.line

abbrev pub TailScales : ℚ → Tail → Type 0
TailScales q (Periodic rank period rise) = IsSmall (q *ℚ rise)
TailScales q (Affine rank) = Unit {0}
TailScales q (Infinite rank) = Unit {0}

abbrev pub scaled_span : ℚ → Span → Span
scaled_span q s = record { piece = scaled_piece q s.piece; next = s.next }

-- of a span its piece, where it starts before `end`, can be scaled, and its numbers are known; the tail is scaled
pub record KnowsTimes (q : ℚ) (tail : Tail) (end : ℚ) (s : Span) : Type 0 where
  pub scales : s.piece.x <ℚ end → PieceScales q s.piece
  pub knows : Knows tail end (scaled_span q s)

pub record KnowsScaled (q : ℚ) (end : ℚ) (c : SpecCurve) : Type 0 where
  pub tail : TailScales q c.tail
  pub spans : AllByRecursion (KnowsTimes q (scaled_tail q c.tail) end) (spans c.tail c.pieces)
