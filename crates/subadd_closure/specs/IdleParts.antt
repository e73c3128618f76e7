-- Elements whose stars leave the zero curve as it is, in the calls of the fold. Own choice.
use Rattle.std.specs.Prelude.{Ok}
use Rattle.rational.specs.Rational.{ℚ}
use Rattle.rational.specs.Extended.{Ext}
use Rattle.upp_curve.specs.declared.affine_segment.line.Line.{Line}
use Rattle.upp_curve.specs.declared.affine_segment.element.Element.{Element}
use Rattle.upp_curve.specs.declared.affine_segment.element.Element.TheVariants.{Open}
use Rattle.upp_curve.specs.Curve.{SpecCurve}
use Rattle.min_plus.specs.Functions.{zero_q}
use Rattle.upp_limits.specs.declared.op_kind.OpKind.TheVariants.{Convolve, Min}
use Rattle.curve_call.specs.Calls.{Applies}
use Rattle.curve_call.specs.Levels.{level_curve}
use Rattle.subadd_closure.specs.ElementAnswers.{IsElementClosure}
use Rattle.subadd_closure.specs.Folds.{SegmentWithin, segment_number}
use Rattle.subadd_closure.specs.Lattices.{origin_curve}

-- c, lowered by the point 0 at 0, leaves the zero curve as it is
pub record LeavesZero (c : SpecCurve) : Type 0 where
  pub star : SpecCurve
  pub lowered : Applies Min c origin_curve (Ok star)
  pub convolved : Applies Convolve (level_curve zero_q) star (Ok (level_curve zero_q))

-- so does the closure of an element
pub record ClosureLeaves (e : Element) : Type 0 where
  pub closure : SpecCurve
  pub closes : IsElementClosure e closure
  pub leaves : LeavesZero closure

-- and the segment's own operator is over no limit
pub record IsIdleSegment (f : SpecCurve) (a : ℚ) (b : Ext) (l : Line) : Type 0 where
  pub within : SegmentWithin f (segment_number (Open a b l))
  pub leaves : ClosureLeaves (Open a b l)
