-- What is answered for an element of a curve: the curve of its closure. Own choice.
use Rattle.std.specs.Prelude.{ℕ, Result, Ok, Err, ◌⊎◌}
use Rattle.rational.specs.Rational.{ℚ, ◌≤ℚ◌, ◌<ℚ◌}
use Rattle.rational.specs.Extended.{Ext}
use Rattle.upp_curve.specs.declared.affine_segment.line.Line.{Line}
use Rattle.upp_curve.specs.declared.affine_segment.element.Element.{Element}
use Rattle.upp_curve.specs.affine_segment.Elements.{element_value}
use Rattle.upp_limits.specs.declared.op_kind.OpFault.{OpFault}
use Rattle.upp_limits.specs.declared.op_kind.OpFault.TheVariants.{TooMany, TooWide, NoMemory}
use Rattle.upp_curve.specs.Curve.{SpecCurve, value_at}
use Rattle.min_plus.specs.Functions.{zero_q}
use Rattle.upp_curve.specs.Normal.{IsNormal}
use Rattle.min_plus.specs.Convolution.{IsSubadditiveClosure}
use Rattle.subadd_closure.specs.Heavy.{IsHeavy}
use Rattle.subadd_closure.specs.ElementCurves.{IsStretch}

-- c is the curve, in normal form, of the closure of an element, whatever the size of its numbers
pub record IsElementClosure (e : Element) (c : SpecCurve) : Type 0 where
  pub normal : IsNormal c
  pub closes : (t : ℚ) → zero_q ≤ℚ t → IsSubadditiveClosure (element_value e) t (value_at c t)

-- the curve; TooWide only where it is too wide for any call; want of memory
abbrev pub ClosureAnswer : Element → Result SpecCurve OpFault → Type 0
ClosureAnswer e (Ok c) = IsElementClosure e c
ClosureAnswer e (Err TooMany) = ⊥
ClosureAnswer e (Err TooWide) = (c : SpecCurve) × IsElementClosure e c × IsHeavy c
ClosureAnswer e (Err NoMemory) = Unit {0}

-- a line on an open stretch from 0 on, of which m stretches of sums end before the next begins, or just there; a line
-- that is below 0 at 0 starts later
pub record IsOpenPart (a : ℚ) (b : Ext) (l : Line) (m : ℕ) : Type 0 where
  pub stretch : IsStretch a b m
  pub late : (zero_q ≤ℚ l.icept) ⊎ (zero_q <ℚ a)
