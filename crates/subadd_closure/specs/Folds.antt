-- The fold by which the closure of a curve is made: for each of its parts the closure of the element, its copies, and
-- the point (0, 0), and the result convolved with that of the parts before. What it answers, and its limits. (The star
-- of a minimum is the convolution of the stars: Bouillard, Boyer and Le Corronc; the order and the limits are own
-- choice.)
use Rattle.std.specs.Prelude.{◌≡◌, ℕ, suc, ◌+◌, ◌*◌, ◌^◌, ◌<◌, ◌≤◌, cond, List, [], ◌∷◌, Option, Some, None, Result, Ok, Err}
use Rattle.rational.specs.Rational.{◌-ℚ◌, ◌/ℚ◌, lt_q}
use Rattle.rational.specs.Whole.{whole_part}
use Rattle.rational.specs.declared.Extended.TheVariants.{Fin, Inf}
use Rattle.upp_curve.specs.declared.affine_segment.element.Element.{Element}
use Rattle.upp_curve.specs.declared.affine_segment.element.Element.TheVariants.{Point, Open}
use Rattle.upp_limits.specs.declared.op_kind.OpKind.TheVariants.{Min, Convolve}
use Rattle.upp_limits.specs.declared.op_kind.OpFault.{OpFault}
use Rattle.upp_limits.specs.declared.op_kind.OpFault.TheVariants.{TooMany, TooWide, NoMemory}
use Rattle.upp_curve.specs.Curve.{SpecCurve, value_at}
use Rattle.upp_curve.specs.Curves.{IsCurve}
use Rattle.min_plus.specs.Functions.{zero_q}
use Rattle.upp_limits.specs.Limits.{own_gauge}
use Rattle.curve_call.specs.Calls.{Applies}
use Rattle.outcomes.specs.Calls.{Then}
use Rattle.subadd_closure.specs.ElementAnswers.{IsElementClosure}
use Rattle.subadd_closure.specs.Lattices.{lattice_curve, origin_curve}
use Rattle.subadd_closure.specs.CurveParts.{parts_of}
use Rattle.subadd_closure.specs.declared.part.Copies.{Copies}
use Rattle.subadd_closure.specs.declared.part.Part.{Part}
use Rattle.min_plus.specs.closure_laws.StarFolds.{IsSetBack}

-- ---- the operator of a segment, so that a closure of too many pieces is never made
-- of a segment from a > 0 up to an end b: the least whole number above a / (b - a); other elements have none
abbrev pub segment_number : Element → Option ℕ
segment_number (Point x v) = None
segment_number (Open a Inf l) = None
segment_number (Open a (Fin b) l) = cond (lt_q zero_q a) (Some (suc (whole_part (a /ℚ (b -ℚ a))))) None

abbrev pub segment_tally : ℕ → ℕ
segment_tally n = 2 * n + 4

abbrev pub segment_gauge : SpecCurve → ℕ → ℕ
segment_gauge f n = (n + 2) * own_gauge f

-- over neither limit
abbrev pub SegmentWithin : SpecCurve → Option ℕ → Type 0
SegmentWithin f None = Unit {0}
SegmentWithin f (Some n) = (segment_gauge f n < 2 ^ 120) × (segment_tally n ≤ 2 ^ 20)

-- over the limit that is named; want of memory only where it is over neither
abbrev pub SegmentCause : SpecCurve → Option ℕ → OpFault → Type 0
SegmentCause f None TooMany = ⊥
SegmentCause f None TooWide = ⊥
SegmentCause f None NoMemory = Unit {0}
SegmentCause f (Some n) TooMany = (segment_gauge f n < 2 ^ 120) × (2 ^ 20 < segment_tally n)
SegmentCause f (Some n) TooWide = 2 ^ 120 ≤ segment_gauge f n
SegmentCause f (Some n) NoMemory = SegmentWithin f (Some n)

-- ---- one part
-- the closure of its element, whatever the size of its numbers
abbrev pub ElementAnswer : SpecCurve → Element → Result SpecCurve OpFault → Type 0
ElementAnswer f e (Ok c) = SegmentWithin f (segment_number e) × IsElementClosure e c
ElementAnswer f e (Err fault) = SegmentCause f (segment_number e) fault

-- convolved with the lattice of its copies, where it has copies
abbrev pub CopiedAnswer : Option Copies → SpecCurve → Result SpecCurve OpFault → Type 0
CopiedAnswer None c r = r ≡ Ok c
CopiedAnswer (Some k) c r = Applies Convolve c (lattice_curve k.period k.rise) r

-- lowered by the point (0, 0)
abbrev pub LoweredAnswer : SpecCurve → Result SpecCurve OpFault → Type 0
LoweredAnswer c r = Applies Min c origin_curve r

abbrev pub PartAnswer : SpecCurve → Part → Result SpecCurve OpFault → Type 0
PartAnswer f p r = Then (ElementAnswer f p.element) (λ c. Then (CopiedAnswer p.copies c) LoweredAnswer) r

-- ---- the parts in their order
-- the result so far, convolved with what each part makes
abbrev pub FoldAnswer : SpecCurve → SpecCurve → List Part → Result SpecCurve OpFault → Type 0
FoldAnswer f sofar [] r = r ≡ Ok sofar
FoldAnswer f sofar (p ∷ ps) r =
    Then (Then (PartAnswer f p) (λ c. Applies Convolve sofar c)) (λ c. FoldAnswer f c ps) r

-- a part that leaves the result so far as it is
abbrev pub LeavesAsIs : SpecCurve → SpecCurve → Part → Type 0
LeavesAsIs f sofar p = (star : SpecCurve) × PartAnswer f p (Ok star) × Applies Convolve sofar star (Ok sofar)

-- the first part has no result before it
abbrev pub PartsAnswer : SpecCurve → List Part → Result SpecCurve OpFault → Type 0
PartsAnswer f [] r = ⊥
PartsAnswer f (p ∷ ps) r = Then (PartAnswer f p) (λ c. FoldAnswer f c ps) r

-- ---- the closure
-- the curve with the value at 0 set to that of f; no limit is asked of it
pub record IsSetBackCurve (f c h : SpecCurve) : Type 0 where
  pub curve : IsCurve h
  pub values : IsSetBack (value_at f) (value_at c) (value_at h)

abbrev pub SetBackAnswer : SpecCurve → SpecCurve → Result SpecCurve OpFault → Type 0
SetBackAnswer f c (Ok h) = IsSetBackCurve f c h
SetBackAnswer f c (Err fault) = fault ≡ NoMemory

-- the closure of f, or the refusal of the first operator of the fold that is over a limit
abbrev pub CloseAnswer : SpecCurve → Result SpecCurve OpFault → Type 0
CloseAnswer f r = Then (PartsAnswer f (parts_of f)) (SetBackAnswer f) r
