-- The tally and the gauge of each kind of call, and when a call is refused for them. Own choice.
use Rattle.std.specs.Prelude.{◌≡◌, ℕ, ◌+◌, ◌*◌, ◌^◌, ◌<◌, ◌≤◌, List, [], ◌∷◌, map, Option, Some, None, ◌⊎◌}
use Rattle.rational.specs.Rational.{ℚ, ◌*ℚ◌, ◌≤ℚ◌}
use Rattle.rational.specs.Extended.{Ext, ◌<ₑ◌}
use Rattle.rational.specs.declared.Extended.TheVariants.{Fin, Inf}
use Rattle.upp_curve.specs.declared.affine_segment.line.Line.{Line}
use Rattle.upp_curve.specs.declared.affine_segment.line.Piece.{Piece}
use Rattle.upp_curve.specs.declared.curve.Tail.{Tail}
use Rattle.upp_curve.specs.declared.curve.Tail.TheVariants.{Periodic, Affine, Infinite}
use Rattle.upp_limits.specs.declared.op_kind.OpKind.{OpKind}
use Rattle.upp_limits.specs.declared.op_kind.OpKind.TheVariants.{Sum, Min, Max, PosDiff, PosMinus, Scale, Shift, RunSup}
use Rattle.upp_limits.specs.declared.op_kind.OpKind.TheVariants.{RunInf, FifoLeft, Convolve, Deconvolve, Horizontal}
use Rattle.upp_limits.specs.declared.op_kind.OpKind.TheVariants.{Vertical, Itself}
use Rattle.upp_curve.specs.Curve.{SpecCurve, value_at}
use Rattle.upp_curve.specs.Steady.{rate}
use Rattle.upp_curve.specs.Unrolled.{count}
use Rattle.min_plus.specs.Functions.{zero_q, IsFinite, IsRising}
use Rattle.upp_limits.specs.declared.op_kind.Tallied.{Tallied}
use Rattle.upp_limits.specs.declared.op_kind.Tallied.TheVariants.{FirstAlone, FirstAndOne, SumOfBoth, ProductOfBoth}
use Rattle.upp_limits.specs.declared.op_kind.Operands.{Operands}
use Rattle.upp_limits.specs.declared.op_kind.Operands.TheVariants.{First, Both, FirstScaled}
use Rattle.min_plus.specs.Pointwise.{scaled}
use Rattle.upp_limits.specs.Limits.{Numbers, no_numbers, joined, curve_numbers, sizes_of, gauge_of}
use Rattle.upp_limits.specs.Windows.{window_at, IsLeastPeriods}

-- ---- calls that look at no piece
-- f has a value above every value of g
pub record ValueAbove (f g : ℚ → Ext) : Type 0 where
  pub at : ℚ
  pub nonneg : zero_q ≤ℚ at
  pub above : (u : ℚ) → zero_q ≤ℚ u → g u <ₑ f at

-- both rise, both have rate 0, and f ends above g
pub record EndsAbove (f g : SpecCurve) : Type 0 where
  pub rising : IsRising (value_at f) × IsRising (value_at g)
  pub level : (rate f ≡ Fin zero_q) × (rate g ≡ Fin zero_q)
  pub above : ValueAbove (value_at f) (value_at g)

-- The answer is known by what is infinite or by the rates, and no piece is looked at: a shift by infinity, a left-over
-- after an infinite wait, a deconvolution of a faster curve, a deviation of a curve that is infinite somewhere or
-- faster, and the horizontal deviation of a curve that ends above another. The last is looked for in curves that rise
-- alone, as the operands of a horizontal deviation do.
abbrev pub IsKnownAtOnce : OpKind → SpecCurve → SpecCurve → Type 0
IsKnownAtOnce (Shift Inf) f g = Unit {0}
IsKnownAtOnce (FifoLeft Inf) f g = Unit {0}
IsKnownAtOnce Deconvolve f g = rate g <ₑ rate f
IsKnownAtOnce Horizontal f g = ¬ (IsFinite (value_at f)) ⊎ ((rate g <ₑ rate f) ⊎ EndsAbove f g)
IsKnownAtOnce Vertical f g = ¬ (IsFinite (value_at f)) ⊎ (rate g <ₑ rate f)
IsKnownAtOnce op f g = ⊥

-- ---- the tally: how many pieces, or pairs of pieces, the call looks at
-- of which pieces the tally of a kind is made
abbrev pub tallied : OpKind → Tallied
tallied Sum = SumOfBoth
tallied Min = SumOfBoth
tallied Max = SumOfBoth
tallied PosDiff = SumOfBoth
tallied (PosMinus l) = FirstAndOne
tallied (Scale q) = FirstAlone
tallied (Shift x) = FirstAlone
tallied RunSup = FirstAlone
tallied RunInf = FirstAlone
tallied (FifoLeft theta) = SumOfBoth
tallied Convolve = ProductOfBoth
tallied Deconvolve = ProductOfBoth
tallied Horizontal = SumOfBoth
tallied Vertical = SumOfBoth
tallied Itself = FirstAlone

-- the number, for m unrolled pieces of f and n of g; a constant is one piece
abbrev pub tally_of : Tallied → ℕ → ℕ → ℕ
tally_of FirstAlone m n = m
tally_of FirstAndOne m n = m + 1
tally_of SumOfBoth m n = m + n
tally_of ProductOfBoth m n = m * n

unfoldable pub tally_over : OpKind → SpecCurve → SpecCurve → ℚ → ℕ
tally_over op f g end = tally_of (tallied op) (count f end) (count g end)

-- ---- the gauge
-- f, q times as high
abbrev pub scaled_line : ℚ → Option Line → Option Line
scaled_line q None = None
scaled_line q (Some l) = Some record { icept = q *ℚ l.icept; slope = q *ℚ l.slope }

abbrev pub scaled_piece : ℚ → Piece → Piece
scaled_piece q p = record { x = p.x; at = scaled q p.at; line = scaled_line q p.line }

abbrev pub scaled_tail : ℚ → Tail → Tail
scaled_tail q (Periodic rank period rise) = Periodic rank period (q *ℚ rise)
scaled_tail q (Affine rank) = Affine rank
scaled_tail q (Infinite rank) = Infinite rank

abbrev pub scaled_curve : ℚ → SpecCurve → SpecCurve
scaled_curve q c = record { pieces = map (scaled_piece q) c.pieces; tail = scaled_tail q c.tail }

abbrev pub both_numbers : ℚ → SpecCurve → SpecCurve → Numbers
both_numbers end f g = joined (curve_numbers end f) (curve_numbers end g)

abbrev pub time_number : Ext → List ℚ
time_number Inf = []
time_number (Fin x) = x ∷ []

-- the numbers that belong to the kind itself
abbrev pub kind_numbers : OpKind → Numbers
kind_numbers (PosMinus l) = record { times = []; values = l ∷ []; slopes = [] }
kind_numbers (Shift x) = record { times = time_number x; values = []; slopes = [] }
kind_numbers (FifoLeft theta) = record { times = time_number theta; values = []; slopes = [] }
kind_numbers op = no_numbers

-- whose pieces count in the gauge of a kind
abbrev pub operands_of : OpKind → Operands
operands_of Sum = Both
operands_of Min = Both
operands_of Max = Both
operands_of PosDiff = Both
operands_of (PosMinus l) = First
operands_of (Scale q) = FirstScaled q
operands_of (Shift x) = First
operands_of RunSup = First
operands_of RunInf = First
operands_of (FifoLeft theta) = Both
operands_of Convolve = Both
operands_of Deconvolve = Both
operands_of Horizontal = Both
operands_of Vertical = Both
operands_of Itself = First

-- the numbers of the operands
abbrev pub operand_numbers : Operands → ℚ → SpecCurve → SpecCurve → Numbers
operand_numbers First end f g = curve_numbers end f
operand_numbers Both end f g = both_numbers end f g
operand_numbers (FirstScaled q) end f g = both_numbers end f (scaled_curve q f)

abbrev pub numbers_over : OpKind → SpecCurve → SpecCurve → ℚ → Numbers
numbers_over op f g end = joined (kind_numbers op) (operand_numbers (operands_of op) end f g)

unfoldable pub gauge_over : OpKind → SpecCurve → SpecCurve → ℚ → ℕ
gauge_over op f g end = gauge_of (sizes_of end (numbers_over op f g end))

-- ---- over a limit
abbrev pub tally_at : OpKind → SpecCurve → SpecCurve → ℕ → ℕ → ℕ
tally_at op f g k m = tally_over op f g (window_at op f g k m)

abbrev pub gauge_at : OpKind → SpecCurve → SpecCurve → ℕ → ℕ → ℕ
gauge_at op f g k m = gauge_over op f g (window_at op f g k m)

-- the gauge is 2 ^ 120 or more with the least numbers of periods; also where there are none
pub record IsTooWide (op : OpKind) (f g : SpecCurve) : Type 0 where
  pub looks : ¬ (IsKnownAtOnce op f g)
  pub gauge : (k m : ℕ) → IsLeastPeriods op f g k m → 2 ^ 120 ≤ gauge_at op f g k m

-- the gauge is below that, and the tally above 2 ^ 20
pub record IsTooMany (op : OpKind) (f g : SpecCurve) : Type 0 where
  pub looks : ¬ (IsKnownAtOnce op f g)
  pub first : ℕ
  pub second : ℕ
  pub are_least : IsLeastPeriods op f g first second
  pub gauge : gauge_at op f g first second < 2 ^ 120
  pub tally : 2 ^ 20 < tally_at op f g first second
