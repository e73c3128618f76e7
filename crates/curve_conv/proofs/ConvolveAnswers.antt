-- The convolution of two curves in a call within both limits: its pieces have room, and it repeats from the last period of its window on.
use Rattle.std.specs.Prelude.{◌≡◌, ◌+◌, pos, List, Result, IfOk, Vec}
use Rattle.std.proofs.Common.{arith, sym, ap, ◌∙◌, subst, inl, inr, Global}
use Rattle.rational.specs.Rational.{ℚ, ◌+ℚ◌, ◌-ℚ◌, ◌*ℚ◌, ◌≤ℚ◌, ◌<ℚ◌, int}
use Rattle.rational.specs.Grid.{Whole}
use Rattle.rational.specs.Extended.{◌<ₑ◌}
use Rattle.rational.proofs.Grid.{within_weaken}
use Rattle.rational.proofs.Linear.{with6}
use Rattle.rational.proofs.Laws.{le_refl, le_trans, le_of_lt, mul_nonneg}
use Rattle.rational.proofs.Integers.{nat_nonneg}
use Rattle.upp_curve.specs.declared.affine_segment.line.Piece.{Piece}
use Rattle.upp_curve.specs.affine_segment.Reading.{read}
use Rattle.upp_curve.specs.Curve.{SpecCurve, repeated, value_at}
use Rattle.min_plus.specs.Convolution.{IsConvolution}
use Rattle.upp_curve.specs.affine_segment.Pieces.{Each}
use Rattle.upp_normal.specs.Normalising.{HasValues}
use Rattle.upp_curve.specs.Unrolled.{unroll}
use Rattle.upp_curve.specs.Steady.{steady, rate, rise_over}
use Rattle.upp_limits.specs.Periods.{periods_after}
use Rattle.upp_limits.specs.Limits.{Sizes}
use Rattle.upp_limits.specs.Sized.{times_largest}
use Rattle.upp_normal.proofs.AnswerRoom.{more_largest}
use Rattle.upp_normal.proofs.Below.{unroll_reads}
use Rattle.upp_curve.proofs.affine_segment.PieceOrder.{each_map}
use Rattle.curve_call.proofs.TailGrids.{TailOf}
use Rattle.curve_call.specs.declared.frame.Frame.{Frame}
use Rattle.curve_call.specs.Answering.{IsAnswerWindow}
use Rattle.curve_call.proofs.CurveRises.{IsRise}
use Rattle.plain_operators.specs.pointwise.Lattice.{RisesBy}
use Rattle.plain_operators.proofs.pointwise.LatticeCalls.{operands, from_is, from_late, from_whole, left_rise, right_rise, some_end, more_periods}
use Rattle.curve_call.proofs.TailMoves.{rates_compared}
use Rattle.element_envelope.specs.ConvolutionWindows.{OperandWindows, IsConvolutionWindow}
use Rattle.element_envelope.specs.SumWindows.{SumPiece}
use Rattle.element_envelope.proofs.Windows.{agreeing}
use Rattle.element_envelope.proofs.SumRoom.{pieces_room}
use Rattle.element_envelope.proofs.ArchBends.{sums_on_grids}
use Rattle.curve_conv.specs.Late.{IsSlowerLate}
use Rattle.curve_conv.proofs.Repeating.{ConvolvesFrom, convolution_repeats}
use Rattle.curve_conv.specs.ConvolveCall.{IsConvolveFrame}
use Rattle.plain_operators.proofs.pointwise.LatticeAnswers.{RiseHasRoom, back, slower_or_not}

-- ---- the operands
pub windows : (f g : SpecCurve) (r : Frame) (ls rs : List Piece) (F : IsConvolveFrame f g r) → ls ≡ unroll f r.end → rs ≡ unroll g r.end → OperandWindows r.end ls rs
windows f g r ls rs F el er =
    let A = operands f g r.start r.period r.end (F.number + 1) F.sizes ls rs F.call el er in
    record { sizes = F.sizes; limited = F.call.limited; some = some_end f g r.start r.period r.end (F.number + 1) F.sizes F.call; left = A.left; right = A.right }

-- what is convolved is what is written out of them
pub convolved_window : {E : Type 0} (r : Result (Vec Piece Global) E) (f g : SpecCurve) (end : ℚ) (ls rs : List Piece) → ls ≡ unroll f end → rs ≡ unroll g end → IfOk r (λ v. IsConvolutionWindow ls rs end v.items)
    → IfOk r (λ v. IsConvolutionWindow (unroll f end) (unroll g end) end v.items)
convolved_window r f g end ls rs el er h =
    subst (λ z. IfOk r (λ v. IsConvolutionWindow z (unroll g end) end v.items)) el (subst (λ z. IfOk r (λ v. IsConvolutionWindow ls z end v.items)) er h)

-- ---- the rise stands

pub rise_has_room : (z : Sizes) (c : SpecCurve) (d : ℚ) → IsRise z c d → RiseHasRoom z (rise_over c d)
rise_has_room z c d R = record { whole = R.whole; within = within_weaken (times_largest 3 z) (times_largest 8 z) (rise_over c d) (more_largest z 3 8 (omega arith)) R.within }

pub rise_room : (f g : SpecCurve) (r : Frame) (rise : ℚ) (F : IsConvolveFrame f g r) → RisesBy (rate g <ₑ rate f) (rise_over g r.period) (rise_over f r.period) rise → RiseHasRoom F.sizes rise
rise_room f g r rise F R = elim (slower_or_not (rate g) (rate f)) [
  | inl h ↦ subst (RiseHasRoom F.sizes) (sym (R.so h)) (rise_has_room F.sizes g r.period (right_rise f g r.start r.period r.end (F.number + 1) F.sizes F.call))
  | inr h ↦ subst (RiseHasRoom F.sizes) (sym (R.else h)) (rise_has_room F.sizes f r.period (left_rise f g r.start r.period r.end (F.number + 1) F.sizes F.call))
]

-- ---- the answer

pub convolved_answer : (f g : SpecCurve) (r : Frame) (ls rs ps : List Piece) (from rise : ℚ) → IsConvolveFrame f g r → ls ≡ unroll f r.end → rs ≡ unroll g r.end → IsConvolutionWindow ls rs r.end ps
    → from ≡ r.end -ℚ r.period → RisesBy (rate g <ₑ rate f) (rise_over g r.period) (rise_over f r.period) rise → IsAnswerWindow ps from r.period rise r.times r.values
unfolding windows
convolved_answer f g r ls rs ps from rise F el er M ef R =
    let L = F.call in
    let z = F.sizes in
    let k = F.number + 1 in
    let O = windows f g r ls rs F el er in
    let W = M.stands O in
    let room = rise_room f g r rise F R in
    let whole : Whole z.dt from = subst (Whole z.dt) (sym ef) (from_whole f g r.start r.period r.end k z L) in
    let nonneg : int (pos 0) ≤ℚ from = subst (λ y. int (pos 0) ≤ℚ y) (sym ef) (le_trans L.nonneg (from_late f g r.start r.period r.end k z L)) in
    let ends = back r.end r.period from ef in
    let tail : TailOf z r.end from r.period rise = record { nonneg = nonneg; some = L.above; ends = ends; time = whole; whole = L.period_whole; value = room.whole } in
    record {
      sizes = z;
      end = r.end;
      limited = L.limited;
      times_is = F.times;
      values_is = F.values;
      starts = M.starts;
      before = subst (λ y. Each (λ p. p.x <ℚ y) ps) (sym ends) (each_map (SumPiece z r.end) (λ p. p.x <ℚ r.end) (λ p P. P.start.before) ps W.each);
      room = pieces_room z r.end ps L.limited W;
      from_whole = whole;
      nonneg = nonneg;
      period_whole = L.period_whole;
      above = L.above;
      early = subst (λ y. from +ℚ r.period ≤ℚ y) ends (le_refl (from +ℚ r.period));
      rise_whole = room.whole;
      rise_within = room.within;
      grids = sums_on_grids z r.end from r.period rise ps L.limited W (M.arches O) tail;
    }

-- ---- its values

late_by : (f g : SpecCurve) (r : Frame) (F : IsConvolveFrame f g r) → steady f +ℚ steady g +ℚ r.period ≤ℚ r.end -ℚ r.period
late_by f g r F =
    let k = F.number in
    let p = r.period in
    let y = int (pos k) *ℚ r.period in
    let low : int (pos 0) ≤ℚ y = mul_nonneg (nat_nonneg k) (le_of_lt F.call.above) in
    let e : r.end -ℚ p ≡ periods_after r.start (k + 1) p = from_is f g r.start p r.end (k + 1) F.sizes F.call in
    let m : int (pos (k + 1)) *ℚ p ≡ y +ℚ p = more_periods k p in
    at r.start (steady f +ℚ steady g) p (r.end -ℚ p) y (int (pos (k + 1)) *ℚ p) F.start low e m
  where
    at : (s t p x y w : ℚ) → s ≡ t → int (pos 0) ≤ℚ y → x ≡ s +ℚ w → w ≡ y +ℚ p → t +ℚ p ≤ℚ x
    at s t p x y w a b e m = with6 s t p x y w (λ c. omega (arith, c.le, c.lt, c.same))

pub convolved_values : (f g : SpecCurve) (r : Frame) (ls rs ps : List Piece) (from rise : ℚ) (c : SpecCurve) → IsConvolveFrame f g r → ls ≡ unroll f r.end → rs ≡ unroll g r.end
    → IsConvolutionWindow ls rs r.end ps → from ≡ r.end -ℚ r.period → RisesBy (rate g <ₑ rate f) (rise_over g r.period) (rise_over f r.period) rise → HasValues c (repeated (read ps) from r.period rise)
    → (t : ℚ) → int (pos 0) ≤ℚ t → IsConvolution (value_at f) (value_at g) t (value_at c t)
convolved_values f g r ls rs ps from rise c F el er M ef R same =
    let L = F.call in
    let ends = back r.end r.period from ef in
    let C : ConvolvesFrom f g r.period from = record {
      first = L.first;
      second = L.second;
      left = L.left_periods;
      right = L.right_periods;
      some = L.above;
      late = subst (λ y. steady f +ℚ steady g +ℚ r.period ≤ℚ y) (sym ef) (late_by f g r F);
      enough = subst (λ y. IsSlowerLate f g y r.period) (sym ef) F.enough;
    } in
    convolution_repeats f g r.period from rise c (read ps) C R.so R.else same
    (λ t some early.
    let before : t <ℚ r.end = subst (λ y. t <ℚ y) ends early in
    agreeing (read ls) (read rs) (value_at f) (value_at g) r.end t (read ps t)
    (λ s n l. ap (λ us. read us s) el ∙ unroll_reads f r.end s L.first.normal n l) (λ s n l. ap (λ us. read us s) er ∙ unroll_reads g r.end s L.second.normal n l) before (M.reads t some before))
    (rates_compared (rate f) (rate g))
