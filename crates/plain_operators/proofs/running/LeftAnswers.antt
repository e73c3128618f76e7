-- What is left, in a call within both limits: the steps to it fit, and its pieces are those of an answer.
use Rattle.std.specs.Prelude.{◌≡◌, pos, List}
use Rattle.std.proofs.Common.{arith, sym, ap, ◌∙◌, subst, inl, inr}
use Rattle.rational.specs.Rational.{ℚ, neg_ℚ, ◌+ℚ◌, ◌-ℚ◌, ◌≤ℚ◌, ◌<ℚ◌, int}
use Rattle.rational.specs.Ratio.{SumFits}
use Rattle.rational.specs.Grid.{Whole, Within}
use Rattle.rational.specs.Extended.{Ext, ◌≤ₑ◌}
use Rattle.rational.specs.declared.Extended.TheVariants.{Fin}
use Rattle.rational.proofs.Grid.{whole_add, whole_sub, within_sub}
use Rattle.rational.proofs.Linear.{with2, with3}
use Rattle.rational.proofs.Laws.{le_or_lt, le_refl, le_trans, le_of_lt}
use Rattle.upp_curve.specs.declared.affine_segment.line.Piece.{Piece}
use Rattle.upp_curve.specs.Curve.{SpecCurve, value_at, repeated}
use Rattle.min_plus.specs.Functions.{zero_q}
use Rattle.upp_curve.specs.affine_segment.Pieces.{Each, StartsAtZero}
use Rattle.upp_normal.specs.Normalising.{HasValues}
use Rattle.upp_curve.specs.affine_segment.Reading.{read}
use Rattle.min_plus.specs.Running.{left_after, IsRunningInfimum, IsFifoLeftover}
use Rattle.upp_curve.specs.Steady.{Repeats, rise_over}
use Rattle.upp_limits.specs.Sized.{grid_of, times_largest}
use Rattle.upp_curve.specs.Unrolled.{unroll}
use Rattle.upp_normal.specs.Unrolling.{IsOperandTo}
use Rattle.upp_normal.specs.Operand.{OperandPieces}
use Rattle.upp_normal.proofs.Below.{unroll_reads}
use Rattle.upp_curve.proofs.Finite.{number_of}
use Rattle.upp_curve.proofs.affine_segment.PieceOrder.{each_map}
use Rattle.upp_normal.proofs.StretchSizes.{times_fit}
use Rattle.curve_call.specs.declared.frame.Frame.{Frame}
use Rattle.curve_call.specs.Answering.{IsAnswerWindow}
use Rattle.curve_call.specs.Rises.{CurveRiseFits}
use Rattle.curve_call.proofs.Answering.{answer_relation}
use Rattle.curve_call.specs.declared.stretch.Both.{Both}
use Rattle.curve_call.specs.Pointwise.{mapped}
use Rattle.curve_call.specs.Stretches.{IsOverlay}
use Rattle.upp_normal.proofs.AnswerRoom.{many_more}
use Rattle.plain_operators.proofs.running.Shifts.{infimum_repeats}
use Rattle.plain_operators.specs.running.Behind.{IsServed}
use Rattle.plain_operators.specs.running.LeftCall.{IsLeftFrame, IsLeftWindow}
use Rattle.plain_operators.specs.running.Lowest.{SumPiece, IsLowestCall, IsLowest}
use Rattle.plain_operators.specs.running.Moved.{moved_right}
use Rattle.plain_operators.specs.running.Parts.{left_piece}
use Rattle.plain_operators.proofs.running.LeftCalls.{LeftTimes, left_times, theta_before, from_past, period_early, left_pieces, left_rise, right_rise, rise_sum, rises_less, left_repeats, left_of}
use Rattle.plain_operators.proofs.running.LeftReads.{left_reads}
use Rattle.plain_operators.proofs.running.LeftStands.{IsFiniteIn, LeftStands, lefts_stand, last_value}
use Rattle.plain_operators.proofs.running.LowestReads.{LowestOf, lowest_runs, lowest_answer}
use Rattle.plain_operators.proofs.running.MovedStands.{moved_pieces}
use Rattle.plain_operators.proofs.running.SumSizes.{sums_fit}
use Rattle.curve_call.proofs.Excesses.{excess_nonneg}
use Rattle.curve_call.proofs.FiniteAnswers.{early_left, late_left}
use Rattle.upp_normal.specs.Ahead.{AnswerValue}

-- ---- steps that fit
pub rises_fit : (f g : SpecCurve) (theta : ℚ) (r : Frame) → IsLeftFrame f g theta r → SumFits (rise_over f r.period) (neg_ℚ (rise_over g r.period))
rises_fit f g theta r F =
    let L = F.call in
    let z = F.sizes in
    let a = left_rise f g theta r.start r.period r.end F.number z L in
    let b = right_rise f g theta r.start r.period r.end F.number z L in
    (sums_fit z r.end 3 3 (rise_over f r.period) (rise_over g r.period) L.limited (omega arith) (rise_sum z f r.period a) (rise_sum z g r.period b)).1

pub times_of : (f g : SpecCurve) (theta : ℚ) (r : Frame) → (F : IsLeftFrame f g theta r) → LeftTimes theta r.start r.period r.end F.number
times_of f g theta r F = left_times f g theta r.start r.period r.end F.number F.sizes F.call

pub ends_fit : (f g : SpecCurve) (theta : ℚ) (r : Frame) → IsLeftFrame f g theta r → SumFits r.end r.period × SumFits r.end (neg_ℚ r.period)
ends_fit f g theta r F =
    let L = F.call in
    let T = times_of f g theta r F in
    times_fit F.sizes r.end r.end r.period L.limited L.limited.sizes.window L.period_whole L.limited.some (le_refl r.end) (le_of_lt L.above) (period_early theta r.start r.period r.end F.number T)

pub left_to : (f g : SpecCurve) (theta : ℚ) (r : Frame) → IsLeftFrame f g theta r → IsOperandTo r.end f × IsOperandTo r.end g
left_to f g theta r F =
    let L = F.call in
    (record { sizes = F.sizes; limited = L.limited; stands = L.left }, record { sizes = F.sizes; limited = L.limited; stands = L.right })

pub left_operand : (f g : SpecCurve) (theta : ℚ) (r : Frame) → (F : IsLeftFrame f g theta r) → OperandPieces F.sizes r.end (unroll f r.end)
left_operand f g theta r F = left_pieces f g theta r.start r.period r.end F.number F.sizes F.call

pub right_operand : (f g : SpecCurve) (theta : ℚ) (r : Frame) → (F : IsLeftFrame f g theta r) → OperandPieces F.sizes r.end (moved_right theta r.end (unroll g r.end))
right_operand f g theta r F =
    let L = F.call in
    moved_pieces F.sizes r.end theta g L.second L.limited L.right L.theta_whole L.theta_low (theta_before theta r.start r.period r.end F.number (times_of f g theta r F))

-- ---- the pieces
left_finite : (f g : SpecCurve) (theta : ℚ) (r : Frame) → IsLeftFrame f g theta r → IsServed (value_at f) (value_at g) theta → IsFiniteIn r.end (unroll f r.end)
left_finite f g theta r F S t low early =
    let (level, e) = S.finite t low in
    number_of (read (unroll f r.end) t) level (unroll_reads f r.end t F.call.first.normal low early ∙ e)

left_low : (f g : ℚ → Ext) (theta t : ℚ) → Fin zero_q ≤ₑ left_after f g theta t
left_low f g theta t = elim (le_or_lt t theta) [
  | inl l ↦ subst (λ v. Fin zero_q ≤ₑ v) (sym (early_left f g theta t l)) (le_refl zero_q)
  | inr l ↦ subst (λ v. Fin zero_q ≤ₑ v) (sym (late_left f g theta t l)) (excess_nonneg (f t) (g (t -ℚ theta)))
]

pub window_reads : (f g : SpecCurve) (theta : ℚ) (r : Frame) (ps : List Piece) (t : ℚ) → IsLeftFrame f g theta r → IsServed (value_at f) (value_at g) theta → IsLeftWindow f g theta r.end ps → zero_q ≤ℚ t → t <ℚ r.end
    → read ps t ≡ left_after (value_at f) (value_at g) theta t
window_reads f g theta r ps t F S W low early =
    ap (λ q. read q t) W.pieces
    ∙ left_reads (value_at f) (value_at g) theta r.end (unroll f r.end) (moved_right theta r.end (unroll g r.end)) W.stretches t (left_of f g theta r.start r.period r.end F.number F.sizes F.call S) W.overlay low early

pub window_stands : (f g : SpecCurve) (theta : ℚ) (r : Frame) (ps : List Piece) → (F : IsLeftFrame f g theta r) → IsServed (value_at f) (value_at g) theta → IsLeftWindow f g theta r.end ps
    → StartsAtZero ps × Each (LeftStands F.sizes r.end) ps
window_stands f g theta r ps F S W =
    subst (λ q. StartsAtZero q × Each (LeftStands F.sizes r.end) q) (sym W.pieces)
    (lefts_stand F.sizes r.end (unroll f r.end) (moved_right theta r.end (unroll g r.end)) W.stretches F.call.limited (left_operand f g theta r F) (right_operand f g theta r F) (left_finite f g theta r F S) W.overlay)

-- ---- the rise
pub rise_stands : (f g : SpecCurve) (theta : ℚ) (r : Frame) → (F : IsLeftFrame f g theta r) → AnswerValue F.sizes 6 (rise_over f r.period -ℚ rise_over g r.period)
rise_stands f g theta r F =
    let L = F.call in
    let z = F.sizes in
    let a = left_rise f g theta r.start r.period r.end F.number z L in
    let b = right_rise f g theta r.start r.period r.end F.number z L in
    let x = rise_over f r.period in
    let y = rise_over g r.period in
    record {
      whole = whole_sub (grid_of z) x y a.whole b.whole;
      within = subst (λ m. Within m (x -ℚ y)) (many_more z 3 3) (within_sub (times_largest 3 z) (times_largest 3 z) x y a.within b.within);
    }

rise_low : (f g : SpecCurve) (theta : ℚ) (r : Frame) → IsLeftFrame f g theta r → IsServed (value_at f) (value_at g) theta → zero_q ≤ℚ rise_over f r.period -ℚ rise_over g r.period
rise_low f g theta r F S =
    let less = rises_less f g theta r.start r.period r.end F.number F.sizes F.call S in
    let x = rise_over f r.period in
    let y = rise_over g r.period in
    with2 x y (λ c. omega (arith, c.le, c.lt, c.same))

-- ---- the scans
pub record LeftScan (f g : SpecCurve) (theta : ℚ) (r : Frame) (ps : List Piece) (from far rise : ℚ) : Type 0 where
  pub frame : IsLeftFrame f g theta r
  pub served : IsServed (value_at f) (value_at g) theta
  pub window : IsLeftWindow f g theta r.end ps
  pub from_is : from ≡ r.end -ℚ r.period
  pub far_is : far ≡ r.end +ℚ r.period
  pub rise_is : rise ≡ rise_over f r.period -ℚ rise_over g r.period

pub scan_call : (f g : SpecCurve) (theta : ℚ) (r : Frame) (ps : List Piece) (from far rise : ℚ) → (C : LeftScan f g theta r ps from far rise) → IsLowestCall C.frame.sizes ps from r.end far rise
scan_call f g theta r ps from far rise C =
    let F = C.frame in
    let L = F.call in
    let z = F.sizes in
    let T = times_of f g theta r F in
    let stands = window_stands f g theta r ps F C.served C.window in
    let late = le_trans T.theta_low (le_of_lt (from_past theta r.start r.period r.end F.number T)) in
    let some = L.above in
    let e = r.end in
    let p = r.period in
    let short = period_early theta r.start r.period r.end F.number T in
    let from_is = C.from_is in
    let far_is = C.far_is in
    record {
      limited = L.limited;
      starts = stands.0;
      before = each_map (LeftStands z e) (λ q. q.x <ℚ e) (λ q h. h.before) ps stands.1;
      each = each_map (LeftStands z e) (SumPiece z e) (λ q h. h.sum) ps stands.1;
      nonneg = λ t low early. subst (λ v. Fin zero_q ≤ₑ v) (sym (window_reads f g theta r ps t F C.served C.window low early)) (left_low (value_at f) (value_at g) theta t);
      last_value = λ v h. last_value z e ps v L.limited stands.1 h;
      from_whole = subst (Whole z.dt) (sym C.from_is) (whole_sub z.dt e p L.limited.sizes.window L.period_whole);
      from_low = subst (λ x. zero_q ≤ℚ x) (sym C.from_is) late;
      from_early = with3 from e p (λ c. omega (arith, c.le, c.lt, c.same));
      rise_stands = subst (AnswerValue z 6) (sym C.rise_is) (rise_stands f g theta r F);
      rise_low = subst (λ x. zero_q ≤ℚ x) (sym C.rise_is) (rise_low f g theta r F C.served);
      far_whole = subst (Whole z.dt) (sym C.far_is) (whole_add z.dt e p L.limited.sizes.window L.period_whole);
      far_late = with3 far e p (λ c. omega (arith, c.le, c.lt, c.same));
      far_near = with3 far e p (λ c. omega (arith, c.le, c.lt, c.same));
    }

ends_at : (from e p : ℚ) → from ≡ e -ℚ p → from +ℚ p ≡ e
ends_at from e p h = with3 from e p (λ c. omega (arith, c.le, c.lt, c.same))

scan_of : (f g : SpecCurve) (theta : ℚ) (r : Frame) (ps : List Piece) (from far rise : ℚ) → LeftScan f g theta r ps from far rise
    → LowestOf (left_after (value_at f) (value_at g) theta) ps from r.period r.end far rise
scan_of f g theta r ps from far rise C =
    let F = C.frame in
    let S = scan_call f g theta r ps from far rise C in
    record {
      starts = S.starts;
      before = S.before;
      reads = λ t low early. window_reads f g theta r ps t F C.served C.window low early;
      low = S.from_low;
      some = F.call.above;
      ends = ends_at from r.end r.period C.from_is;
      late = S.far_late;
      rise_low = S.rise_low;
      repeats = subst (λ x. Repeats (left_after (value_at f) (value_at g) theta) from r.period x) (sym C.rise_is)
          (subst (λ x. Repeats (left_after (value_at f) (value_at g) theta) x r.period (rise_over f r.period -ℚ rise_over g r.period)) (sym C.from_is)
          (left_repeats f g theta r.start r.period r.end F.number F.sizes F.call C.served F.enough));
    }

-- ---- the answer
pub left_answer : (f g : SpecCurve) (theta : ℚ) (r : Frame) (ps qs : List Piece) (from far rise : ℚ) → LeftScan f g theta r ps from far rise → IsLowest ps from r.end far rise qs
    → IsAnswerWindow qs from r.period rise r.times r.values
left_answer f g theta r ps qs from far rise C K =
    let F = C.frame in
    lowest_answer F.sizes ps qs from r.period r.end far rise r.times r.values (scan_call f g theta r ps from far rise C) K F.times F.values F.call.period_whole F.call.above (ends_at from r.end r.period C.from_is)

pub left_value : (f g : SpecCurve) (theta : ℚ) (r : Frame) (ps qs : List Piece) (from far rise : ℚ) (c : SpecCurve) → LeftScan f g theta r ps from far rise → IsLowest ps from r.end far rise qs
    → HasValues c (repeated (read qs) from r.period rise) → (t : ℚ) → int (pos 0) ≤ℚ t → IsFifoLeftover (value_at f) (value_at g) (Fin theta) t (value_at c t)
left_value f g theta r ps qs from far rise c C K V =
    let O = scan_of f g theta r ps from far rise C in
    let left = left_after (value_at f) (value_at g) theta in
    answer_relation (λ t v. IsRunningInfimum left t v) c (read qs) from r.period rise V O.low O.some
    (λ t low early. lowest_runs left ps qs from r.period r.end far rise t O K low (subst (λ x. t <ℚ x) O.ends early))
    (λ t v late h. infimum_repeats left from r.period rise t v (le_of_lt O.some) O.repeats late h)

-- ---- as the code makes them
pub window_made : (f g : SpecCurve) (theta end : ℚ) (ls rs ps : List Piece) (bs : List Both) → ls ≡ unroll f end → rs ≡ moved_right theta end (unroll g end) → IsOverlay ls rs bs → ps ≡ mapped left_piece bs
    → IsLeftWindow f g theta end ps
window_made f g theta end ls rs ps bs l r O e = record {
  stretches = bs;
  overlay = subst (λ x. IsOverlay x (moved_right theta end (unroll g end)) bs) l (subst (λ x. IsOverlay ls x bs) r O);
  pieces = e;
}

pub rise_steps : (f g : SpecCurve) (theta : ℚ) (r : Frame) → IsLeftFrame f g theta r → CurveRiseFits f r.period × CurveRiseFits g r.period
rise_steps f g theta r F =
    let L = F.call in
    ((left_rise f g theta r.start r.period r.end F.number F.sizes L).fits, (right_rise f g theta r.start r.period r.end F.number F.sizes L).fits)
