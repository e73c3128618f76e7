-- What the limits of a call for a running bound give: sizes that hold the curve's numbers, its pieces in the window, and how it repeats.
use Rattle.std.specs.Prelude.{◌≡◌, ℕ, ◌<◌, ◌^◌, List, [], ◌∷◌, Some}
use Rattle.std.proofs.Common.{arith, sym, ◌∙◌, refl, subst}
use Rattle.rational.specs.Rational.{ℚ, ◌+ℚ◌, neg_ℚ, ◌≤ℚ◌, ◌<ℚ◌}
use Rattle.rational.specs.Ratio.{SumFits}
use Rattle.rational.specs.Grid.{Whole}
use Rattle.rational.specs.declared.Extended.TheVariants.{Inf}
use Rattle.rational.proofs.Grid.{whole_neg, within_neg}
use Rattle.rational.proofs.Laws.{le_refl, le_of_lt, le_trans}
use Rattle.rational.proofs.Linear.{with3}
use Rattle.upp_curve.specs.declared.affine_segment.line.Piece.{Piece}
use Rattle.upp_limits.specs.declared.op_kind.OpKind.{OpKind}
use Rattle.upp_limits.specs.declared.op_kind.OpKind.TheVariants.{RunSup, RunInf}
use Rattle.upp_curve.specs.affine_segment.Reading.{read}
use Rattle.upp_curve.specs.Curve.{SpecCurve, value_at}
use Rattle.upp_curve.specs.Curves.{IsCurve}
use Rattle.min_plus.specs.Functions.{zero_q, IsFinite, IsNonnegative}
use Rattle.upp_limits.specs.Gauges.{numbers_over, gauge_at}
use Rattle.upp_curve.specs.affine_segment.Pieces.{Each, StartsAtZero}
use Rattle.upp_curve.specs.Shapes.{IsFinitePiece, IsNumber}
use Rattle.upp_curve.specs.Steady.{Repeats, steady, rise_over, IsWholePeriods}
use Rattle.upp_limits.specs.Periods.{own_period}
use Rattle.upp_limits.specs.Limits.{Sizes, curve_numbers}
use Rattle.upp_limits.specs.Sized.{Stands, grid_of, times_largest}
use Rattle.upp_normal.specs.Operand.{AreLimited, OperandPieces}
use Rattle.upp_curve.specs.Unrolled.{unroll}
use Rattle.upp_normal.specs.Unrolling.{IsOperandTo}
use Rattle.upp_limits.specs.Windows.{window_at}
use Rattle.upp_normal.proofs.AnswerRoom.{wide_narrow}
use Rattle.upp_normal.proofs.Below.{unroll_reads}
use Rattle.upp_curve.proofs.Finite.{pieces_finite, number_of}
use Rattle.upp_normal.proofs.GaugeRises.{limited_over}
use Rattle.upp_limits.proofs.NarrowSizes.{small_sum}
use Rattle.upp_limits.proofs.Stands.{sizes_stand}
use Rattle.upp_curve.proofs.Steady.{steady_rule}
use Rattle.upp_normal.proofs.UnrolledPieces.{operand_pieces, unroll_starts, unroll_before}
use Rattle.upp_normal.proofs.UnrollSteps.{time_within}
use Rattle.curve_call.specs.declared.frame.Frame.{Frame}
use Rattle.curve_call.specs.declared.windows.CallWindow.{CallWindow}
use Rattle.curve_call.specs.CallWindows.{IsWindow as IsCallWindow}
use Rattle.curve_call.specs.Frames.{IsFrame, sizes_at}
use Rattle.curve_call.proofs.CallFits.{call_early}
use Rattle.curve_call.proofs.CallTimes.{IsCall, period_on, start_on, first_stands}
use Rattle.curve_call.proofs.CurveRises.{IsRise, rise_is, own_whole}
use Rattle.curve_call.proofs.FrameFacts.{FrameFacts, frame_facts}
use Rattle.plain_operators.specs.running.Scans.{IsWindow, ScanFits}
use Rattle.plain_operators.specs.running.Periods.{IsSupremumCall}
use Rattle.plain_operators.proofs.running.Covers.{no_fall}
use Rattle.plain_operators.proofs.running.LevelSizes.{scan_fits}
use Rattle.upp_curve.proofs.affine_segment.PieceIn.{read_is}
use Rattle.upp_normal.proofs.StretchSizes.{time_whole}

pub record RunFacts (f : SpecCurve) (start period end : ℚ) (z : Sizes) : Type 0 where
  pub curve : IsCurve f
  pub limited : AreLimited z end
  pub stands : Stands z (curve_numbers end f)
  pub start_is : start ≡ steady f
  pub period_is : period ≡ own_period f
  pub start_whole : Whole z.dt start
  pub low : zero_q ≤ℚ start
  pub period_whole : Whole z.dt period
  pub some : zero_q <ℚ period
  pub both : start +ℚ period ≤ℚ end

from_frame : (op : OpKind) (f : SpecCurve) (r : Frame) (z : Sizes) → IsCurve f → FrameFacts op f f r z → r.start ≡ steady f → r.period ≡ own_period f
    → RunFacts f r.start r.period r.end z
from_frame op f r z curve F start period = record {
  curve = curve;
  limited = F.limited;
  stands = first_stands op z r.end f f F.stands;
  start_is = start;
  period_is = period;
  start_whole = F.start.whole;
  low = F.start.nonneg;
  period_whole = F.period.whole;
  some = F.period.above;
  both = F.early.both;
}

pub sup_facts : (f : SpecCurve) (k : ℕ) (r : Frame) → IsFrame RunSup f f k 0 r → RunFacts f r.start r.period r.end (sizes_at RunSup f f k 0)
sup_facts f k r h = from_frame RunSup f r (sizes_at RunSup f f k 0) h.first (frame_facts RunSup f f k 0 r tt h) h.start h.period

pub inf_facts : (f : SpecCurve) (r : Frame) → IsFrame RunInf f f 0 0 r → RunFacts f r.start r.period r.end (sizes_at RunInf f f 0 0)
inf_facts f r h = from_frame RunInf f r (sizes_at RunInf f f 0 0) h.first (frame_facts RunInf f f 0 0 r tt h) h.start h.period

-- the same without any period, where only the gauge is known
pub window_facts : (f : SpecCurve) (w : CallWindow) → IsCurve f → IsCallWindow RunSup f f 0 0 w → gauge_at RunSup f f 0 0 < 2 ^ 120
    → RunFacts f w.start w.period w.end (sizes_at RunSup f f 0 0)
window_facts f w is h gauge =
    subst (λ e. RunFacts f w.start w.period e z) (sym h.end)
    (subst (λ s. RunFacts f s w.period end z) (sym h.start) (subst (λ p. RunFacts f (steady f) p end z) (sym h.period) here))
  where
    end : ℚ
    end = window_at RunSup f f 0 0

    z : Sizes
    z = sizes_at RunSup f f 0 0

    call : IsCall RunSup f f z end
    call = record { first = is; second = tt; forward = tt; stands = sizes_stand end (numbers_over RunSup f f end) }

    here : RunFacts f (steady f) (own_period f) end z
    here =
        let start = start_on RunSup f f z end call in
        let period = period_on RunSup f f z end call in
        let early = call_early RunSup f f 0 0 z end call in
        record {
          curve = is;
          limited = limited_over RunSup f f end (le_trans start.nonneg early.start) gauge;
          stands = first_stands RunSup z end f f call.stands;
          start_is = refl;
          period_is = refl;
          start_whole = start.whole;
          low = start.nonneg;
          period_whole = period.whole;
          some = period.above;
          both = early.both;
        }

-- ---- times
pub end_some : (f : SpecCurve) (start period end : ℚ) (z : Sizes) → RunFacts f start period end z → zero_q <ℚ end
end_some f start period end z F =
    let a = F.low in
    let b = F.some in
    let c = F.both in
    with3 start period end (λ q. omega (arith, q.le, q.lt, q.same))

pub sum_fits : (f : SpecCurve) (start period end : ℚ) (z : Sizes) → RunFacts f start period end z → SumFits start period
sum_fits f start period end z F =
    let a = F.low in
    let b = F.some in
    let c = F.both in
    let S = F.limited.sizes in
    small_sum z end 1 1 start period S (wide_narrow z end F.limited) (omega arith) (time_whole z start F.start_whole) (time_whole z period F.period_whole)
    (time_within z end start S a (with3 start period end (λ q. omega (arith, q.le, q.lt, q.same))))
    (time_within z end period S (le_of_lt b) (with3 start period end (λ q. omega (arith, q.le, q.lt, q.same))))

pub difference_fits : (f : SpecCurve) (start period end : ℚ) (z : Sizes) → RunFacts f start period end z → SumFits end (neg_ℚ period)
difference_fits f start period end z F =
    let a = F.low in
    let b = F.some in
    let c = F.both in
    let S = F.limited.sizes in
    small_sum z end 1 1 end (neg_ℚ period) S (wide_narrow z end F.limited) (omega arith) (time_whole z end S.window)
    (whole_neg (grid_of z) period (time_whole z period F.period_whole))
    (time_within z end end S F.limited.some (le_refl end)) (within_neg (times_largest 1 z) period
    (time_within z end period S (le_of_lt b) (with3 start period end (λ q. omega (arith, q.le, q.lt, q.same)))))

-- ---- the pieces in the window
pub operand_to : (f : SpecCurve) (start period end : ℚ) (z : Sizes) → RunFacts f start period end z → IsOperandTo end f
operand_to f start period end z F = record { sizes = z; limited = F.limited; stands = F.stands }

pub run_pieces : (f : SpecCurve) (start period end : ℚ) (z : Sizes) → RunFacts f start period end z → OperandPieces z end (unroll f end)
run_pieces f start period end z F = operand_pieces z end f F.curve F.limited (end_some f start period end z F) F.stands

pub run_reads : (f : SpecCurve) (start period end : ℚ) (z : Sizes) → RunFacts f start period end z → (t : ℚ) → zero_q ≤ℚ t → t <ℚ end → read (unroll f end) t ≡ value_at f t
run_reads f start period end z F t low early = unroll_reads f end t F.curve.normal low early

each_finite : (end : ℚ) (ps : List Piece) → StartsAtZero ps → Each (λ p. p.x <ℚ end) ps → ((t : ℚ) → zero_q ≤ℚ t → t <ℚ end → IsNumber (read ps t)) → Each IsFinitePiece ps
each_finite end [] s b h = absurd s
each_finite end (p ∷ ps) s b h =
    pieces_finite (Some record { x = end; at = Inf }) p ps
    record { starts = s.1; early = b; finite = λ t low early. subst IsNumber (read_is p ps t) (h t (subst (λ x. x ≤ℚ t) s.0 low) early) }

pub run_window : (f : SpecCurve) (start period end : ℚ) (z : Sizes) → RunFacts f start period end z → IsFinite (value_at f) → IsWindow end (unroll f end)
run_window f start period end z F finite =
    let starts = unroll_starts f end (end_some f start period end z F) F.curve.normal in
    let before = unroll_before f end in
    record {
      starts = starts;
      before = before;
      finite = each_finite end (unroll f end) starts before
          (λ t low early. let (level, e) = finite t low in number_of (read (unroll f end) t) level (run_reads f start period end z F t low early ∙ e));
    }

pub run_fits : (f : SpecCurve) (start period end : ℚ) (z : Sizes) → RunFacts f start period end z → ScanFits end (unroll f end)
run_fits f start period end z F = scan_fits z end (unroll f end) F.limited (run_pieces f start period end z F)

-- ---- how it repeats
whole_periods : (f : SpecCurve) (start period end : ℚ) (z : Sizes) → RunFacts f start period end z → IsWholePeriods f.tail period
whole_periods f start period end z F = subst (IsWholePeriods f.tail) (sym F.period_is) (own_whole f F.curve)

pub run_rise : (f : SpecCurve) (start period end : ℚ) (z : Sizes) → RunFacts f start period end z → IsRise z f period
run_rise f start period end z F =
    rise_is z end f period F.limited F.curve F.stands (whole_periods f start period end z F) F.period_whole F.some (subst (λ s. s +ℚ period ≤ℚ end) F.start_is F.both)

pub run_repeats : (f : SpecCurve) (start period end : ℚ) (z : Sizes) → RunFacts f start period end z → Repeats (value_at f) start period (rise_over f period)
run_repeats f start period end z F =
    subst (λ s. Repeats (value_at f) s period (rise_over f period)) (sym F.start_is)
    (steady_rule f period F.curve.normal.raw (whole_periods f start period end z F) (le_of_lt F.some))

pub run_low : (f : SpecCurve) (start period end : ℚ) (z : Sizes) → RunFacts f start period end z → IsFinite (value_at f) → IsNonnegative (value_at f)
    → zero_q ≤ℚ rise_over f period
run_low f start period end z F finite nonneg =
    let (level, e) = finite start F.low in
    no_fall (value_at f) start period (rise_over f period) level F.low F.some (run_repeats f start period end z F) e nonneg

pub run_call : (f : SpecCurve) (start period rise end : ℚ) (z : Sizes) → RunFacts f start period end z → IsFinite (value_at f) → IsNonnegative (value_at f)
    → rise ≡ rise_over f period
    → IsSupremumCall f start period rise
run_call f start period rise end z F finite nonneg e = record {
  curve = F.curve;
  finite = finite;
  nonneg = nonneg;
  start_is = F.start_is;
  period_is = F.period_is;
  rise_is = e;
  sizes = z;
  end = end;
  limited = F.limited;
  stands = F.stands;
  early = F.both;
  start_whole = F.start_whole;
  low = F.low;
  period_whole = F.period_whole;
  some = F.some;
  sum = sum_fits f start period end z F;
}
