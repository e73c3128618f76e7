-- The sizes and the times of a call of the convolution, and which limits it is over.
use Rattle.std.specs.Prelude.{◌≡◌, ℕ, suc, ◌+◌, ◌<◌, ◌≤◌, ◌^◌, pos, Result, Ok, Err, IfOk, IfErr}
use Rattle.std.proofs.Common.{arith, sym, ap, ◌∙◌, subst}
use Rattle.rational.specs.Rational.{ℚ, neg_ℚ, ◌+ℚ◌, ◌-ℚ◌, ◌*ℚ◌, ◌≤ℚ◌, ◌<ℚ◌, int}
use Rattle.rational.specs.Ratio.{SumFits}
use Rattle.rational.specs.Grid.{Whole}
use Rattle.rational.proofs.Linear.{with2, with3, with4, with5}
use Rattle.rational.proofs.Laws.{le_trans, le_of_lt, one_mul, mul_le_mul_right}
use Rattle.rational.proofs.Integers.{nat_le}
use Rattle.rational.proofs.Whole.{one_more_times}
use Rattle.upp_limits.specs.declared.op_kind.OpKind.TheVariants.{Convolve}
use Rattle.upp_limits.specs.declared.op_kind.OpFault.{OpFault}
use Rattle.upp_limits.specs.declared.op_kind.OpFault.TheVariants.{TooMany, TooWide, NoMemory}
use Rattle.upp_curve.specs.Curve.{SpecCurve}
use Rattle.upp_curve.specs.Curves.{IsCurve}
use Rattle.upp_curve.specs.Steady.{steady, IsWholePeriods}
use Rattle.upp_limits.specs.Periods.{common_period, periods_after}
use Rattle.upp_limits.specs.Windows.{window_at, Meets, IsLeastPeriods, IsSlowerLateLeast}
use Rattle.upp_limits.specs.Limits.{Sizes, sizes_of, curve_numbers}
use Rattle.upp_limits.specs.Gauges.{numbers_over, gauge_over, gauge_at, IsTooWide, IsKnownAtOnce}
use Rattle.upp_limits.specs.Outcome.{IsWithin, IsCauseOf, KeepsLimits}
use Rattle.upp_limits.specs.Sized.{Stands}
use Rattle.upp_normal.specs.Operand.{AreLimited}
use Rattle.upp_normal.specs.Ahead.{HasWindow}
use Rattle.upp_limits.proofs.CurveStands.{are_sizes}
use Rattle.upp_limits.proofs.Stands.{sizes_stand}
use Rattle.curve_call.specs.declared.frame.Frame.{Frame}
use Rattle.curve_call.specs.declared.windows.CallWindow.{CallWindow}
use Rattle.curve_call.specs.Frames.{IsFrame, IsRefusedAt, sizes_at}
use Rattle.curve_call.proofs.CallTimes.{first_stands, second_stands, IsCall, start_on, period_on, window_is}
use Rattle.curve_call.proofs.CallFits.{call_early}
use Rattle.curve_call.proofs.CurveRises.{common_first, common_second}
use Rattle.curve_call.proofs.FirstGate.{first_gate, gauge_grows}
use Rattle.curve_call.proofs.Limited.{refused_cause, frame_within, within_at_least, convolve_least}
use Rattle.curve_call.proofs.RateRises.{has_window}
use Rattle.curve_call.proofs.Shifts.{same_least}
use Rattle.plain_operators.specs.pointwise.LatticeCall.{LatticeCall}
use Rattle.curve_call.specs.FirstWindows.{IsFirstWindow, IsWideAtFirst}
use Rattle.plain_operators.proofs.pointwise.LatticeCalls.{at_times, from_is, from_fits}
use Rattle.curve_conv.specs.Scans.{sizes_in}
use Rattle.curve_call.specs.declared.bounds.Bounds.{Bounds}
use Rattle.curve_conv.specs.Late.{IsSlowerLate, IsSlowerAfter, IsSlowerNumber, IsPartsCall}
use Rattle.curve_conv.specs.LateBounds.{IsSlowerBounds}
use Rattle.curve_conv.specs.ConvolveCall.{IsConvolveFrame}
use Rattle.curve_call.proofs.Tallies.{tally_rises}
use Rattle.upp_curve.proofs.SteadyTimes.{steady_nonneg}
use Rattle.rational.proofs.Stretch.{not_earlier}

-- ---- the call

right_of : (x y : ℚ) → int (pos 0) ≤ℚ x → y ≤ℚ x +ℚ y
right_of x y h = with2 x y (λ c. omega (arith, c.le, c.lt, c.same))

pub convolve_call : (f g : SpecCurve) (k : ℕ) → IsCurve f → IsCurve g → gauge_at Convolve f g k 0 < 2 ^ 120
    → LatticeCall f g (steady f +ℚ steady g) (common_period f g) (window_at Convolve f g k 0) (k + 1) (sizes_at Convolve f g k 0)
unfolding gauge_over
convolve_call f g k F G small =
    let end = window_at Convolve f g k 0 in
    let n = numbers_over Convolve f g end in
    let z = sizes_of end n in
    let stands = sizes_stand end n in
    let call : IsCall Convolve f g z end = record { first = F; second = G; forward = tt; stands = stands } in
    let start = start_on Convolve f g z end call in
    let period = period_on Convolve f g z end call in
    let early = call_early Convolve f g k 0 z end call in
    let number : k + 2 ≡ k + 1 + 1 = omega arith in
    record {
      first = F;
      second = G;
      limited = record { sizes = are_sizes end n; gauge = small; some = le_trans start.nonneg early.start };
      left = first_stands Convolve z end f g stands;
      right = second_stands Convolve z end f g stands;
      start_whole = start.whole;
      nonneg = start.nonneg;
      period_whole = period.whole;
      above = period.above;
      left_steady = not_earlier (steady f) (steady g) (steady_nonneg g G);
      right_steady = right_of (steady f) (steady g) (steady_nonneg f F);
      left_periods = common_first f g F G;
      right_periods = common_second f g F G;
      ends = window_is Convolve f g k 0 ∙ ap (λ m. periods_after (steady f +ℚ steady g) m (common_period f g)) number;
    }

-- ---- the first window
two_periods : (s d e : ℚ) → e ≡ periods_after s (0 + 1 + 1) d → e ≡ (s +ℚ d) +ℚ d
two_periods s d e h =
    let o = one_more_times 1 d in
    let i = one_mul d in
    let a = int (pos (suc 1)) *ℚ d in
    let b = int (pos 1) *ℚ d in
    with5 s d e a b (λ c. omega (arith, c.le, c.lt, c.same))

window_of : (z : Sizes) (s d : ℚ) (c : SpecCurve) → IsCurve c → AreLimited z ((s +ℚ d) +ℚ d) → int (pos 0) <ℚ d → Stands z (curve_numbers ((s +ℚ d) +ℚ d) c) → steady c ≤ℚ s → IsWholePeriods c.tail d
    → HasWindow z ((s +ℚ d) +ℚ d) c
window_of z s d c C A some S h w =
    has_window z (s +ℚ d) d c C A some record { curve = C; stands = S; steady_by = le_trans h (with2 s d (λ c. omega (arith, c.le, c.lt, c.same))); periods = w }

parts_at : (f g : SpecCurve) (s d e from : ℚ) (z : Sizes) → LatticeCall f g s d e (0 + 1) z → z ≡ sizes_in f g e → s ≡ steady f +ℚ steady g → from ≡ e -ℚ d → IsPartsCall f g from d e
parts_at f g s d e from z L ez es ef =
    let two = two_periods s d e L.ends in
    let A = subst (AreLimited z) two L.limited in
    let V = subst (λ y. HasWindow z y f) (sym two) (window_of z s d f L.first A L.above (subst (λ y. Stands z (curve_numbers y f)) two L.left) L.left_steady L.left_periods) in
    let W = subst (λ y. HasWindow z y g) (sym two) (window_of z s d g L.second A L.above (subst (λ y. Stands z (curve_numbers y g)) two L.right) L.right_steady L.right_periods) in
    record {
      scan = record { first = subst (λ y. HasWindow y e f) ez V; second = subst (λ y. HasWindow y e g) ez W };
      first = L.left_periods;
      second = L.right_periods;
      some = L.above;
      whole = subst (λ y. Whole y.dt d) ez L.period_whole;
      from_is = one s d e from two ef ∙ ap (λ y. y +ℚ d) es;
      end_is = last d e from ef;
    }
  where
    one : (s d e from : ℚ) → e ≡ (s +ℚ d) +ℚ d → from ≡ e -ℚ d → from ≡ s +ℚ d
    one s d e from a b = with4 s d e from (λ c. omega (arith, c.le, c.lt, c.same))

    last : (d e from : ℚ) → from ≡ e -ℚ d → e ≡ from +ℚ d
    last d e from b = with3 d e from (λ c. omega (arith, c.le, c.lt, c.same))

first_call : (f g : SpecCurve) (w : CallWindow) → IsCurve f → IsCurve g → IsFirstWindow Convolve f g w → LatticeCall f g w.start w.period w.end (0 + 1) (sizes_at Convolve f g 0 0)
first_call f g w F G W =
    at_times f g (steady f +ℚ steady g) (common_period f g) (window_at Convolve f g 0 0) w.start w.period w.end (0 + 1) (sizes_at Convolve f g 0 0) (convolve_call f g 0 F G W.gauge) W.window.start W.window.period W.window.end

pub first_fits : (f g : SpecCurve) (w : CallWindow) → IsCurve f × IsCurve g → IsFirstWindow Convolve f g w → SumFits w.end (neg_ℚ w.period)
first_fits f g w K W = from_fits f g w.start w.period w.end (0 + 1) (sizes_at Convolve f g 0 0) (first_call f g w K.0 K.1 W)

pub parts_call : (f g : SpecCurve) (w : CallWindow) (from : ℚ) → IsCurve f × IsCurve g → IsFirstWindow Convolve f g w → from ≡ w.end -ℚ w.period → IsPartsCall f g from w.period w.end
parts_call f g w from K W e =
    parts_at f g w.start w.period w.end from (sizes_at Convolve f g 0 0) (first_call f g w K.0 K.1 W) (ap (λ y. sizes_in f g y) (sym W.window.end)) W.window.start e

-- ---- the number of periods
looks : (f g : SpecCurve) → ¬ (IsKnownAtOnce Convolve f g)
looks f g h = h

later_period : (t d from : ℚ) (k : ℕ) → from ≡ t +ℚ d → periods_after from k d ≡ periods_after t (suc k) d
later_period t d from k e =
    let y = int (pos k) *ℚ d in
    let x = int (pos (suc k)) *ℚ d in
    let o : x ≡ y +ℚ d = one_more_times k d in
    with5 t d from x y (λ c. omega (arith, c.le, c.lt, c.same))

from_late : (f g : SpecCurve) (w : CallWindow) (from : ℚ) → IsCurve f × IsCurve g → IsFirstWindow Convolve f g w → from ≡ w.end -ℚ w.period → from ≡ (steady f +ℚ steady g) +ℚ w.period
from_late f g w from K W e = (parts_call f g w from K W e).from_is

to_meets : (f g : SpecCurve) (w : CallWindow) (from : ℚ) (k : ℕ) → IsCurve f × IsCurve g → IsFirstWindow Convolve f g w → from ≡ w.end -ℚ w.period → IsSlowerAfter f g from w.period k → Meets Convolve f g k
to_meets f g w from k K W e h =
    subst (λ d. IsSlowerLateLeast f g (periods_after (steady f +ℚ steady g) (suc k) d) d) W.window.period
    (subst (λ y. IsSlowerLateLeast f g y w.period) (later_period (steady f +ℚ steady g) w.period from k (from_late f g w from K W e)) h)

of_meets : (f g : SpecCurve) (w : CallWindow) (from : ℚ) (k : ℕ) → IsCurve f × IsCurve g → IsFirstWindow Convolve f g w → from ≡ w.end -ℚ w.period → Meets Convolve f g k → IsSlowerAfter f g from w.period k
of_meets f g w from k K W e h =
    subst (λ y. IsSlowerLateLeast f g y w.period) (sym (later_period (steady f +ℚ steady g) w.period from k (from_late f g w from K W e)))
    (subst (λ d. IsSlowerLateLeast f g (periods_after (steady f +ℚ steady g) (suc k) d) d) (sym W.window.period) h)

least_periods : (f g : SpecCurve) (w : CallWindow) (from : ℚ) (k : ℕ) → IsCurve f × IsCurve g → IsFirstWindow Convolve f g w → from ≡ w.end -ℚ w.period → IsSlowerNumber f g from w.period k
    → IsLeastPeriods Convolve f g k 0
least_periods f g w from k K W e N =
    convolve_least f g k (same_least (Meets Convolve f g) (IsSlowerAfter f g from w.period) k (λ i m. of_meets f g w from i K W e m) (λ i m. to_meets f g w from i K W e m) N.least)

pub none_wide : (f g : SpecCurve) (w : CallWindow) (from : ℚ) → IsCurve f × IsCurve g → IsFirstWindow Convolve f g w → from ≡ w.end -ℚ w.period → ((k : ℕ) → ¬ (IsSlowerAfter f g from w.period k)) → IsTooWide Convolve f g
none_wide f g w from K W e none = record { looks = looks f g; gauge = λ k m L. absurd (none k (of_meets f g w from k K W e L.first.meets)) }

pub wide_first : (f g : SpecCurve) (fault : OpFault) → IsCurve f × IsCurve g → IsWideAtFirst Convolve f g fault → IsCauseOf Convolve f g fault
wide_first f g TooMany K h = absurd h
wide_first f g TooWide K h = first_gate Convolve f g K.0 K.1 tt (looks f g) h
wide_first f g NoMemory K h = absurd h

pub refused_by : (f g : SpecCurve) (w : CallWindow) (from : ℚ) (k : ℕ) (fault : OpFault) → IsCurve f × IsCurve g → IsFirstWindow Convolve f g w → from ≡ w.end -ℚ w.period → IsSlowerNumber f g from w.period k
    → IsRefusedAt Convolve f g k 0 fault → IsCauseOf Convolve f g fault
refused_by f g w from k fault K W e N h = refused_cause Convolve f g k 0 fault (looks f g) (least_periods f g w from k K W e N) h

pub within_by : (f g : SpecCurve) (w : CallWindow) (from : ℚ) (k : ℕ) (r : Frame) → IsCurve f × IsCurve g → IsFirstWindow Convolve f g w → from ≡ w.end -ℚ w.period → IsSlowerNumber f g from w.period k
    → IsFrame Convolve f g k 0 r → IsWithin Convolve f g
within_by f g w from k r K W e N h = frame_within Convolve f g k 0 r (least_periods f g w from k K W e N) h

pub limits_by : (f g : SpecCurve) (w : CallWindow) (from : ℚ) (k : ℕ) (r : Result Frame OpFault) → IsCurve f × IsCurve g → IsFirstWindow Convolve f g w → from ≡ w.end -ℚ w.period → IsSlowerNumber f g from w.period k
    → IfOk r (IsFrame Convolve f g k 0) → IfErr r (IsRefusedAt Convolve f g k 0) → KeepsLimits Convolve f g r
limits_by f g w from k (Ok r) K W e N h l = within_by f g w from k r K W e N h
limits_by f g w from k (Err fault) K W e N h l = refused_by f g w from k fault K W e N l

-- with a number of periods that is enough
frame_late : (f g : SpecCurve) (w : CallWindow) (from : ℚ) (k : ℕ) (r : Frame) → IsCurve f × IsCurve g → IsFirstWindow Convolve f g w → from ≡ w.end -ℚ w.period → IsSlowerLate f g (periods_after from k w.period) w.period
    → IsFrame Convolve f g k 0 r → IsConvolveFrame f g r
frame_late f g w from k r K W e late h =
    let z = sizes_at Convolve f g k 0 in
    let L = at_times f g (steady f +ℚ steady g) (common_period f g) (window_at Convolve f g k 0) r.start r.period r.end (k + 1) z (convolve_call f g k K.0 K.1 h.gauge) h.start h.period h.end in
    let same : w.period ≡ r.period = W.window.period ∙ sym h.period in
    let next : k + 1 ≡ suc k = omega arith in
    let at : periods_after from k w.period ≡ r.end -ℚ r.period =
    later_period (steady f +ℚ steady g) w.period from k (from_late f g w from K W e) ∙ ap (λ d. periods_after (steady f +ℚ steady g) (suc k) d) same
    ∙ ap (λ s. periods_after s (suc k) r.period) (sym h.start) ∙ ap (λ n. periods_after r.start n r.period) (sym next) ∙ sym (from_is f g r.start r.period r.end (k + 1) z L) in
    record {
      number = k;
      sizes = z;
      call = L;
      start = h.start;
      times = h.times;
      values = h.values;
      enough = subst (λ d. IsSlowerLate f g (r.end -ℚ r.period) d) same (subst (λ y. IsSlowerLate f g y w.period) at late);
    }

pub frame_by : (f g : SpecCurve) (w : CallWindow) (from : ℚ) (k : ℕ) (r : Frame) → IsCurve f × IsCurve g → IsFirstWindow Convolve f g w → from ≡ w.end -ℚ w.period → IsSlowerNumber f g from w.period k
    → IsFrame Convolve f g k 0 r → IsConvolveFrame f g r
frame_by f g w from k r K W e N h = frame_late f g w from k r K W e N.late h

-- a window with more periods ends later
window_later : (f g : SpecCurve) (w : CallWindow) (k n : ℕ) → IsCurve f × IsCurve g → IsFirstWindow Convolve f g w → k ≤ n → window_at Convolve f g k 0 ≤ℚ window_at Convolve f g n 0
window_later f g w k n K W h =
    let above = (first_call f g w K.0 K.1 W).above in
    let d = common_period f g in
    let s = steady f +ℚ steady g in
    let some : int (pos 0) ≤ℚ d = le_of_lt (subst (λ y. int (pos 0) <ℚ y) W.window.period above) in
    let more : k + 2 ≤ n + 2 = omega (arith, h) in
    let run = mul_le_mul_right d some (nat_le (k + 2) (n + 2) more) in
    subst (λ x. x ≤ℚ window_at Convolve f g n 0) (sym (window_is Convolve f g k 0))
    (subst (λ x. periods_after s (k + 2) d ≤ℚ x) (sym (window_is Convolve f g n 0)) (later s (int (pos (k + 2)) *ℚ d) (int (pos (n + 2)) *ℚ d) run))
  where
    later : (s x y : ℚ) → x ≤ℚ y → s +ℚ x ≤ℚ s +ℚ y
    later s x y h = with3 s x y (λ c. omega (arith, c.le, c.lt, c.same))

-- ---- from bounds of the number
-- the upper one
pub high_frame : (f g : SpecCurve) (w : CallWindow) (from : ℚ) (b : Bounds) (r : Frame) → IsCurve f × IsCurve g → IsFirstWindow Convolve f g w → from ≡ w.end -ℚ w.period → IsSlowerBounds f g from w.period b
    → IsFrame Convolve f g b.high 0 r → IsConvolveFrame f g r
high_frame f g w from b r K W e B h = frame_late f g w from b.high r K W e B.late h

-- within both limits with it, and so with the least one
pub high_within : (f g : SpecCurve) (w : CallWindow) (from : ℚ) (b : Bounds) (r : Frame) → IsCurve f × IsCurve g → IsFirstWindow Convolve f g w → from ≡ w.end -ℚ w.period → IsSlowerBounds f g from w.period b
    → IsFrame Convolve f g b.high 0 r → IsWithin Convolve f g
high_within f g w from b r K W e B h =
    let k = B.number in
    let rises = gauge_grows Convolve f g k 0 b.high 0 K.0 K.1 tt B.high (omega arith) in
    let more = tally_rises Convolve f g (window_at Convolve f g k 0) (window_at Convolve f g b.high 0) K.0 K.1 (window_later f g w k b.high K W B.high) in
    let gauge = h.gauge in
    let tally = h.tally in
    within_at_least Convolve f g k 0 (least_periods f g w from k K W e B.is) (omega (arith, rises, gauge)) (omega (arith, more, tally))

-- ---- the frame with no period, as the first window
abbrev first_of : Frame → CallWindow
first_of r = record { start = r.start; period = r.period; end = r.end }

first_frame : (f g : SpecCurve) (r : Frame) → IsFrame Convolve f g 0 0 r → IsFirstWindow Convolve f g (first_of r)
first_frame f g r h = record { window = record { start = h.start; period = h.period; end = h.end }; gauge = h.gauge }

pub frame_fits : (f g : SpecCurve) (r : Frame) → IsFrame Convolve f g 0 0 r → SumFits r.end (neg_ℚ r.period)
frame_fits f g r h = first_fits f g (first_of r) (h.first, h.second) (first_frame f g r h)

pub frame_parts : (f g : SpecCurve) (r : Frame) (from : ℚ) → IsFrame Convolve f g 0 0 r → from ≡ r.end -ℚ r.period → IsPartsCall f g from r.period r.end
frame_parts f g r from h e = parts_call f g (first_of r) from (h.first, h.second) (first_frame f g r h) e

-- where the upper bound is none, it is the frame of the call
pub frame_at_once : (f g : SpecCurve) (r : Frame) (from : ℚ) (b : Bounds) → IsFrame Convolve f g 0 0 r → from ≡ r.end -ℚ r.period → IsSlowerBounds f g from r.period b → b.high ≡ 0
    → IsConvolveFrame f g r × IsWithin Convolve f g
frame_at_once f g r from b h e B none =
    let K : IsCurve f × IsCurve g = (h.first, h.second) in
    let W = first_frame f g r h in
    let H : IsFrame Convolve f g b.high 0 r = subst (λ k. IsFrame Convolve f g k 0 r) (sym none) h in (
      high_frame f g (first_of r) from b r K W e B H,
      high_within f g (first_of r) from b r K W e B H,
    )
