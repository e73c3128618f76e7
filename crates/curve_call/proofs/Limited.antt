-- What the limits with some numbers of periods say of the call: where those numbers are the least, they are the call's.
use Rattle.std.specs.Prelude.{◌≡◌, ℕ, ◌<◌, ◌≤◌, ◌^◌}
use Rattle.std.proofs.Common.{arith, ap, ◌∙◌, subst}
use Rattle.rational.specs.Rational.{ℚ}
use Rattle.upp_limits.specs.declared.op_kind.OpKind.{OpKind}
use Rattle.upp_limits.specs.declared.op_kind.OpKind.TheVariants.{Sum, Min, Max, PosDiff, PosMinus, Scale, Shift, RunSup, RunInf, FifoLeft, Convolve, Deconvolve, Vertical}
use Rattle.upp_limits.specs.declared.op_kind.OpFault.{OpFault}
use Rattle.upp_limits.specs.declared.op_kind.OpFault.TheVariants.{TooMany, TooWide, NoMemory}
use Rattle.rational.specs.Extended.{Ext}
use Rattle.upp_curve.specs.Curve.{SpecCurve}
use Rattle.upp_limits.specs.Windows.{window_at, Meets, Reaches, IsLeast, IsLeastPeriods}
use Rattle.upp_limits.specs.Gauges.{IsKnownAtOnce, gauge_over, gauge_at, tally_at, IsTooWide, IsTooMany}
use Rattle.upp_limits.specs.Outcome.{IsWithin, IsCauseOf}
use Rattle.curve_call.specs.declared.frame.Frame.{Frame}
use Rattle.curve_call.specs.Frames.{IsFrame, IsRefusedAt, IsWideOver}
use Rattle.upp_limits.proofs.LeastNumbers.{least_unique}

-- ---- over a window's end that is the call's
pub refused_at : (op : OpKind) (f g : SpecCurve) (k m : ℕ) (end : ℚ) (e : OpFault) → end ≡ window_at op f g k m → IsWideOver op f g end e → IsRefusedAt op f g k m e
refused_at op f g k m end TooMany e h = absurd h
refused_at op f g k m end TooWide e h = subst (λ x. 2 ^ 120 ≤ gauge_over op f g x) e h
refused_at op f g k m end NoMemory e h = absurd h

-- ---- least numbers are unique

same_second : (op : OpKind) (f g : SpecCurve) (k i m j : ℕ) → k ≡ i → IsLeast (Reaches op f g k) m → IsLeast (Reaches op f g i) j → m ≡ j
same_second op f g k i m j e h l = least_unique (Reaches op f g i) m j (subst (λ n. IsLeast (Reaches op f g n) m) e h) l

gauge_same : (op : OpKind) (f g : SpecCurve) (k i m j : ℕ) → IsLeastPeriods op f g k m → IsLeastPeriods op f g i j → gauge_at op f g k m ≡ gauge_at op f g i j
gauge_same op f g k i m j h l =
    let e = least_unique (Meets op f g) k i h.first l.first in
    ap (λ n. gauge_at op f g n m) e ∙ ap (gauge_at op f g i) (same_second op f g k i m j e h.second l.second)

tally_same : (op : OpKind) (f g : SpecCurve) (k i m j : ℕ) → IsLeastPeriods op f g k m → IsLeastPeriods op f g i j → tally_at op f g k m ≡ tally_at op f g i j
tally_same op f g k i m j h l =
    let e = least_unique (Meets op f g) k i h.first l.first in
    ap (λ n. tally_at op f g n m) e ∙ ap (tally_at op f g i) (same_second op f g k i m j e h.second l.second)

-- the limits at the least numbers are those of the call
pub wide_at_least : (op : OpKind) (f g : SpecCurve) (k m : ℕ) → ¬ (IsKnownAtOnce op f g) → IsLeastPeriods op f g k m → 2 ^ 120 ≤ gauge_at op f g k m → IsTooWide op f g
wide_at_least op f g k m looks h l = record { looks = looks; gauge = λ i j least. subst (λ n. 2 ^ 120 ≤ n) (gauge_same op f g k i m j h least) l }

pub many_at_least : (op : OpKind) (f g : SpecCurve) (k m : ℕ) → ¬ (IsKnownAtOnce op f g) → IsLeastPeriods op f g k m → gauge_at op f g k m < 2 ^ 120 → 2 ^ 20 < tally_at op f g k m → IsTooMany op f g
many_at_least op f g k m looks h l t = record { looks = looks; first = k; second = m; are_least = h; gauge = l; tally = t }

pub within_at_least : (op : OpKind) (f g : SpecCurve) (k m : ℕ) → IsLeastPeriods op f g k m → gauge_at op f g k m < 2 ^ 120 → tally_at op f g k m ≤ 2 ^ 20 → IsWithin op f g
within_at_least op f g k m h l t = record {
  narrow = λ wide. let over = wide.gauge k m h in omega arith;
  few = λ many.
      let over = subst (λ n. 2 ^ 20 < n) (tally_same op f g many.first k many.second m many.are_least h) many.tally in
      omega arith;
}

pub refused_cause : (op : OpKind) (f g : SpecCurve) (k m : ℕ) (e : OpFault) → ¬ (IsKnownAtOnce op f g) → IsLeastPeriods op f g k m → IsRefusedAt op f g k m e → IsCauseOf op f g e
refused_cause op f g k m TooMany looks h l = many_at_least op f g k m looks h l.0 l.1
refused_cause op f g k m TooWide looks h l = wide_at_least op f g k m looks h l
refused_cause op f g k m NoMemory looks h l = absurd l

-- ---- kinds that need no number of periods
least_nothing : IsLeast (λ k. Unit {0}) 0
least_nothing = record { meets = tt; least = λ i l h. let m : ⊥ = omega arith in m }

pub sum_least : (f g : SpecCurve) → IsLeastPeriods Sum f g 0 0
sum_least f g = record { first = least_nothing; second = least_nothing }

pub scale_least : (q : ℚ) (f g : SpecCurve) → IsLeastPeriods (Scale q) f g 0 0
scale_least q f g = record { first = least_nothing; second = least_nothing }

pub shift_least : (x : Ext) (f g : SpecCurve) → IsLeastPeriods (Shift x) f g 0 0
shift_least x f g = record { first = least_nothing; second = least_nothing }

pub run_inf_least : (f g : SpecCurve) → IsLeastPeriods RunInf f g 0 0
run_inf_least f g = record { first = least_nothing; second = least_nothing }

pub deconvolve_least : (f g : SpecCurve) → IsLeastPeriods Deconvolve f g 0 0
deconvolve_least f g = record { first = least_nothing; second = least_nothing }

pub vertical_least : (f g : SpecCurve) → IsLeastPeriods Vertical f g 0 0
vertical_least f g = record { first = least_nothing; second = least_nothing }

-- ---- kinds that need one number
pub min_least : (f g : SpecCurve) (k : ℕ) → IsLeast (Meets Min f g) k → IsLeastPeriods Min f g k 0
min_least f g k h = record { first = h; second = least_nothing }

pub max_least : (f g : SpecCurve) (k : ℕ) → IsLeast (Meets Max f g) k → IsLeastPeriods Max f g k 0
max_least f g k h = record { first = h; second = least_nothing }

pub pos_diff_least : (f g : SpecCurve) (k : ℕ) → IsLeast (Meets PosDiff f g) k → IsLeastPeriods PosDiff f g k 0
pos_diff_least f g k h = record { first = h; second = least_nothing }

pub pos_minus_least : (l : ℚ) (f g : SpecCurve) (k : ℕ) → IsLeast (Meets (PosMinus l) f g) k → IsLeastPeriods (PosMinus l) f g k 0
pos_minus_least l f g k h = record { first = h; second = least_nothing }

pub run_sup_least : (f g : SpecCurve) (k : ℕ) → IsLeast (Meets RunSup f g) k → IsLeastPeriods RunSup f g k 0
run_sup_least f g k h = record { first = h; second = least_nothing }

pub fifo_left_least : (theta : Ext) (f g : SpecCurve) (k : ℕ) → IsLeast (Meets (FifoLeft theta) f g) k → IsLeastPeriods (FifoLeft theta) f g k 0
fifo_left_least theta f g k h = record { first = h; second = least_nothing }

pub convolve_least : (f g : SpecCurve) (k : ℕ) → IsLeast (Meets Convolve f g) k → IsLeastPeriods Convolve f g k 0
convolve_least f g k h = record { first = h; second = least_nothing }

-- ---- a call with a frame is within both limits
pub frame_within : (op : OpKind) (f g : SpecCurve) (k m : ℕ) (r : Frame) → IsLeastPeriods op f g k m → IsFrame op f g k m r → IsWithin op f g
frame_within op f g k m r h frame = within_at_least op f g k m h frame.gauge frame.tally
