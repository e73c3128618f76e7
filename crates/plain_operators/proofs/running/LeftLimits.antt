-- Which limits a call for what is left is over; and the frame of one that is over neither.
use Rattle.std.specs.Prelude.{ℕ}
use Rattle.rational.specs.Rational.{ℚ}
use Rattle.rational.specs.declared.Extended.TheVariants.{Fin}
use Rattle.upp_limits.specs.declared.op_kind.OpKind.{OpKind}
use Rattle.upp_limits.specs.declared.op_kind.OpKind.TheVariants.{FifoLeft}
use Rattle.upp_limits.specs.declared.op_kind.OpFault.{OpFault}
use Rattle.upp_limits.specs.declared.op_kind.OpFault.TheVariants.{TooMany, TooWide, NoMemory}
use Rattle.upp_curve.specs.Curve.{SpecCurve, value_at}
use Rattle.upp_curve.specs.Curves.{IsCurve}
use Rattle.upp_limits.specs.Periods.{common_period, moved_steady}
use Rattle.upp_limits.specs.Windows.{window_at, Meets, IsLeast}
use Rattle.upp_limits.specs.Outcome.{IsWithin, IsCauseOf}
use Rattle.curve_call.specs.declared.frame.Frame.{Frame}
use Rattle.curve_call.specs.Frames.{IsFrame, IsRefusedAt, sizes_at}
use Rattle.curve_call.proofs.FirstGate.{first_gate}
use Rattle.curve_call.proofs.Limited.{refused_cause, frame_within, fifo_left_least}
use Rattle.curve_call.specs.FirstWindows.{IsWideAtFirst, IsRefusedBetween}
use Rattle.curve_call.specs.declared.bounds.Bounds.{Bounds}
use Rattle.curve_call.specs.Bounds.{AreBounds}
use Rattle.plain_operators.specs.running.Behind.{IsServed}
use Rattle.plain_operators.specs.running.LeftCall.{IsLeftFrame}
use Rattle.plain_operators.proofs.running.LeastBehind.{from_meets}
use Rattle.plain_operators.proofs.running.LeftCalls.{left_call, at_times}
use Rattle.plain_operators.proofs.running.Served.{theta_nonneg}

-- over the limit with no period
pub left_wide : (theta : ℚ) (f g : SpecCurve) (e : OpFault) → IsServed (value_at f) (value_at g) theta → IsCurve f × IsCurve g → IsWideAtFirst (FifoLeft (Fin theta)) f g e → IsCauseOf (FifoLeft (Fin theta)) f g e
left_wide theta f g TooMany S K h = absurd h
left_wide theta f g TooWide S K h = first_gate (FifoLeft (Fin theta)) f g K.0 K.1 (theta_nonneg (value_at f) (value_at g) theta S) (λ k. k) h
left_wide theta f g NoMemory S K h = absurd h

pub left_refused : (theta : ℚ) (f g : SpecCurve) (k : ℕ) (e : OpFault) → IsLeast (Meets (FifoLeft (Fin theta)) f g) k → IsRefusedAt (FifoLeft (Fin theta)) f g k 0 e → IsCauseOf (FifoLeft (Fin theta)) f g e
left_refused theta f g k e L h = refused_cause (FifoLeft (Fin theta)) f g k 0 e (λ k. k) (fifo_left_least (Fin theta) f g k L) h

pub left_is_within : (theta : ℚ) (f g : SpecCurve) (k : ℕ) (r : Frame) → IsLeast (Meets (FifoLeft (Fin theta)) f g) k → IsFrame (FifoLeft (Fin theta)) f g k 0 r → IsWithin (FifoLeft (Fin theta)) f g
left_is_within theta f g k r L h = frame_within (FifoLeft (Fin theta)) f g k 0 r (fifo_left_least (Fin theta) f g k L) h

pub left_frame : (theta : ℚ) (f g : SpecCurve) (k : ℕ) (r : Frame) → IsServed (value_at f) (value_at g) theta → IsLeast (Meets (FifoLeft (Fin theta)) f g) k → IsFrame (FifoLeft (Fin theta)) f g k 0 r
    → IsLeftFrame f g theta r
left_frame theta f g k r S L h =
    let op : OpKind = FifoLeft (Fin theta) in
    record {
      number = k;
      sizes = sizes_at op f g k 0;
      call = at_times f g theta (moved_steady f g theta) (common_period f g) (window_at op f g k 0) r.start r.period r.end k (sizes_at op f g k 0)
          (left_call f g theta k h.first h.second (theta_nonneg (value_at f) (value_at g) theta S) h.gauge) h.start h.period h.end;
      times = h.times;
      values = h.values;
      enough = from_meets f g theta r.start r.period k h.start h.period L.meets;
    }

-- by bounds of the number of periods
pub left_between : (theta : ℚ) (f g : SpecCurve) (b : Bounds) (e : OpFault) → AreBounds (Meets (FifoLeft (Fin theta)) f g) b → IsRefusedBetween (FifoLeft (Fin theta)) f g b.low b.high e
    → IsCauseOf (FifoLeft (Fin theta)) f g e
left_between theta f g b e B refused = left_refused theta f g B.number e B.least (refused B.number B.low B.high)
