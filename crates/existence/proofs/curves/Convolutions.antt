-- A convolution has an answer: the curve with its least number of periods, or the limit that the call is over.
use Rattle.std.specs.Prelude.{◌≡◌, ℕ, ◌<◌, ◌≤◌, ◌^◌, pos, Option, Some, None, MatchOption, Ok, Err}
use Rattle.std.proofs.Common.{refl, inl, inr}
use Rattle.std.proofs.lemmas.Bool.{cases_lt}
use Rattle.rational.specs.Rational.{ℚ, ◌-ℚ◌, ◌≤ℚ◌, int}
use Rattle.rational.specs.Extended.{◌<ₑ◌}
use Rattle.min_plus.specs.Convolution.{IsConvolution}
use Rattle.upp_curve.specs.Curve.{SpecCurve, value_at}
use Rattle.upp_curve.specs.Curves.{IsCurve}
use Rattle.upp_curve.specs.Steady.{rate, rise_over}
use Rattle.upp_curve.specs.Unrolled.{unroll}
use Rattle.upp_limits.specs.declared.op_kind.OpKind.TheVariants.{Convolve}
use Rattle.upp_limits.specs.declared.op_kind.OpFault.TheVariants.{TooMany, TooWide}
use Rattle.upp_limits.specs.Gauges.{gauge_at, tally_at}
use Rattle.upp_limits.specs.Outcome.{IsWithin}
use Rattle.upp_limits.specs.Sized.{grid_of}
use Rattle.upp_limits.specs.Windows.{window_at}
use Rattle.curve_call.specs.declared.frame.Frame.{Frame}
use Rattle.curve_call.specs.declared.windows.CallWindow.{CallWindow}
use Rattle.curve_call.specs.CallWindows.{start_of, period_in}
use Rattle.curve_call.specs.FirstWindows.{IsFirstWindow}
use Rattle.curve_call.specs.Frames.{IsFrame, sizes_at}
use Rattle.plain_operators.specs.pointwise.Lattice.{RisesBy}
use Rattle.plain_operators.proofs.pointwise.LatticeAnswers.{slower_or_not}
use Rattle.existence.specs.curves.Answered.{HasAnswer}
use Rattle.existence.proofs.curves.Answered.{ok_found, too_wide}
use Rattle.existence.proofs.curves.Windows.{answer_curve}
use Rattle.curve_conv.specs.ConvolveCall.{IsConvolveFrame}
use Rattle.curve_conv.specs.Late.{IsSlowerAfter, IsSlowerNumber}
use Rattle.curve_conv.proofs.ConvolveAnswers.{windows, convolved_answer, convolved_values}
use Rattle.curve_conv.proofs.ConvolveCalls.{parts_call, none_wide, wide_first, refused_by, within_by, frame_by}
use Rattle.element_envelope.proofs.FoundEnvelopes.{convolution_of}
use Rattle.existence.proofs.curves.ConvolutionNumbers.{slower_found}
use Rattle.curve_call.specs.Calls.{Applies}

-- ---- within both limits
pub slower_rise : (f g : SpecCurve) (d : ℚ) → (rise : ℚ) × RisesBy (rate g <ₑ rate f) (rise_over g d) (rise_over f d) rise
slower_rise f g d = elim (slower_or_not (rate g) (rate f)) [
  | inl l ↦ (rise_over g d, record { so = λ h. refl; else = λ n. absurd (n l) })
  | inr n ↦ (rise_over f d, record { so = λ h. absurd (n h); else = λ h. refl })
]

pub convolution_curve : (f g : SpecCurve) (r : Frame) → IsConvolveFrame f g r
    → (c : SpecCurve) × IsCurve c × ((t : ℚ) → int (pos 0) ≤ℚ t → IsConvolution (value_at f) (value_at g) t (value_at c t))
convolution_curve f g r F =
    let ls = unroll f r.end in
    let rs = unroll g r.end in
    let (ps, W) = convolution_of r.end ls rs (windows f g r ls rs F refl refl) in
    let (rise, R) = slower_rise f g r.period in
    let from = r.end -ℚ r.period in
    let (c, curve, same) = answer_curve ps from r.period rise r.times r.values (convolved_answer f g r ls rs ps from rise F refl refl W refl R) in
    (c, curve, convolved_values f g r ls rs ps from rise c F refl refl W refl R same)

-- ---- with the least number of periods
-- as answer_existence has these for its own proofs
frame_of : (f g : SpecCurve) (k : ℕ) → Frame
frame_of f g k = record {
  start = start_of Convolve f g;
  period = period_in Convolve f g;
  end = window_at Convolve f g k 0;
  times = (sizes_at Convolve f g k 0).dt;
  values = grid_of (sizes_at Convolve f g k 0);
}

is_frame : (f g : SpecCurve) (k : ℕ) → IsCurve f → IsCurve g → gauge_at Convolve f g k 0 < 2 ^ 120 → tally_at Convolve f g k 0 ≤ 2 ^ 20 → IsFrame Convolve f g k 0 (frame_of f g k)
unfolding frame_of
is_frame f g k F G l t = record { first = F; second = G; start = refl; period = refl; end = refl; times = refl; values = refl; gauge = l; tally = t }

with_number : (f g : SpecCurve) (w : CallWindow) (from : ℚ) (k : ℕ) → IsCurve f × IsCurve g → IsFirstWindow Convolve f g w → from ≡ w.end -ℚ w.period → IsSlowerNumber f g from w.period k
    → HasAnswer (Applies Convolve f g)
with_number f g w from k K W e N = elim (cases_lt (gauge_at Convolve f g k 0) (2 ^ 120)) [
  | inr wide ↦ too_wide Convolve f g (refused_by f g w from k TooWide K W e N wide)
  | inl small ↦ elim (cases_lt (2 ^ 20) (tally_at Convolve f g k 0)) [
    | inl many ↦ record { answer = Err TooMany; is = refused_by f g w from k TooMany K W e N (small, many); found = λ h. cc }
    | inr few ↦
        let r = frame_of f g k in
        let R = is_frame f g k K.0 K.1 small few in
        let (c, curve, same) = convolution_curve f g r (frame_by f g w from k r K W e N R) in
        record {
          answer = Ok c;
          is = record { within = within_by f g w from k r K W e N R; made = record { curve = curve; answers = same } };
          found = ok_found (Ok c) c refl;
        }
  ]
]

-- ---- the call
first_window : (f g : SpecCurve) → CallWindow
first_window f g = record { start = start_of Convolve f g; period = period_in Convolve f g; end = window_at Convolve f g 0 0 }

is_first : (f g : SpecCurve) → gauge_at Convolve f g 0 0 < 2 ^ 120 → IsFirstWindow Convolve f g (first_window f g)
unfolding first_window
is_first f g small = record { window = record { start = refl; period = refl; end = refl }; gauge = small }

by_number : (f g : SpecCurve) (w : CallWindow) (from : ℚ) (r : Option ℕ) → IsCurve f × IsCurve g → IsFirstWindow Convolve f g w → from ≡ w.end -ℚ w.period
    → MatchOption r ((k : ℕ) → ¬ (IsSlowerAfter f g from w.period k)) (IsSlowerNumber f g from w.period) → HasAnswer (Applies Convolve f g)
by_number f g w from None K W e h = too_wide Convolve f g (none_wide f g w from K W e h)
by_number f g w from (Some k) K W e h = with_number f g w from k K W e h

pub convolution_answered : (f g : SpecCurve) → IsCurve f → IsCurve g → HasAnswer (Applies Convolve f g)
convolution_answered f g F G = elim (cases_lt (gauge_at Convolve f g 0 0) (2 ^ 120)) [
  | inr wide ↦ too_wide Convolve f g (wide_first f g TooWide (F, G) wide)
  | inl small ↦
      let w = first_window f g in
      let W = is_first f g small in
      let from = w.end -ℚ w.period in
      let (r, h) = slower_found f g from w.period w.end (parts_call f g w from (F, G) W refl) in
      by_number f g w from r (F, G) W refl h
]

-- ---- the frame of a call that is within both limits
module _ (f g : SpecCurve) (F : IsCurve f) (G : IsCurve g) (within : IsWithin Convolve f g) where
  abbrev HasFrame : Type 0
  HasFrame = (r : Frame) × IsConvolveFrame f g r

  frame_with : (w : CallWindow) (from : ℚ) (k : ℕ) → IsFirstWindow Convolve f g w → from ≡ w.end -ℚ w.period → IsSlowerNumber f g from w.period k
      → HasFrame
  frame_with w from k W e N = elim (cases_lt (gauge_at Convolve f g k 0) (2 ^ 120)) [
    | inr wide ↦ absurd (within.narrow (refused_by f g w from k TooWide (F, G) W e N wide))
    | inl small ↦ elim (cases_lt (2 ^ 20) (tally_at Convolve f g k 0)) [
      | inl many ↦ absurd (within.few (refused_by f g w from k TooMany (F, G) W e N (small, many)))
      | inr few ↦
          let r = frame_of f g k in
          (r, frame_by f g w from k r (F, G) W e N (is_frame f g k F G small few))
    ]
  ]

  frame_number : (w : CallWindow) (from : ℚ) (r : Option ℕ) → IsFirstWindow Convolve f g w → from ≡ w.end -ℚ w.period
      → MatchOption r ((k : ℕ) → ¬ (IsSlowerAfter f g from w.period k)) (IsSlowerNumber f g from w.period) → HasFrame
  frame_number w from None W e h = absurd (within.narrow (none_wide f g w from (F, G) W e h))
  frame_number w from (Some k) W e h = frame_with w from k W e h

  pub convolve_frame : (r : Frame) × IsConvolveFrame f g r
  convolve_frame = elim (cases_lt (gauge_at Convolve f g 0 0) (2 ^ 120)) [
    | inr wide ↦ absurd (within.narrow (wide_first f g TooWide (F, G) wide))
    | inl small ↦
        let w = first_window f g in
        let W = is_first f g small in
        let from = w.end -ℚ w.period in
        let (r, h) = slower_found f g from w.period w.end (parts_call f g w from (F, G) W refl) in
        frame_number w from r W refl h
  ]
