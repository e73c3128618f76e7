-- A call has an answer, where it is known which numbers of periods it needs and within the limits a curve is made by it.
use Rattle.std.specs.Prelude.{◌≡◌, ◌≢◌, ◌⊎◌, ℕ, ◌<◌, ◌≤◌, ◌^◌, Result, Ok, Err}
use Rattle.std.proofs.Common.{refl, inl, inr}
use Rattle.std.proofs.lemmas.Bool.{cases_lt}
use Rattle.upp_limits.specs.declared.op_kind.OpKind.{OpKind}
use Rattle.upp_limits.specs.declared.op_kind.OpFault.{OpFault}
use Rattle.upp_limits.specs.declared.op_kind.OpFault.TheVariants.{TooMany, TooWide, NoMemory}
use Rattle.upp_limits.specs.Gauges.{IsKnownAtOnce, IsTooWide, IsTooMany, gauge_at, tally_at}
use Rattle.upp_limits.specs.Outcome.{IsWithin}
use Rattle.upp_limits.specs.Sized.{grid_of}
use Rattle.upp_limits.specs.Windows.{IsLeastPeriods, window_at}
use Rattle.upp_curve.specs.Curve.{SpecCurve}
use Rattle.upp_curve.specs.Curves.{IsCurve}
use Rattle.curve_call.specs.declared.frame.Frame.{Frame}
use Rattle.curve_call.specs.Answers.{IsMadeBy}
use Rattle.curve_call.specs.CallWindows.{SecondIsCurve, start_of, period_in}
use Rattle.curve_call.specs.Frames.{IsFrame, sizes_at}
use Rattle.curve_call.proofs.Limited.{wide_at_least, many_at_least, within_at_least}
use Rattle.existence.specs.curves.Answered.{HasAnswer, IsDecided, HasCurveWithin}
use Rattle.curve_call.specs.Calls.{Applies}

-- ---- the three answers
wide_found : (r : Result SpecCurve OpFault) → r ≡ Err TooWide → r ≢ Err NoMemory
wide_found r e h = cc

many_found : (r : Result SpecCurve OpFault) → r ≡ Err TooMany → r ≢ Err NoMemory
many_found r e h = cc

pub ok_found : (r : Result SpecCurve OpFault) (h : SpecCurve) → r ≡ Ok h → r ≢ Err NoMemory
ok_found r h e k = cc

pub too_wide : (op : OpKind) (f g : SpecCurve) → IsTooWide op f g → HasAnswer (Applies op f g)
too_wide op f g w = record { answer = Err TooWide; is = w; found = wide_found (Err TooWide) refl }

-- ---- with the least numbers of periods
frame_of : (op : OpKind) (f g : SpecCurve) (k m : ℕ) → Frame
frame_of op f g k m = record {
  start = start_of op f g;
  period = period_in op f g;
  end = window_at op f g k m;
  times = (sizes_at op f g k m).dt;
  values = grid_of (sizes_at op f g k m);
}

is_frame : (op : OpKind) (f g : SpecCurve) (k m : ℕ) → IsCurve f → SecondIsCurve op g → gauge_at op f g k m < 2 ^ 120 → tally_at op f g k m ≤ 2 ^ 20 → IsFrame op f g k m (frame_of op f g k m)
unfolding frame_of
is_frame op f g k m F G l t = record { first = F; second = G; start = refl; period = refl; end = refl; times = refl; values = refl; gauge = l; tally = t }

-- which limit the call is over, or the frame of one that is over neither
abbrev pub IsLimited : OpKind → SpecCurve → SpecCurve → ℕ → ℕ → Type 0
IsLimited op f g k m = IsTooWide op f g ⊎ (IsTooMany op f g ⊎ ((r : Frame) × IsFrame op f g k m r × IsWithin op f g))

pub limited : (op : OpKind) (f g : SpecCurve) (k m : ℕ) → IsCurve f → SecondIsCurve op g → ¬ (IsKnownAtOnce op f g) → IsLeastPeriods op f g k m → IsLimited op f g k m
limited op f g k m F G looks L = elim (cases_lt (gauge_at op f g k m) (2 ^ 120)) [
  | inr wide ↦ inl (wide_at_least op f g k m looks L wide)
  | inl small ↦ elim (cases_lt (2 ^ 20) (tally_at op f g k m)) [
    | inl many ↦ inr (inl (many_at_least op f g k m looks L small many))
    | inr few ↦ inr (inr (frame_of op f g k m, is_frame op f g k m F G small few, within_at_least op f g k m L small few))
  ]
]

pub at_least : (op : OpKind) (f g : SpecCurve) (k m : ℕ) → IsCurve f → SecondIsCurve op g → ¬ (IsKnownAtOnce op f g) → IsLeastPeriods op f g k m
    → ((r : Frame) → IsFrame op f g k m r → (h : SpecCurve) × IsMadeBy op f g h) → HasAnswer (Applies op f g)
at_least op f g k m F G looks L makes = elim (limited op f g k m F G looks L) [
  | inl wide ↦ too_wide op f g wide
  | inr (inl many) ↦ record { answer = Err TooMany; is = many; found = many_found (Err TooMany) refl }
  | inr (inr (r, R, within)) ↦ let (h, made) = makes r R in record { answer = Ok h; is = record { within = within; made = made }; found = ok_found (Ok h) h refl }
]

pub answered : (op : OpKind) (f g : SpecCurve) → IsCurve f → SecondIsCurve op g → ¬ (IsKnownAtOnce op f g) → IsDecided op f g → HasCurveWithin op f g → HasAnswer (Applies op f g)
answered op f g F G looks (inl none) makes = too_wide op f g record { looks = looks; gauge = λ k m L. absurd (none k m L) }
answered op f g F G looks (inr (k, m, L)) makes = at_least op f g k m F G looks L (λ r h. makes k m r L h)
