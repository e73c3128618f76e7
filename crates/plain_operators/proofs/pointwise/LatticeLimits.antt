-- Which limits the call is over, from the least number of periods; and the frame of one that is over neither.
use Rattle.std.specs.Prelude.{◌≡◌, ℕ, Option, Some, None, MatchOption, Result, Ok, Err, IfErr}
use Rattle.std.proofs.Common.{sym, ◌∙◌, subst}
use Rattle.rational.specs.Rational.{ℚ}
use Rattle.upp_limits.specs.declared.op_kind.OpKind.{OpKind}
use Rattle.upp_limits.specs.declared.op_kind.OpFault.{OpFault}
use Rattle.upp_limits.specs.declared.op_kind.OpFault.TheVariants.{TooMany, TooWide, NoMemory}
use Rattle.upp_curve.specs.Curve.{SpecCurve}
use Rattle.upp_curve.specs.Curves.{IsCurve}
use Rattle.upp_limits.specs.Periods.{common_period, both_steady}
use Rattle.upp_limits.specs.Windows.{window_at, Meets, IsLeast, IsLeastPeriods}
use Rattle.upp_limits.specs.Gauges.{IsKnownAtOnce, IsTooWide}
use Rattle.upp_limits.specs.Outcome.{IsWithin, IsCauseOf}
use Rattle.curve_call.specs.declared.frame.Frame.{Frame}
use Rattle.curve_call.specs.CallWindows.{IsForward, SecondIsCurve, start_of, period_in}
use Rattle.curve_call.specs.Frames.{IsFrame, IsRefusedAt, sizes_at}
use Rattle.curve_call.proofs.Limited.{refused_cause, frame_within, min_least, max_least, pos_diff_least}
use Rattle.curve_call.proofs.FirstGate.{first_gate}
use Rattle.curve_call.proofs.EitherOrder.{enough_meets}
use Rattle.plain_operators.specs.declared.pointwise.lattice.Lattice.{Lattice}
use Rattle.plain_operators.specs.declared.pointwise.lattice.Lattice.TheVariants.{Lower, Upper, Excess}
use Rattle.plain_operators.specs.pointwise.Lattice.{kind_of}
use Rattle.curve_call.specs.declared.windows.CallWindow.{CallWindow}
use Rattle.upp_limits.specs.Limits.{Sizes}
use Rattle.curve_call.specs.Compared.{AreCompared, IsEnough}
use Rattle.curve_call.specs.FirstWindows.{IsFirstWindow, IsWideAtFirst, IsRefusedBetween}
use Rattle.curve_call.specs.declared.bounds.Bounds.{Bounds}
use Rattle.curve_call.specs.Bounds.{AreBounds}
use Rattle.plain_operators.specs.pointwise.LatticeCall.{IsLatticeFrame}
use Rattle.plain_operators.proofs.pointwise.LatticeCalls.{lattice_call, at_times, kind_start, kind_period, first_compared}

pub forward_kind : (of : Lattice) → IsForward (kind_of of)
forward_kind Lower = tt
forward_kind Upper = tt
forward_kind Excess = tt

pub looks : (of : Lattice) (f g : SpecCurve) → ¬ (IsKnownAtOnce (kind_of of) f g)
looks Lower f g h = h
looks Upper f g h = h
looks Excess f g h = h

pub second_kind : (of : Lattice) (g : SpecCurve) → SecondIsCurve (kind_of of) g → IsCurve g
second_kind Lower g h = h
second_kind Upper g h = h
second_kind Excess g h = h

-- ---- over the limit with no period
pub wide_first : (of : Lattice) (f g : SpecCurve) (e : OpFault) → IsCurve f → IsCurve g → IsWideAtFirst (kind_of of) f g e → IsCauseOf (kind_of of) f g e
wide_first of f g TooMany F G h = absurd h
wide_first of f g TooWide F G h = first_gate (kind_of of) f g F G (forward_kind of) (looks of f g) h
wide_first of f g NoMemory F G h = absurd h

-- ---- the least number of periods

meets_kind : (of : Lattice) (f g : SpecCurve) (from d : ℚ) (r : Option ℕ) → from ≡ both_steady f g → d ≡ common_period f g
    → MatchOption r ((k : ℕ) → ¬ (IsEnough f g from d k)) (IsLeast (IsEnough f g from d)) → MatchOption r ((k : ℕ) → ¬ (Meets (kind_of of) f g k)) (IsLeast (Meets (kind_of of) f g))
meets_kind Lower f g from d r a b h = (enough_meets f g from d r a b h).0
meets_kind Upper f g from d r a b h = (enough_meets f g from d r a b h).1
meets_kind Excess f g from d r a b h = (enough_meets f g from d r a b h).2

pub none_wide : (of : Lattice) (f g : SpecCurve) (from d : ℚ) → from ≡ start_of (kind_of of) f g → d ≡ period_in (kind_of of) f g → ((k : ℕ) → ¬ (IsEnough f g from d k)) → IsTooWide (kind_of of) f g
none_wide of f g from d a b none =
    let meets = meets_kind of f g from d None (kind_start of f g from a) (kind_period of f g d b) none in
    record { looks = looks of f g; gauge = λ k m L. absurd (meets k L.first.meets) }

least_kind : (of : Lattice) (f g : SpecCurve) (k : ℕ) → IsLeast (Meets (kind_of of) f g) k → IsLeastPeriods (kind_of of) f g k 0
least_kind Lower f g k h = min_least f g k h
least_kind Upper f g k h = max_least f g k h
least_kind Excess f g k h = pos_diff_least f g k h

pub some_least : (of : Lattice) (f g : SpecCurve) (from d : ℚ) (k : ℕ) → from ≡ start_of (kind_of of) f g → d ≡ period_in (kind_of of) f g → IsLeast (IsEnough f g from d) k → IsLeastPeriods (kind_of of) f g k 0
some_least of f g from d k a b h = least_kind of f g k (meets_kind of f g from d (Some k) (kind_start of f g from a) (kind_period of f g d b) h)

pub refused_kind : (of : Lattice) (f g : SpecCurve) (k : ℕ) (e : OpFault) → IsLeastPeriods (kind_of of) f g k 0 → IsRefusedAt (kind_of of) f g k 0 e → IsCauseOf (kind_of of) f g e
refused_kind of f g k e L h = refused_cause (kind_of of) f g k 0 e (looks of f g) L h

pub within_kind : (of : Lattice) (f g : SpecCurve) (k : ℕ) (r : Frame) → IsLeastPeriods (kind_of of) f g k 0 → IsFrame (kind_of of) f g k 0 r → IsWithin (kind_of of) f g
within_kind of f g k r L h = frame_within (kind_of of) f g k 0 r L h

-- ---- the frame
pub lattice_frame : (of : Lattice) (f g : SpecCurve) (from d : ℚ) (k : ℕ) (r : Frame) → from ≡ start_of (kind_of of) f g → d ≡ period_in (kind_of of) f g → IsLeast (IsEnough f g from d) k
    → IsFrame (kind_of of) f g k 0 r → IsLatticeFrame f g r
lattice_frame of f g from d k r a b L h =
    let z = sizes_at (kind_of of) f g k 0 in
    let call = lattice_call of f g k h.first (second_kind of g h.second) h.gauge in
    record {
      number = k;
      sizes = z;
      call = at_times f g (both_steady f g) (common_period f g) (window_at (kind_of of) f g k 0) r.start r.period r.end k z call (kind_start of f g r.start h.start) (kind_period of f g r.period h.period) h.end;
      times = h.times;
      values = h.values;
      enough = subst (λ s. IsEnough f g s r.period k) (a ∙ sym h.start) (subst (λ p. IsEnough f g from p k) (b ∙ sym h.period) L.meets);
    }

-- ---- the same for a kind under another name, as the code has it
pub wide_by : (of : Lattice) (op : OpKind) (f g : SpecCurve) (e : OpFault) → op ≡ kind_of of → IsCurve f × SecondIsCurve op g → IsWideAtFirst op f g e → IsCauseOf (kind_of of) f g e
wide_by of op f g e same K h = wide_first of f g e K.0 (second_kind of g (subst (λ o. SecondIsCurve o g) same K.1)) (subst (λ o. IsWideAtFirst o f g e) same h)

pub none_by : (of : Lattice) (op : OpKind) (f g : SpecCurve) (w : CallWindow) → op ≡ kind_of of → IsFirstWindow op f g w → ((k : ℕ) → ¬ (IsEnough f g w.start w.period k)) → IsTooWide (kind_of of) f g
none_by of op f g w same h none = let W = (subst (λ o. IsFirstWindow o f g w) same h).window in none_wide of f g w.start w.period W.start W.period none

least_by : (of : Lattice) (op : OpKind) (f g : SpecCurve) (w : CallWindow) (k : ℕ) → op ≡ kind_of of → IsFirstWindow op f g w → IsLeast (IsEnough f g w.start w.period) k → IsLeastPeriods (kind_of of) f g k 0
least_by of op f g w k same h L = let W = (subst (λ o. IsFirstWindow o f g w) same h).window in some_least of f g w.start w.period k W.start W.period L

pub refused_by : (of : Lattice) (op : OpKind) (f g : SpecCurve) (w : CallWindow) (k : ℕ) (e : OpFault) → op ≡ kind_of of → IsFirstWindow op f g w → IsLeast (IsEnough f g w.start w.period) k
    → IsRefusedAt op f g k 0 e → IsCauseOf (kind_of of) f g e
refused_by of op f g w k e same h L R = refused_kind of f g k e (least_by of op f g w k same h L) (subst (λ o. IsRefusedAt o f g k 0 e) same R)

pub within_by : (of : Lattice) (op : OpKind) (f g : SpecCurve) (w : CallWindow) (k : ℕ) (r : Frame) → op ≡ kind_of of → IsFirstWindow op f g w → IsLeast (IsEnough f g w.start w.period) k
    → IsFrame op f g k 0 r → IsWithin (kind_of of) f g
within_by of op f g w k r same h L F = within_kind of f g k r (least_by of op f g w k same h L) (subst (λ o. IsFrame o f g k 0 r) same F)

pub frame_by : (of : Lattice) (op : OpKind) (f g : SpecCurve) (w : CallWindow) (k : ℕ) (r : Frame) → op ≡ kind_of of → IsFirstWindow op f g w → IsLeast (IsEnough f g w.start w.period) k
    → IsFrame op f g k 0 r → IsLatticeFrame f g r
frame_by of op f g w k r same h L F =
    let W = (subst (λ o. IsFirstWindow o f g w) same h).window in
    lattice_frame of f g w.start w.period k r W.start W.period L (subst (λ o. IsFrame o f g k 0 r) same F)

-- ---- by bounds of the number of periods
pub bounds_compared : (of : Lattice) (f g : SpecCurve) (w : CallWindow) → IsCurve f × IsCurve g → IsFirstWindow (kind_of of) f g w → (z : Sizes) × AreCompared z w.start w.period f g
bounds_compared of f g w K W = first_compared of f g w K.0 K.1 W

pub between_cause : (of : Lattice) (f g : SpecCurve) (w : CallWindow) (b : Bounds) (e : OpFault) → IsFirstWindow (kind_of of) f g w → AreBounds (IsEnough f g w.start w.period) b
    → IsRefusedBetween (kind_of of) f g b.low b.high e → IsCauseOf (kind_of of) f g e
between_cause of f g w b e W B refused =
    refused_kind of f g B.number e (some_least of f g w.start w.period B.number W.window.start W.window.period B.least) (refused B.number B.low B.high)

pub between_by : (of : Lattice) (op : OpKind) (f g : SpecCurve) (w : CallWindow) (b : Bounds) {A : Type 0} (r : Result A OpFault) → op ≡ kind_of of → IsFirstWindow (kind_of of) f g w → AreBounds (IsEnough f g w.start w.period) b
    → IfErr r (IsRefusedBetween op f g b.low b.high) → IfErr r (IsCauseOf (kind_of of) f g)
between_by of op f g w b (Ok x) same W B refused = tt
between_by of op f g w b (Err e) same W B refused = between_cause of f g w b e W B (subst (λ o. IsRefusedBetween o f g b.low b.high e) same refused)

pub first_by : (of : Lattice) (op : OpKind) (f g : SpecCurve) (w : CallWindow) → op ≡ kind_of of → IsFirstWindow op f g w → IsFirstWindow (kind_of of) f g w
first_by of op f g w same h = subst (λ o. IsFirstWindow o f g w) same h

pub second_by : (of : Lattice) (op : OpKind) (f g : SpecCurve) → op ≡ kind_of of → IsCurve f × SecondIsCurve op g → IsCurve f × IsCurve g
second_by of op f g same K = (K.0, second_kind of g (subst (λ o. SecondIsCurve o g) same K.1))
