-- A minimum, a maximum and a positive difference have answers.
use Rattle.std.specs.Prelude.{◌≡◌, ◌⊎◌, ℕ, ◌<◌, ◌^◌, pos, List, Some, None}
use Rattle.std.proofs.Common.{refl, inl, inr}
use Rattle.std.proofs.lemmas.Bool.{cases_lt}
use Rattle.rational.specs.Rational.{ℚ, ◌-ℚ◌, ◌≤ℚ◌, int}
use Rattle.rational.specs.Extended.{◌<ₑ◌}
use Rattle.upp_curve.specs.declared.affine_segment.line.Piece.{Piece}
use Rattle.upp_curve.specs.Curve.{SpecCurve, value_at}
use Rattle.upp_curve.specs.Curves.{IsCurve}
use Rattle.upp_curve.specs.Steady.{rate, rise_over}
use Rattle.upp_curve.specs.Unrolled.{unroll}
use Rattle.upp_limits.specs.declared.op_kind.OpKind.TheVariants.{Min, Max, PosDiff}
use Rattle.upp_limits.specs.declared.op_kind.OpFault.TheVariants.{TooWide}
use Rattle.upp_limits.specs.Gauges.{gauge_at}
use Rattle.upp_limits.specs.Periods.{both_steady, common_period}
use Rattle.upp_limits.specs.Windows.{window_at, IsLeast}
use Rattle.min_plus.specs.Functions.{IsFinite}
use Rattle.curve_call.specs.Operands.{HaveSizes, IsMadeOf}
use Rattle.curve_call.specs.Existing.{HaveWindows}
use Rattle.curve_call.proofs.Existing.{made_windows}
use Rattle.curve_call.specs.declared.frame.Frame.{Frame}
use Rattle.curve_call.specs.declared.windows.CallWindow.{CallWindow}
use Rattle.curve_call.specs.Answers.{IsMadeBy}
use Rattle.curve_call.specs.CallWindows.{SecondIsCurve, start_of, period_in}
use Rattle.curve_call.specs.FirstWindows.{IsFirstWindow}
use Rattle.curve_call.specs.Frames.{IsFrame}
use Rattle.curve_call.specs.Compared.{IsEnough}
use Rattle.existence.specs.curves.Answered.{HasAnswer}
use Rattle.existence.proofs.curves.Answered.{at_least, too_wide}
use Rattle.existence.proofs.curves.Windows.{answer_curve}
use Rattle.existence.proofs.curves.Least.{IsFound, least_of}
use Rattle.plain_operators.specs.declared.pointwise.lattice.Lattice.{Lattice}
use Rattle.plain_operators.specs.declared.pointwise.lattice.Lattice.TheVariants.{Lower, Upper, Excess}
use Rattle.plain_operators.specs.pointwise.Lattice.{kind_of, made_of, rises_of, FiniteFor, RisesBy, IsTailRise}
use Rattle.plain_operators.specs.pointwise.LatticeCall.{IsLatticeFrame}
use Rattle.plain_operators.proofs.pointwise.LatticeAnswers.{slower_or_not, lattice_answer, lattice_values}
use Rattle.plain_operators.proofs.pointwise.LatticeCalls.{operands, first_compared}
use Rattle.plain_operators.proofs.pointwise.LatticeLimits.{looks, wide_first, none_wide, some_least, lattice_frame}
use Rattle.curve_call.specs.Calls.{Applies}

-- ---- within both limits
rises_by : (P : Type 0) (a b : ℚ) → P ⊎ ¬ P → (rise : ℚ) × RisesBy P a b rise
rises_by P a b (inl p) = (a, record { so = λ h. refl; else = λ n. absurd (n p) })
rises_by P a b (inr n) = (b, record { so = λ h. absurd (n h); else = λ h. refl })

pub tail_rise : (of : Lattice) (f g : SpecCurve) (a b : ℚ) → (rise : ℚ) × IsTailRise of f g a b rise
tail_rise Lower f g a b = rises_by (rate g <ₑ rate f) b a (slower_or_not (rate g) (rate f))
tail_rise Upper f g a b = rises_by (rate f <ₑ rate g) b a (slower_or_not (rate f) (rate g))
tail_rise Excess f g a b = rises_by (rate g <ₑ rate f) (a -ℚ b) (int (pos 0)) (slower_or_not (rate g) (rate f))

window : (of : Lattice) (ls rs : List Piece) (end : ℚ) → HaveWindows ls rs end → (ps : List Piece) × IsMadeOf (made_of of) (rises_of of) ls rs end ps
window Lower ls rs end W = W.lower
window Upper ls rs end W = W.upper
window Excess ls rs end W = W.above

pub lattice_curve : (of : Lattice) (f g : SpecCurve) (r : Frame) → IsLatticeFrame f g r → FiniteFor of (value_at f)
    → (c : SpecCurve) × IsCurve c × ((t : ℚ) → int (pos 0) ≤ℚ t → value_at c t ≡ made_of of (value_at f t) (value_at g t))
lattice_curve of f g r F finite =
    let ls = unroll f r.end in
    let rs = unroll g r.end in
    let sizes : HaveSizes r.end ls rs = (F.sizes, operands f g r.start r.period r.end F.number F.sizes ls rs F.call refl refl) in
    let (ps, W) = window of ls rs r.end (made_windows r.end ls rs sizes) in
    let (rise, R) = tail_rise of f g (rise_over f r.period) (rise_over g r.period) in
    let from = r.end -ℚ r.period in
    let (c, curve, same) = answer_curve ps from r.period rise r.times r.values (lattice_answer of f g r ls rs ps from rise F refl refl W refl R) in
    (c, curve, lattice_values of f g r ls rs ps from rise c F finite refl refl W refl R same)

-- ---- the number of periods
second : (of : Lattice) (g : SpecCurve) → IsCurve g → SecondIsCurve (kind_of of) g
second Lower g G = G
second Upper g G = G
second Excess g G = G

first_window : (of : Lattice) (f g : SpecCurve) → CallWindow
first_window of f g = record { start = start_of (kind_of of) f g; period = period_in (kind_of of) f g; end = window_at (kind_of of) f g 0 0 }

is_first : (of : Lattice) (f g : SpecCurve) → gauge_at (kind_of of) f g 0 0 < 2 ^ 120 → IsFirstWindow (kind_of of) f g (first_window of f g)
unfolding first_window
is_first of f g small = record { window = record { start = refl; period = refl; end = refl }; gauge = small }

-- with a number that is the least a curve is made
abbrev IsMadeAtLeast : Lattice → SpecCurve → SpecCurve → Type 0
IsMadeAtLeast of f g =
    (k : ℕ) (r : Frame) → IsLeast (IsEnough f g (start_of (kind_of of) f g) (period_in (kind_of of) f g)) k → IsFrame (kind_of of) f g k 0 r → (h : SpecCurve) × IsMadeBy (kind_of of) f g h

by_number : (of : Lattice) (f g : SpecCurve) → IsCurve f → IsCurve g → IsMadeAtLeast of f g → IsFound (IsEnough f g (start_of (kind_of of) f g) (period_in (kind_of of) f g)) → HasAnswer (Applies (kind_of of) f g)
by_number of f g F G makes (None, none) = too_wide (kind_of of) f g (none_wide of f g (start_of (kind_of of) f g) (period_in (kind_of of) f g) refl refl none)
by_number of f g F G makes (Some k, h) =
    at_least (kind_of of) f g k 0 F (second of g G) (looks of f g) (some_least of f g (start_of (kind_of of) f g) (period_in (kind_of of) f g) k refl refl h) (λ r R. makes k r h R)

answered : (of : Lattice) (f g : SpecCurve) → IsCurve f → IsCurve g → IsMadeAtLeast of f g → HasAnswer (Applies (kind_of of) f g)
unfolding first_window
answered of f g F G makes = elim (cases_lt (gauge_at (kind_of of) f g 0 0) (2 ^ 120)) [
  | inr wide ↦ too_wide (kind_of of) f g (wide_first of f g TooWide F G wide)
  | inl small ↦
      let (z, C) = first_compared of f g (first_window of f g) F G (is_first of f g small) in
      by_number of f g F G makes (least_of z (start_of (kind_of of) f g) (period_in (kind_of of) f g) f g C)
]

-- ---- each kind
lower_made : (f g : SpecCurve) (k : ℕ) (r : Frame) → IsLeast (IsEnough f g (both_steady f g) (common_period f g)) k → IsFrame Min f g k 0 r → (h : SpecCurve) × IsMadeBy Min f g h
lower_made f g k r L F =
    let (c, curve, same) = lattice_curve Lower f g r (lattice_frame Lower f g (both_steady f g) (common_period f g) k r refl refl L F) tt in
    (c, record { curve = curve; answers = same })

upper_made : (f g : SpecCurve) (k : ℕ) (r : Frame) → IsLeast (IsEnough f g (both_steady f g) (common_period f g)) k → IsFrame Max f g k 0 r → (h : SpecCurve) × IsMadeBy Max f g h
upper_made f g k r L F =
    let (c, curve, same) = lattice_curve Upper f g r (lattice_frame Upper f g (both_steady f g) (common_period f g) k r refl refl L F) tt in
    (c, record { curve = curve; answers = same })

above_made : (f g : SpecCurve) → IsFinite (value_at f) → (k : ℕ) (r : Frame) → IsLeast (IsEnough f g (both_steady f g) (common_period f g)) k → IsFrame PosDiff f g k 0 r → (h : SpecCurve) × IsMadeBy PosDiff f g h
above_made f g finite k r L F =
    let (c, curve, same) = lattice_curve Excess f g r (lattice_frame Excess f g (both_steady f g) (common_period f g) k r refl refl L F) finite in
    (c, record { curve = curve; answers = same })

pub lower_answered : (f g : SpecCurve) → IsCurve f → IsCurve g → HasAnswer (Applies Min f g)
lower_answered f g F G = answered Lower f g F G (lower_made f g)

pub upper_answered : (f g : SpecCurve) → IsCurve f → IsCurve g → HasAnswer (Applies Max f g)
upper_answered f g F G = answered Upper f g F G (upper_made f g)

pub above_answered : (f g : SpecCurve) → IsCurve f → IsCurve g → IsFinite (value_at f) → HasAnswer (Applies PosDiff f g)
above_answered f g F G finite = answered Excess f g F G (above_made f g finite)
