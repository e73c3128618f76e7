-- A call for the horizontal deviation within its limits: what its window gives, and that the longest lag in it is the deviation.
use Rattle.std.specs.Prelude.{◌≡◌, ℕ, suc, ◌≤◌, pos}
use Rattle.std.proofs.Common.{arith, sym, ◌∙◌, subst, inl, inr}
use Rattle.rational.specs.Rational.{ℚ, ◌*ℚ◌, ◌≤ℚ◌, ◌<ℚ◌, int}
use Rattle.rational.specs.Extended.{◌≤ₑ◌, ◌<ₑ◌}
use Rattle.rational.specs.declared.Extended.TheVariants.{Fin, Inf}
use Rattle.rational.proofs.Linear.{with2}
use Rattle.rational.proofs.Laws.{le_refl, le_trans, le_of_lt, le_lt_trans, mul_le_mul_right, le_of_not_lt}
use Rattle.rational.proofs.ExtendedOrder.{same_le_ext, le_ext_trans}
use Rattle.upp_limits.specs.declared.op_kind.OpKind.TheVariants.{Horizontal}
use Rattle.upp_curve.specs.Curve.{SpecCurve, value_at}
use Rattle.upp_curve.specs.Curves.{IsCurve}
use Rattle.min_plus.specs.Functions.{IsFinite}
use Rattle.upp_curve.specs.Steady.{steady, rise_over, rate}
use Rattle.upp_limits.specs.Periods.{common_period, periods_after}
use Rattle.upp_limits.specs.Windows.{window_at, IsLeastPeriods}
use Rattle.upp_limits.specs.Limits.{Sizes, sizes_of}
use Rattle.upp_normal.specs.Ahead.{IsTimeIn}
use Rattle.upp_limits.specs.Gauges.{IsKnownAtOnce, numbers_over}
use Rattle.min_plus.specs.Deviations.{IsHorizontalDeviation}
use Rattle.curve_call.specs.declared.frame.Frame.{Frame}
use Rattle.curve_call.specs.Frames.{IsFrame, sizes_at}
use Rattle.rational.proofs.Grid.{whole_add, whole_times}
use Rattle.upp_normal.proofs.UnrollSteps.{ext_cases}
use Rattle.curve_call.proofs.RateRises.{rate_rise, infinite_value}
use Rattle.curve_deviation.specs.Parts.{IsFiniteInSizes}
use Rattle.curve_deviation.specs.Lags.{IsLongestLag}
use Rattle.curve_deviation.specs.declared.horizontals.Periods.{Periods}
use Rattle.curve_deviation.specs.Stages.{AreFinite, settled, AreFound, IsEnough}
use Rattle.curve_deviation.proofs.KnownLags.{first_repeats, second_repeats, reaches}
use Rattle.curve_deviation.proofs.Lagging.{Always, longest_is}
use Rattle.curve_deviation.proofs.LateLags.{constant_late, rising_late}
use Rattle.curve_deviation.proofs.PeriodsFound.{found_least}
use Rattle.curve_deviation.proofs.Searching.{later_periods}
use Rattle.curve_deviation.proofs.SoonerLags.{settled_nonneg, sooner_lag}
use Rattle.curve_deviation.proofs.WindowTimes.{WindowTimes, times_at, periods_low, settled_is}
use Rattle.upp_curve.proofs.SteadyTimes.{steady_nonneg}
use Rattle.curve_call.proofs.CurveTimes.{common_some}

-- the sizes of a window's end
pub sizes_to : SpecCurve → SpecCurve → ℚ → Sizes
sizes_to f g end = sizes_of end (numbers_over Horizontal f g end)

-- what the walk needs
pub record IsReady (z : Sizes) (f g : SpecCurve) (until end : ℚ) : Type 0 where
  pub first : IsFiniteInSizes z end f
  pub second : IsFiniteInSizes z end g
  pub time : IsTimeIn z end until
  pub at : ℚ
  pub low : int (pos 0) ≤ℚ at
  pub before : at <ℚ end
  pub reached : value_at f until ≤ₑ value_at g at

ready_at : (f g : SpecCurve) (p : Periods) (k : ℕ) → IsCurve f → IsCurve g → AreFinite f g → k ≤ p.first → IsLeastPeriods Horizontal f g p.first p.second
    → WindowTimes (sizes_at Horizontal f g p.first p.second) f g p.first p.second (window_at Horizontal f g p.first p.second) (common_period f g)
    → IsReady (sizes_at Horizontal f g p.first p.second) f g (settled f g k) (window_at Horizontal f g p.first p.second)
ready_at f g p k F G both few least W =
    let d = common_period f g in
    let some = common_some f g F G in
    let z = sizes_at Horizontal f g p.first p.second in
    let H = window_at Horizontal f g p.first p.second in
    let t = settled f g k in
    let last = settled f g p.first in
    let u = periods_after last p.second d in
    let low = settled_nonneg f g k F G in
    let sooner : t ≤ℚ last = later_periods (steady f) d (suc k) (suc p.first) some (omega (arith, few)) in
    let more = periods_low last d p.second some in
    let early : u <ℚ H = subst (λ x. x <ℚ H) W.is W.once.before in
    record {
      first = W.seen.first;
      second = W.seen.second;
      time = record { whole = whole_add z.dt (steady f) (int (pos (suc k)) *ℚ d) W.seen.start (whole_times z.dt (pos (suc k)) d W.seen.period.whole); nonneg = low; before = le_lt_trans (le_trans sooner more) early };
      at = u;
      low = le_trans low (le_trans sooner more);
      before = early;
      reached = le_ext_trans (value_at f t) (value_at f last) (value_at g u) (both.first_rises t last low sooner) least.second.meets;
    }

pub ready : (f g : SpecCurve) (p : Periods) (r : Frame) (t : ℚ) → AreFinite f g → AreFound f g p → IsFrame Horizontal f g p.first p.second r → IsEnough f g p.first t → IsReady (sizes_to f g r.end) f g t r.end
unfolding sizes_to
ready f g p r t both A h E =
    let least = found_least f g p h.first h.second A h.gauge in
    let W = times_at f g p.first p.second h.first h.second both.first both.second h.gauge in
    let found = ready_at f g p E.count h.first h.second both E.few least W in
    subst (λ e. IsReady (sizes_of e (numbers_over Horizontal f g e)) f g t e) (sym h.end)
    (subst (λ t. IsReady (sizes_at Horizontal f g p.first p.second) f g t (window_at Horizontal f g p.first p.second)) (sym E.time) found)

-- ---- the curve that is not the faster rises no more
no_faster : (f g : SpecCurve) (d : ℚ) → IsCurve f → IsCurve g → IsFinite (value_at f) → IsFinite (value_at g) → int (pos 0) <ℚ d → ¬ (rate g <ₑ rate f) → rise_over f d ≤ℚ rise_over g d
no_faster f g d F G first second some slow = elim (ext_cases (rate f)) [
  | inl e ↦ absurd (never f F first e)
  | inr (r, e) ↦ elim (ext_cases (rate g)) [
    | inl k ↦ absurd (never g G second k)
    | inr (s, k) ↦
        let less : r ≤ℚ s = le_of_not_lt (λ h. slow (subst (λ x. x <ₑ rate f) (sym k) (subst (λ x. Fin s <ₑ x) (sym e) h))) in
        subst (λ x. x ≤ℚ rise_over g d) (rate_rise f d r e) (subst (λ x. r *ℚ d ≤ℚ x) (rate_rise g d s k) (mul_le_mul_right d (le_of_lt some) less))
  ]
]
  where
    never : (c : SpecCurve) → IsCurve c → IsFinite (value_at c) → rate c ≡ Inf → ⊥
    never c C finite e = let (v, k) = finite (steady c) (steady_nonneg c C) in same_le_ext (sym (infinite_value c (steady c) C e (le_refl (steady c))) ∙ k)

-- ---- the deviation
whole_lag : (f g : SpecCurve) (p : Periods) (q : ℚ) → IsCurve f → IsCurve g → AreFinite f g → ¬ (IsKnownAtOnce Horizontal f g) → IsLeastPeriods Horizontal f g p.first p.second
    → IsLongestLag (λ s. s <ℚ settled f g p.first) (value_at f) (value_at g) q → IsLongestLag Always (value_at f) (value_at g) q
whole_lag f g p q F G both looks least L =
    let d = common_period f g in
    let some = common_some f g F G in
    let T = steady f in
    let low = steady_nonneg f F in
    let left = periods_after T p.first d in
    let past = periods_low T d p.first some in
    let is = settled_is f g p.first in
    elim least.first.meets [
      | inl level ↦ constant_late (value_at f) (value_at g) T (settled f g p.first) q low (le_lt_trans past (subst (λ x. left <ℚ x) (sym is) (with2 left d (λ c. omega (arith, c.le, c.lt, c.same))))) level L
      | inr above ↦
          rising_late (value_at f) (value_at g) T (steady g) d (rise_over f d) (rise_over g d) left q some low (steady_nonneg g G) (first_repeats f g F G) (second_repeats f g F G)
          (no_faster f g d F G both.first both.second some (λ faster. looks (inr (inl faster)))) both.first both.second both.first_rises both.second_rises past above
          (subst (λ t. IsLongestLag (λ s. s <ℚ t) (value_at f) (value_at g) q) is L)
    ]

pub deviation_is : (f g : SpecCurve) (p : Periods) (r : Frame) (t q : ℚ) → AreFinite f g → ¬ (IsKnownAtOnce Horizontal f g) → AreFound f g p → IsFrame Horizontal f g p.first p.second r → IsEnough f g p.first t
    → IsLongestLag (λ s. s <ℚ t) (value_at f) (value_at g) q → IsHorizontalDeviation (value_at f) (value_at g) (Fin q)
deviation_is f g p r t q both looks A h E L =
    let least = found_least f g p h.first h.second A h.gauge in
    longest_is (value_at f) (value_at g) q both.second both.second_rises (reaches f g h.first h.second both.second both.second_rises)
    (whole_lag f g p q h.first h.second both looks least (sooner_lag f g p.first t q h.first h.second both E L))
