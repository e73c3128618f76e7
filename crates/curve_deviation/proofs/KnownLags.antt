-- When the horizontal deviation is infinite whatever the sizes are.
use Rattle.std.specs.Prelude.{◌≡◌, pos}
use Rattle.std.proofs.Common.{arith, sym, ap, ◌∙◌, subst, inl, inr}
use Rattle.rational.specs.Rational.{ℚ, ◌+ℚ◌, ◌-ℚ◌, ◌*ℚ◌, ◌≤ℚ◌, ◌<ℚ◌, int}
use Rattle.rational.specs.Extended.{Ext, ◌<ₑ◌, ◌+ₑ◌}
use Rattle.rational.specs.declared.Extended.TheVariants.{Fin, Inf}
use Rattle.rational.proofs.Linear.{with2, with4, with6}
use Rattle.rational.proofs.Laws.{le_refl, le_trans, le_of_lt, mul_nonneg, mul_sub}
use Rattle.rational.proofs.Integers.{nat_nonneg}
use Rattle.rational.proofs.Quotients.{times_above}
use Rattle.rational.proofs.MinMax.{max_q_ge_left, max_q_ge_right}
use Rattle.upp_limits.specs.declared.op_kind.OpKind.TheVariants.{Horizontal}
use Rattle.upp_curve.specs.Curve.{SpecCurve, value_at}
use Rattle.upp_curve.specs.Curves.{IsCurve}
use Rattle.min_plus.specs.Functions.{IsFinite, IsRising}
use Rattle.upp_curve.specs.Steady.{Repeats, steady, rise_over, rate}
use Rattle.upp_limits.specs.Periods.{common_period, both_steady}
use Rattle.upp_limits.specs.Gauges.{IsKnownAtOnce}
use Rattle.upp_limits.specs.Outcome.{IsWithin}
use Rattle.min_plus.specs.Deviations.{IsHorizontalDeviation}
use Rattle.upp_curve.proofs.Steady.{steady_rule}
use Rattle.curve_call.proofs.CurveTimes.{common_some}
use Rattle.curve_call.proofs.CurveRises.{common_first, common_second}
use Rattle.curve_call.specs.Ever.{RepeatsBy}
use Rattle.curve_call.proofs.Shifts.{later_value}
use Rattle.curve_call.proofs.LeastNumber.{gains}
use Rattle.upp_normal.proofs.UnrollSteps.{ext_cases}
use Rattle.curve_deviation.specs.Lags.{LagsBy}
use Rattle.curve_deviation.proofs.AtOnce.{infinite_somewhere}
use Rattle.curve_deviation.proofs.FirstReach.{reached_or}
use Rattle.curve_deviation.proofs.Lagging.{ReachesOr, endless_is, never_reached}
use Rattle.curve_call.proofs.EverAfter.{repeats_by}
use Rattle.upp_curve.proofs.SteadyTimes.{steady_nonneg}

-- ---- two curves have a period in common

-- with it each repeats from its own time on
pub first_repeats : (f g : SpecCurve) → IsCurve f → IsCurve g → Repeats (value_at f) (steady f) (common_period f g) (rise_over f (common_period f g))
first_repeats f g F G = steady_rule f (common_period f g) F.normal.raw (common_first f g F G) (le_of_lt (common_some f g F G))

pub second_repeats : (f g : SpecCurve) → IsCurve f → IsCurve g → Repeats (value_at g) (steady g) (common_period f g) (rise_over g (common_period f g))
second_repeats f g F G = steady_rule g (common_period f g) G.normal.raw (common_second f g F G) (le_of_lt (common_some f g F G))

pub reaches : (f g : SpecCurve) → IsCurve f → IsCurve g → IsFinite (value_at g) → IsRising (value_at g) → ReachesOr (value_at g)
reaches f g F G finite up = λ v t h. reached_or g (steady g) (common_period f g) (rise_over g (common_period f g)) v t G finite up (common_some f g F G) (steady_nonneg g G) (second_repeats f g F G) h

-- ---- a faster curve gets ahead by any time
gaining : (f g : ℚ → Ext) (from d a b x : ℚ) → int (pos 0) <ℚ d → int (pos 0) ≤ℚ from → Repeats f from d a → Repeats g from d b → b <ℚ a → f from ≡ Fin x → IsFinite g → (y : ℚ) → LagsBy f g y
gaining f g from d a b x some low F G gain e second y =
    let (p, past) = times_above y d some in
    let P = int (pos p) *ℚ d in
    let ahead : int (pos 0) ≤ℚ P = mul_nonneg (nat_nonneg p) (le_of_lt some) in
    let s = from +ℚ P in
    let low_s : from ≤ℚ s = with2 from P (λ c. omega (arith, c.le, c.lt, c.same)) in
    let (w, k) = second s (le_trans low low_s) in
    let (n, over) = times_above (w -ℚ x) (a -ℚ b) (with2 a b (λ c. omega (arith, c.le, c.lt, c.same))) in
    let N = int (pos n) in
    let y_run = N *ℚ d in
    let more : int (pos 0) ≤ℚ y_run = mul_nonneg (nat_nonneg n) (le_of_lt some) in
    let f_is : f (from +ℚ y_run) ≡ Fin (x +ℚ N *ℚ a) = later_value f from d a from n (le_of_lt some) F (le_refl from) ∙ ap (λ v. v +ₑ Fin (N *ℚ a)) e in
    let g_is : g (s +ℚ y_run) ≡ Fin (w +ℚ N *ℚ b) = later_value g from d b s n (le_of_lt some) G low_s ∙ ap (λ v. v +ₑ Fin (N *ℚ b)) k in
    record {
      first = from +ℚ y_run;
      second = s +ℚ y_run;
      behind = record {
        first = sum_low from y_run low more;
        second = sum_low s y_run (le_trans low low_s) more;
        below = subst (λ v. v <ₑ f (from +ℚ y_run)) (sym g_is) (subst (λ v. Fin (w +ℚ N *ℚ b) <ₑ v) (sym f_is) (past_each x w a b N over));
      };
      more = apart from P y_run y past;
    }
  where
    sum_low : (a b : ℚ) → int (pos 0) ≤ℚ a → int (pos 0) ≤ℚ b → int (pos 0) ≤ℚ a +ℚ b
    sum_low a b h k = with2 a b (λ c. omega (arith, c.le, c.lt, c.same))

    apart : (a p r y : ℚ) → y <ℚ p → y <ℚ ((a +ℚ p) +ℚ r) -ℚ (a +ℚ r)
    apart a p r y h = with4 a p r y (λ c. omega (arith, c.le, c.lt, c.same))

    past_each : (x w a b n : ℚ) → w -ℚ x <ℚ n *ℚ (a -ℚ b) → w +ℚ n *ℚ b <ℚ x +ℚ n *ℚ a
    past_each x w a b n h = let e = mul_sub n a b in let p = n *ℚ a in let q = n *ℚ b in let r = n *ℚ (a -ℚ b) in sums x w p q r e h
      where
        sums : (x w p q r : ℚ) → r ≡ p -ℚ q → w -ℚ x <ℚ r → w +ℚ q <ℚ x +ℚ p
        sums x w p q r e h = with6 x w p q r (int (pos 0)) (λ c. omega (arith, c.le, c.lt, c.same))

infinite_lags : (f g : ℚ → Ext) (t : ℚ) → int (pos 0) ≤ℚ t → f t ≡ Inf → IsFinite g → (y : ℚ) → LagsBy f g y
infinite_lags f g t low top finite = never_reached f g t low (λ u h. subst (λ v. g u <ₑ v) (sym top) (below u h))
  where
    below : (u : ℚ) → int (pos 0) ≤ℚ u → g u <ₑ Inf
    below u h = let (w, k) = finite u h in subst (λ v. v <ₑ Inf) (sym k) tt

faster_lags : (f g : SpecCurve) → IsCurve f → IsCurve g → IsFinite (value_at g) → rate g <ₑ rate f → (y : ℚ) → LagsBy (value_at f) (value_at g) y
faster_lags f g F G finite faster =
    let d = common_period f g in
    let some = common_some f g F G in
    let from = both_steady f g in
    let low_f = max_q_ge_left (steady f) (steady g) in
    let low_g = max_q_ge_right (steady f) (steady g) in
    let low = le_trans (steady_nonneg f F) low_f in
    let f_by : RepeatsBy from d f = record { curve = F; steady_by = low_f; periods = common_first f g F G } in
    let g_by : RepeatsBy from d g = record { curve = G; steady_by = low_g; periods = common_second f g F G } in
    elim (ext_cases (value_at f from)) [
      | inl e ↦ infinite_lags (value_at f) (value_at g) from low e finite
      | inr (v, e) ↦
          let more = gains g f d from v F some faster low_f e in
          let a = rise_over f d in
          let b = rise_over g d in
          gaining (value_at f) (value_at g) from d a b v some low (repeats_by from d f some f_by) (repeats_by from d g some g_by) (with2 a b (λ c. omega (arith, c.le, c.lt, c.same))) e finite
    ]

pub known_deviation : (f g : SpecCurve) → IsCurve f → IsCurve g → IsFinite (value_at g) → IsRising (value_at g) → IsKnownAtOnce Horizontal f g → IsHorizontalDeviation (value_at f) (value_at g) Inf
known_deviation f g F G finite up known = endless_is (value_at f) (value_at g) finite up (reaches f g F G finite up) (elim known [
  | inl not ↦ let found = infinite_somewhere f F not in infinite_lags (value_at f) (value_at g) found.at found.nonneg found.top finite
  | inr (inl faster) ↦ faster_lags f g F G finite faster
  | inr (inr ends) ↦ never_reached (value_at f) (value_at g) ends.above.at ends.above.nonneg ends.above.above
])

pub known_within : (f g : SpecCurve) → IsKnownAtOnce Horizontal f g → IsWithin Horizontal f g
known_within f g known = record { narrow = λ w. w.looks known; few = λ m. m.looks known }
