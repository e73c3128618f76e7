-- The window of a horizontal deviation below the limit: the sizes of both curves in it, and the times at which they are read.
use Rattle.std.specs.Prelude.{◌≡◌, ℕ, suc, ◌<◌, ◌≤◌, ◌^◌, pos}
use Rattle.std.proofs.Common.{arith, sym, ap, ◌∙◌, subst}
use Rattle.rational.specs.Rational.{ℚ, ◌+ℚ◌, ◌-ℚ◌, ◌*ℚ◌, ◌≤ℚ◌, ◌<ℚ◌, int, neg_ℚ}
use Rattle.rational.specs.Ratio.{SumFits}
use Rattle.rational.specs.Grid.{Whole}
use Rattle.rational.proofs.Linear.{with2, with3, with4, with6}
use Rattle.rational.proofs.Laws.{le_refl, le_trans, le_of_lt, mul_nonneg}
use Rattle.rational.proofs.Integers.{nat_nonneg}
use Rattle.rational.proofs.Whole.{one_more_times}
use Rattle.rational.proofs.Grid.{whole_sub}
use Rattle.upp_limits.specs.declared.op_kind.OpKind.TheVariants.{Horizontal}
use Rattle.upp_curve.specs.Curve.{SpecCurve, value_at}
use Rattle.upp_curve.specs.Curves.{IsCurve}
use Rattle.min_plus.specs.Functions.{IsFinite}
use Rattle.upp_curve.specs.Steady.{steady}
use Rattle.upp_limits.specs.Periods.{common_period, periods_after}
use Rattle.upp_limits.specs.Windows.{window_at}
use Rattle.upp_limits.specs.Limits.{Sizes, curve_numbers}
use Rattle.upp_limits.specs.Sized.{Stands}
use Rattle.upp_normal.specs.Operand.{AreLimited}
use Rattle.upp_normal.specs.Ahead.{IsTimeIn}
use Rattle.upp_limits.specs.Gauges.{numbers_over, gauge_over, gauge_at}
use Rattle.upp_limits.proofs.CurveStands.{are_sizes}
use Rattle.upp_limits.proofs.KnownNumbers.{few_periods}
use Rattle.upp_limits.proofs.NarrowSizes.{narrow_limit}
use Rattle.upp_limits.proofs.Stands.{sizes_stand}
use Rattle.upp_normal.proofs.StretchSizes.{times_fit}
use Rattle.curve_call.specs.declared.windows.CallWindow.{CallWindow}
use Rattle.curve_call.specs.Frames.{sizes_at}
use Rattle.curve_call.proofs.CallTimes.{first_stands, second_stands}
use Rattle.curve_call.proofs.CurveTimes.{IsPeriod, both_on, steady_whole, common_some}
use Rattle.curve_deviation.specs.Parts.{IsFiniteInSizes}
use Rattle.curve_deviation.specs.Stages.{IsNarrowWindow, AreFinite, settled}
use Rattle.upp_curve.proofs.SteadyTimes.{steady_nonneg}

-- the sizes
pub record AreSeen (z : Sizes) (end : ℚ) (f g : SpecCurve) : Type 0 where
  pub first : IsFiniteInSizes z end f
  pub second : IsFiniteInSizes z end g
  pub period : IsPeriod z.dt (common_period f g)
  pub start : Whole z.dt (steady f)

pub seen_at : (f g : SpecCurve) (k m : ℕ) → IsCurve f → IsCurve g → IsFinite (value_at f) → IsFinite (value_at g) → int (pos 0) ≤ℚ window_at Horizontal f g k m → gauge_at Horizontal f g k m < 2 ^ 120
    → AreSeen (sizes_at Horizontal f g k m) (window_at Horizontal f g k m) f g
unfolding gauge_over
seen_at f g k m F G first second some small =
    let end = window_at Horizontal f g k m in
    let z = sizes_at Horizontal f g k m in
    let all = sizes_stand end (numbers_over Horizontal f g end) in
    let limited : AreLimited z end = record { sizes = are_sizes end (numbers_over Horizontal f g end); gauge = small; some = some } in
    let f_stands : Stands z (curve_numbers end f) = first_stands Horizontal z end f g all in
    let g_stands : Stands z (curve_numbers end g) = second_stands Horizontal z end f g all in
    record {
      first = record { curve = F; finite = first; limited = limited; stands = f_stands };
      second = record { curve = G; finite = second; limited = limited; stands = g_stands };
      period = both_on z end f g F G f_stands g_stands;
      start = steady_whole z end f f_stands;
    }

-- ---- the times
run_on : (T d : ℚ) (k : ℕ) → periods_after T (suc k) d ≡ periods_after T k d +ℚ d
run_on T d k = ap (λ x. T +ℚ x) (one_more_times k d) ∙ close T (int (pos k) *ℚ d) d
  where
    close : (a b c : ℚ) → a +ℚ (b +ℚ c) ≡ (a +ℚ b) +ℚ c
    close a b c = with3 a b c (λ c. omega (arith, c.le, c.lt, c.same))

pub none_after : (T d : ℚ) → periods_after T 0 d ≡ T
none_after T d = let y = int (pos 0) *ℚ d in with3 T d y (λ c. omega (arith, c.le, c.lt, c.same))

pub periods_low : (T d : ℚ) (k : ℕ) → int (pos 0) <ℚ d → T ≤ℚ periods_after T k d
periods_low T d k some = let y = int (pos k) *ℚ d in let h : int (pos 0) ≤ℚ y = mul_nonneg (nat_nonneg k) (le_of_lt some) in with2 T y (λ c. omega (arith, c.le, c.lt, c.same))

less_once : (a b d : ℚ) → b ≡ a +ℚ d → b -ℚ d ≡ a
less_once a b d e = with3 a b d (λ c. omega (arith, c.le, c.lt, c.same))

window_is : (f g : SpecCurve) (k m : ℕ) → window_at Horizontal f g k m -ℚ common_period f g ≡ periods_after (settled f g k) m (common_period f g)
unfolding window_at
window_is f g k m = less_once (periods_after (settled f g k) m (common_period f g)) (periods_after (settled f g k) (suc m) (common_period f g)) (common_period f g) (run_on (settled f g k) (common_period f g) m)

-- where f begins to repeat, k periods later, and a period after that
pub settled_is : (f g : SpecCurve) (k : ℕ) → settled f g k ≡ periods_after (steady f) k (common_period f g) +ℚ common_period f g
settled_is f g k = run_on (steady f) (common_period f g) k

-- the times of a window that ends at `end`, with a period and with two taken off
pub record WindowTimes (z : Sizes) (f g : SpecCurve) (k m : ℕ) (end d : ℚ) : Type 0 where
  pub seen : AreSeen z end f g
  pub once : IsTimeIn z end (end -ℚ d)
  pub twice : IsTimeIn z end (end -ℚ d -ℚ d)
  pub is : end -ℚ d ≡ periods_after (settled f g k) m (common_period f g)
  pub after : steady f +ℚ d ≤ℚ end -ℚ d
  pub first_fits : SumFits end (neg_ℚ d)
  pub second_fits : SumFits (end -ℚ d) (neg_ℚ d)

pub times_at : (f g : SpecCurve) (k m : ℕ) → IsCurve f → IsCurve g → IsFinite (value_at f) → IsFinite (value_at g) → gauge_at Horizontal f g k m < 2 ^ 120
    → WindowTimes (sizes_at Horizontal f g k m) f g k m (window_at Horizontal f g k m) (common_period f g)
times_at f g k m F G first second small =
    let z = sizes_at Horizontal f g k m in
    let H = window_at Horizontal f g k m in
    let d = common_period f g in
    let T = steady f in
    let p = H -ℚ d in
    let some = common_some f g F G in
    let is = window_is f g k m in
    let low = steady_nonneg f F in
    let more = periods_low (settled f g k) d m some in
    let turn = periods_low T d k some in
    let after : T +ℚ d ≤ℚ p = after_is T (periods_after T k d) (settled f g k) (periods_after (settled f g k) m d) p d turn (settled_is f g k) more is in
    let high : int (pos 0) ≤ℚ H = with3 T d H (λ c. omega (arith, c.le, c.lt, c.same)) in
    let S = seen_at f g k m F G first second high small in
    let A = S.first.limited in
    let on_end = A.sizes.window in
    let on = S.period.whole in
    let on_p = whole_sub z.dt H d on_end on in
    let p_low : int (pos 0) ≤ℚ p = with3 T d p (λ c. omega (arith, c.le, c.lt, c.same)) in
    let p_high : p ≤ℚ H = with2 H d (λ c. omega (arith, c.le, c.lt, c.same)) in
    let d_low : int (pos 0) ≤ℚ d = le_of_lt some in
    let d_high : d ≤ℚ H = with3 T d H (λ c. omega (arith, c.le, c.lt, c.same)) in
    record {
      seen = S;
      once = record { whole = on_p; nonneg = p_low; before = with2 H d (λ c. omega (arith, c.le, c.lt, c.same)) };
      twice = record { whole = whole_sub z.dt p d on_p on; nonneg = with3 T d p (λ c. omega (arith, c.le, c.lt, c.same)); before = with2 H d (λ c. omega (arith, c.le, c.lt, c.same)) };
      is = is;
      after = after;
      first_fits = (times_fit z H H d A on_end on high (le_refl H) d_low d_high).1;
      second_fits = (times_fit z H p d A on_p on p_low p_high d_low d_high).1;
    }
  where
    after_is : (T a b v p d : ℚ) → T ≤ℚ a → b ≡ a +ℚ d → b ≤ℚ v → p ≡ v → T +ℚ d ≤ℚ p
    after_is T a b v p d h e k f =
        let l : T +ℚ d ≤ℚ b = with4 T a b d (λ c. omega (arith, c.le, c.lt, c.same)) in
        subst (λ x. T +ℚ d ≤ℚ x) (sym f) (le_trans l k)

pub window_times : (f g : SpecCurve) (k m : ℕ) (w : CallWindow) → IsCurve f → IsCurve g → AreFinite f g → IsNarrowWindow f g k m w → WindowTimes (sizes_at Horizontal f g k m) f g k m w.end w.period
window_times f g k m w F G both N =
    let z = sizes_at Horizontal f g k m in
    subst (λ e. WindowTimes z f g k m e w.period) (sym N.window.end)
    (subst (λ p. WindowTimes z f g k m (window_at Horizontal f g k m) p) (sym N.window.period) (times_at f g k m F G both.first both.second N.gauge))

-- ---- which times they are
-- without more periods: when the first has settled, and a period before
pub once_is : (z : Sizes) (f g : SpecCurve) (k : ℕ) (end d : ℚ) → WindowTimes z f g k 0 end d → end -ℚ d ≡ settled f g k
once_is z f g k end d W = W.is ∙ none_after (settled f g k) (common_period f g)

pub twice_is : (z : Sizes) (f g : SpecCurve) (k : ℕ) (end d : ℚ) → d ≡ common_period f g → WindowTimes z f g k 0 end d → end -ℚ d -ℚ d ≡ periods_after (steady f) k (common_period f g)
twice_is z f g k end d e W = ap (λ x. end -ℚ d -ℚ x) e ∙ less_once (periods_after (steady f) k (common_period f g)) (end -ℚ d) (common_period f g) (once_is z f g k end d W ∙ settled_is f g k)

-- ---- few periods
pub few_within : (f g : SpecCurve) (k m : ℕ) → IsCurve f → IsCurve g → IsFinite (value_at f) → IsFinite (value_at g) → gauge_at Horizontal f g k m < 2 ^ 120 → (k ≤ 2 ^ 114) × (m ≤ 2 ^ 114)
few_within f g k m F G first second small =
    let z = sizes_at Horizontal f g k m in
    let H = window_at Horizontal f g k m in
    let d = common_period f g in
    let T = steady f in
    let W = times_at f g k m F G first second small in
    let some = common_some f g F G in
    let low = steady_nonneg f F in
    let A = W.seen.first.limited.sizes in
    let narrow = (narrow_limit z H A W.seen.first.limited.gauge).times in
    let is = W.is in
    let K = int (pos k) *ℚ d in
    let M = int (pos m) *ℚ d in
    let K_low : int (pos 0) ≤ℚ K = mul_nonneg (nat_nonneg k) (le_of_lt some) in
    let M_low : int (pos 0) ≤ℚ M = mul_nonneg (nat_nonneg m) (le_of_lt some) in
    let at = settled_is f g k in
    let S = settled f g k in
    let k_few = few_periods z H d k A some W.seen.period.whole (early_k T K M S H d low some M_low at is) in
    let m_few = few_periods z H d m A some W.seen.period.whole (early_m T K M S H d low some K_low at is) in
    (omega (arith, k_few, narrow), omega (arith, m_few, narrow))
  where
    early_k : (T K M S H d : ℚ) → int (pos 0) ≤ℚ T → int (pos 0) <ℚ d → int (pos 0) ≤ℚ M → S ≡ (T +ℚ K) +ℚ d → H -ℚ d ≡ S +ℚ M → K ≤ℚ H
    early_k T K M S H d a b m e f = with6 T K M S H d (λ c. omega (arith, c.le, c.lt, c.same))

    early_m : (T K M S H d : ℚ) → int (pos 0) ≤ℚ T → int (pos 0) <ℚ d → int (pos 0) ≤ℚ K → S ≡ (T +ℚ K) +ℚ d → H -ℚ d ≡ S +ℚ M → M ≤ℚ H
    early_m T K M S H d a b m e f = with6 T K M S H d (λ c. omega (arith, c.le, c.lt, c.same))
