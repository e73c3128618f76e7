-- No lag behind a time from which on both curves repeat is longer than those behind the times before it.
use Rattle.std.specs.Prelude.{◌≡◌, ℕ, pos}
use Rattle.std.proofs.Common.{arith, sym, ap, ◌∙◌, subst, inl, inr}
use Rattle.rational.specs.Rational.{ℚ, ◌+ℚ◌, ◌-ℚ◌, ◌*ℚ◌, ◌≤ℚ◌, ◌<ℚ◌, int}
use Rattle.rational.specs.Whole.{periods}
use Rattle.rational.specs.Extended.{Ext, ◌<ₑ◌, ◌+ₑ◌}
use Rattle.rational.specs.declared.Extended.TheVariants.{Fin}
use Rattle.rational.proofs.Linear.{with2, with3, with4}
use Rattle.rational.proofs.Laws.{le_trans, le_of_lt, le_or_lt, mul_le_mul, sub_add}
use Rattle.rational.proofs.Integers.{nat_nonneg}
use Rattle.rational.proofs.Whole.{periods_low, periods_high}
use Rattle.rational.proofs.ExtendedOrder.{le_lt_ext, lt_le_ext}
use Rattle.min_plus.specs.Functions.{IsFinite, IsRising}
use Rattle.upp_curve.specs.Steady.{Repeats, steady}
use Rattle.upp_limits.specs.Windows.{IsConstantFrom}
use Rattle.curve_call.proofs.Shifts.{later_value}
use Rattle.curve_deviation.specs.Lags.{IsBehindAt, IsLongestLag}
use Rattle.curve_deviation.proofs.Lagging.{Always}

-- ---- f is constant
pub constant_late : (f g : ℚ → Ext) (from until q : ℚ) → int (pos 0) ≤ℚ from → from <ℚ until → IsConstantFrom f from → IsLongestLag (λ s. s <ℚ until) f g q → IsLongestLag Always f g q
constant_late f g from until q low early level L = record { nonneg = L.nonneg; near = L.near; most = most }
  where
    most : (s u : ℚ) → Always s → IsBehindAt f g s u → u -ℚ s ≤ℚ q
    most s u all b = elim (le_or_lt until s) [
      | inr l ↦ L.most s u l b
      | inl l ↦
          let past : from ≤ℚ s = le_trans (le_of_lt early) l in
          let m = L.most from u early record { first = low; second = b.second; below = subst (λ v. g u <ₑ v) (level s past) b.below } in
          with4 s u from q (λ c. omega (arith, c.le, c.lt, c.same))
    ]

-- ---- f has left the level at which g begins to repeat
taken : (v w p r : ℚ) → w +ℚ r <ℚ v +ℚ p → p ≤ℚ r → w <ℚ v
taken v w p r h k = with4 v w p r (λ c. omega (arith, c.le, c.lt, c.same))

-- both times some periods earlier
earlier_behind : (f g : ℚ → Ext) (from steady d a b s u : ℚ) (n : ℕ) → int (pos 0) <ℚ d → Repeats f from d a → Repeats g steady d b → a ≤ℚ b → IsFinite f → IsFinite g
    → int (pos 0) ≤ℚ s → int (pos 0) ≤ℚ u → from ≤ℚ s → steady ≤ℚ u → g (u +ℚ int (pos n) *ℚ d) <ₑ f (s +ℚ int (pos n) *ℚ d) → g u <ₑ f s
earlier_behind f g from steady d a b s u n some F G less first second low_s low_u from_s steady_u below =
    let N = int (pos n) in
    let (v, e) = first s low_s in
    let (w, k) = second u low_u in
    let f_is : f (s +ℚ N *ℚ d) ≡ Fin (v +ℚ N *ℚ a) = later_value f from d a s n (le_of_lt some) F from_s ∙ ap (λ x. x +ₑ Fin (N *ℚ a)) e in
    let g_is : g (u +ℚ N *ℚ d) ≡ Fin (w +ℚ N *ℚ b) = later_value g steady d b u n (le_of_lt some) G steady_u ∙ ap (λ x. x +ₑ Fin (N *ℚ b)) k in
    let more : N *ℚ a ≤ℚ N *ℚ b = mul_le_mul N (nat_nonneg n) less in
    let lines : w +ℚ N *ℚ b <ℚ v +ℚ N *ℚ a = subst (λ x. x <ₑ Fin (v +ℚ N *ℚ a)) g_is (subst (λ x. g (u +ℚ N *ℚ d) <ₑ x) f_is below) in
    subst (λ x. x <ₑ f s) (sym k) (subst (λ x. Fin w <ₑ x) (sym e) (taken v w (N *ℚ a) (N *ℚ b) lines more))

pub rising_late : (f g : ℚ → Ext) (from steady d a b left q : ℚ) → int (pos 0) <ℚ d → int (pos 0) ≤ℚ from → int (pos 0) ≤ℚ steady → Repeats f from d a → Repeats g steady d b → a ≤ℚ b → IsFinite f → IsFinite g → IsRising f → IsRising g
    → from ≤ℚ left → g steady <ₑ f left → IsLongestLag (λ s. s <ℚ left +ℚ d) f g q → IsLongestLag Always f g q
rising_late f g from steady d a b left q some low start F G less first second up rising past above L = record { nonneg = L.nonneg; near = L.near; most = most }
  where
    late : (s u : ℚ) → left ≤ℚ s → IsBehindAt f g s u → u -ℚ s ≤ℚ q
    late s u l p =
        let n = periods left d s in
        let y = int (pos n) *ℚ d in
        let t = s -ℚ y in
        let x = u -ℚ y in
        let one = periods_low left d s some l in
        let two = periods_high left d s some in
        let t_low : left ≤ℚ t = with3 left s y (λ c. omega (arith, c.le, c.lt, c.same)) in
        let t_high : t <ℚ left +ℚ d = with4 left s y d (λ c. omega (arith, c.le, c.lt, c.same)) in
        let t_some : int (pos 0) ≤ℚ t = le_trans (le_trans low past) t_low in
        let same : u -ℚ s ≡ x -ℚ t = apart u s y in
        subst (λ v. v ≤ℚ q) (sym same) (elim (le_or_lt (int (pos 0)) x) [
          | inr l ↦ le_trans (negative x t l t_some) L.nonneg
          | inl x_some ↦ L.most t x t_high record {
            first = t_some;
            second = x_some;
            below = elim (le_or_lt steady x) [
              | inl m ↦ earlier_behind f g from steady d a b t x n some F G less first second t_some x_some (le_trans past t_low) m
                  (subst (λ v. g v <ₑ f (t +ℚ y)) (sym (sub_add u y)) (subst (λ v. g u <ₑ f v) (sym (sub_add s y)) p.below))
              | inr m ↦ lt_le_ext (g x) (f left) (f t) (le_lt_ext (g x) (g steady) (f left) (rising x steady x_some (le_of_lt m)) above) (up left t (le_trans low past) t_low)
            ];
          }
        ])
      where
        apart : (u s y : ℚ) → u -ℚ s ≡ (u -ℚ y) -ℚ (s -ℚ y)
        apart u s y = with3 u s y (λ c. omega (arith, c.le, c.lt, c.same))

        negative : (x t : ℚ) → x <ℚ int (pos 0) → int (pos 0) ≤ℚ t → x -ℚ t ≤ℚ int (pos 0)
        negative x t h k = with2 x t (λ c. omega (arith, c.le, c.lt, c.same))

    most : (s u : ℚ) → Always s → IsBehindAt f g s u → u -ℚ s ≤ℚ q
    most s u all p = elim (le_or_lt (left +ℚ d) s) [
      | inr l ↦ L.most s u l p
      | inl l ↦ late s u (with3 left d s (λ c. omega (arith, c.le, c.lt, c.same))) p
    ]
