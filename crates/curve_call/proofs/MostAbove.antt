-- How much a slower curve is above a faster one at most, from one period of each: the slower lies below a line of its
-- rate, the faster above one of its own.
use Rattle.std.specs.Prelude.{◌≡◌, ℕ, pos}
use Rattle.std.proofs.Common.{arith, sym, ap, ap₂, ◌∙◌, refl, subst, inl, inr}
use Rattle.rational.specs.Rational.{ℚ, ◌+ℚ◌, ◌-ℚ◌, ◌*ℚ◌, ◌≤ℚ◌, ◌<ℚ◌, int}
use Rattle.rational.specs.Whole.{periods}
use Rattle.rational.specs.Extended.{Ext, ◌≤ₑ◌, ◌<ₑ◌, ◌+ₑ◌}
use Rattle.rational.specs.declared.Extended.TheVariants.{Fin, Inf}
use Rattle.rational.proofs.Linear.{with1, with2, with3, with4, with6}
use Rattle.rational.proofs.Laws.{le_trans, le_of_lt, le_or_lt, mul_le_mul, mul_le_mul_right, mul_assoc, mul_comm, mul_add, sub_add}
use Rattle.rational.proofs.Whole.{periods_low, periods_high}
use Rattle.rational.proofs.Grid.{whole_add, within_add}
use Rattle.rational.specs.Grid.{Within}
use Rattle.rational.specs.Ratio.{IsSmall, SumFits}
use Rattle.upp_limits.proofs.NarrowSizes.{small_sum}
use Rattle.upp_normal.proofs.AnswerRoom.{wide_narrow}
use Rattle.rational.proofs.ExtendedOrder.{le_ext_trans, add_le_ext, le_ext_refl}
use Rattle.upp_curve.specs.Curve.{SpecCurve, value_at}
use Rattle.upp_curve.specs.Steady.{Repeats, rate, rise_over}
use Rattle.upp_limits.specs.Limits.{Sizes}
use Rattle.upp_limits.specs.Sized.{grid_of, times_largest}
use Rattle.upp_curve.proofs.Steady.{steady_rule}
use Rattle.upp_curve.proofs.SteadyTimes.{rank_early}
use Rattle.upp_normal.specs.Ahead.{AnswerValue, IsGridValue}
use Rattle.upp_normal.proofs.UnrollSteps.{ext_cases}
use Rattle.curve_call.specs.Gaps.{InWindow, IsLargest}
use Rattle.curve_call.specs.GapSteps.{IsGapValue}
use Rattle.curve_call.specs.Levels.{level_curve}
use Rattle.curve_call.specs.Compared.{AreCompared, IsLookedAt}
use Rattle.curve_call.specs.Bounds.{own_or, OwnWindow, IsFiniteLate, IsMost}
use Rattle.curve_call.proofs.Levels.{level_value}
use Rattle.curve_call.proofs.RateRises.{rate_rise, infinite_value}
use Rattle.curve_call.proofs.RiseSizes.{rise_stands}
use Rattle.curve_call.proofs.Shifts.{later_value}
use Rattle.curve_call.proofs.LeastNumber.{largest_finite, rise_small}
use Rattle.curve_call.proofs.OwnPeriods.{own_period_is, own_looked, looked_window, first_looked, second_looked}

-- ---- a time, moved back into the first period
pub record Back (f : ℚ → Ext) (from p a t : ℚ) : Type 0 where
  pub number : ℕ
  pub early : ℚ
  pub among : InWindow from (from +ℚ p) early
  pub low : int (pos number) *ℚ p ≤ℚ t -ℚ from
  pub high : t -ℚ from ≤ℚ int (pos number) *ℚ p +ℚ p
  pub back : early +ℚ int (pos number) *ℚ p ≡ t
  pub is : f t ≡ f early +ₑ Fin (int (pos number) *ℚ a)

pub moved_back : (f : ℚ → Ext) (from p a t : ℚ) → int (pos 0) <ℚ p → Repeats f from p a → from ≤ℚ t → Back f from p a t
moved_back f from p a t some R h =
    let n = periods from p t in
    let y = int (pos n) *ℚ p in
    let u = t -ℚ y in
    let first = periods_low from p t some h in
    let last = periods_high from p t some in
    let low : from ≤ℚ u = with3 from t y (λ c. omega (arith, c.le, c.lt, c.same)) in
    record {
      number = n;
      early = u;
      among = record { start = low; before = with4 from t y p (λ c. omega (arith, c.le, c.lt, c.same)) };
      low = with3 from t y (λ c. omega (arith, c.le, c.lt, c.same));
      high = with4 from t y p (λ c. omega (arith, c.le, c.lt, c.same));
      back = sub_add t y;
      is = subst (λ s. f s ≡ f u +ₑ Fin (int (pos n) *ℚ a)) (sub_add t y) (later_value f from p a u n (le_of_lt some) R low);
    }

-- ---- what the slower has gained is at most what the faster has, and a period of it more
pub times_rate : (n r p a : ℚ) → r *ℚ p ≡ a → n *ℚ a ≡ r *ℚ (n *ℚ p)
times_rate n r p a e = ap (λ x. n *ℚ x) (sym e) ∙ sym (mul_assoc n r p) ∙ ap (λ x. x *ℚ p) (mul_comm n r) ∙ mul_assoc r n p

gained : (n m r s p q a b x : ℚ) → r *ℚ p ≡ a → s *ℚ q ≡ b → int (pos 0) ≤ℚ r → r ≤ℚ s → int (pos 0) ≤ℚ x → n *ℚ p ≤ℚ x → x ≤ℚ m *ℚ q +ℚ q → n *ℚ a ≤ℚ m *ℚ b +ℚ b
gained n m r s p q a b x e f some less late low high =
    let slow : n *ℚ a ≤ℚ r *ℚ x = subst (λ y. y ≤ℚ r *ℚ x) (sym (times_rate n r p a e)) (mul_le_mul r some low) in
    let up : r *ℚ x ≤ℚ s *ℚ x = mul_le_mul_right x late less in
    let fast : s *ℚ x ≤ℚ s *ℚ (m *ℚ q +ℚ q) = mul_le_mul s (le_trans some less) high in
    let same : s *ℚ (m *ℚ q +ℚ q) ≡ m *ℚ b +ℚ b = mul_add s (m *ℚ q) q ∙ ap₂ (λ (x y : ℚ). x +ℚ y) (sym (times_rate m s q b f)) f in
    subst (λ y. n *ℚ a ≤ℚ y) same (le_trans slow (le_trans up fast))

-- ---- over functions
record Turns (f g : ℚ → Ext) (from p q a b r s : ℚ) : Type 0 where
  first_some : int (pos 0) <ℚ p
  second_some : int (pos 0) <ℚ q
  first : Repeats f from p a
  second : Repeats g from q b
  first_rate : r *ℚ p ≡ a
  second_rate : s *ℚ q ≡ b
  rises : int (pos 0) ≤ℚ r
  slower : r ≤ℚ s

most_above : (f g : ℚ → Ext) (from p q a b r s top depth : ℚ) → Turns f g from p q a b r s → ((u : ℚ) → InWindow from (from +ℚ p) u → f u ≤ₑ Fin top)
    → ((u : ℚ) → InWindow from (from +ℚ q) u → Fin (int (pos 0)) ≤ₑ g u +ₑ Fin depth) → (t : ℚ) → from ≤ℚ t → f t ≤ₑ g t +ₑ Fin (top +ℚ depth +ℚ b)
most_above f g from p q a b r s top depth T high low t h =
    let F = moved_back f from p a t T.first_some T.first h in
    let G = moved_back g from q b t T.second_some T.second h in
    let na = int (pos F.number) *ℚ a in
    let mb = int (pos G.number) *ℚ b in
    let gain : na ≤ℚ mb +ℚ b =
    gained (int (pos F.number)) (int (pos G.number)) r s p q a b (t -ℚ from) T.first_rate T.second_rate T.rises T.slower (with2 from t (λ c. omega (arith, c.le, c.lt, c.same))) F.low G.high in
    let up : f t ≤ₑ Fin (top +ℚ na) = subst (λ v. v ≤ₑ Fin (top +ℚ na)) (sym F.is) (add_le_ext (f F.early) (Fin top) (Fin na) (Fin na) (high F.early F.among) (le_ext_refl (Fin na))) in
    subst (λ v. f t ≤ₑ v +ₑ Fin (top +ℚ depth +ℚ b)) (sym G.is)
    (elim (ext_cases (g G.early)) [
      | inl e ↦ subst (λ v. f t ≤ₑ v +ₑ Fin mb +ₑ Fin (top +ℚ depth +ℚ b)) (sym e) tt
      | inr (x, e) ↦
          let down : int (pos 0) ≤ℚ x +ℚ depth = subst (λ v. Fin (int (pos 0)) ≤ₑ v +ₑ Fin depth) e (low G.early G.among) in
          let sums : top +ℚ na ≤ℚ x +ℚ mb +ℚ (top +ℚ depth +ℚ b) = with6 top na x mb depth b (λ c. omega (arith, c.le, c.lt, c.same)) in
          subst (λ v. f t ≤ₑ v +ₑ Fin mb +ₑ Fin (top +ℚ depth +ℚ b)) (sym e) (le_ext_trans (f t) (Fin (top +ℚ na)) (Fin (x +ℚ mb +ℚ (top +ℚ depth +ℚ b))) up sums)
    ])

-- ---- over curves
pub own_repeats : (z : Sizes) (from d : ℚ) (c : SpecCurve) → IsLookedAt z from d c → Repeats (value_at c) from (own_or d c) (rise_over c (own_or d c))
own_repeats z from d c L =
    let P = own_period_is z from d c L in
    record { rule = λ t h. (steady_rule c (own_or d c) L.curve.curve.normal.raw P.periods (le_of_lt P.some)).rule t (le_trans L.curve.steady_by h) }

pub finite_rate : (z : Sizes) (from d : ℚ) (c : SpecCurve) → IsLookedAt z from d c → IsFiniteLate from c → (r : ℚ) × (rate c ≡ Fin r)
finite_rate z from d c L P = elim (ext_cases (rate c)) [
  | inl e ↦ absurd (not_finite (sym (infinite_value c P.at L.curve.curve e (le_trans L.curve.steady_by P.late)) ∙ P.is))
  | inr h ↦ h
]
  where
    not_finite : {v : ℚ} → Inf ≡ Fin v → ⊥
    not_finite {v} e = subst (λ x. x ≤ₑ Fin v) (sym e) (le_ext_refl (Fin v))

pub level_is : (l : ℚ) → rate (level_curve l) ≡ Fin (int (pos 0))
unfolding rate
level_is l = refl

pub not_falling : (c : SpecCurve) (r : ℚ) → rate c ≡ Fin r → ¬ (rate c <ₑ rate (level_curve (int (pos 0)))) → int (pos 0) ≤ℚ r
not_falling c r e h = elim (le_or_lt (int (pos 0)) r) [
  | inl l ↦ l
  | inr l ↦ absurd (h (subst (λ x. x <ₑ rate (level_curve (int (pos 0)))) (sym e) (subst (λ y. Fin r <ₑ y) (sym (level_is (int (pos 0)))) l)))
]

pub rates_order : (f g : SpecCurve) (r s : ℚ) → rate f ≡ Fin r → rate g ≡ Fin s → rate f <ₑ rate g → r ≤ℚ s
rates_order f g r s e k h = le_of_lt (subst (λ y. Fin r <ₑ y) k (subst (λ x. x <ₑ rate g) e h))

pub top_bounds : (c : SpecCurve) (from end q t : ℚ) → int (pos 0) ≤ℚ from → IsLargest (InWindow from end) (value_at c) (value_at (level_curve (int (pos 0)))) q → InWindow from end t → value_at c t ≤ₑ Fin q
top_bounds c from end q t low L i =
    let zero : int (pos 0) +ℚ q ≡ q = with1 q (λ c. omega (arith, c.le, c.lt, c.same)) in
    subst (λ v. value_at c t ≤ₑ Fin v) zero (subst (λ v. value_at c t ≤ₑ v +ₑ Fin q) (level_value (int (pos 0)) t (le_trans low i.start)) (L.above t i))

pub depth_bounds : (c : SpecCurve) (from end q t : ℚ) → int (pos 0) ≤ℚ from → IsLargest (InWindow from end) (value_at (level_curve (int (pos 0)))) (value_at c) q → InWindow from end t
    → Fin (int (pos 0)) ≤ₑ value_at c t +ₑ Fin q
depth_bounds c from end q t low L i = subst (λ v. v ≤ₑ value_at c t +ₑ Fin q) (level_value (int (pos 0)) t (le_trans low i.start)) (L.above t i)

-- ---- its size
fifteen : (v : ℚ) → int (pos 6) *ℚ v +ℚ int (pos 6) *ℚ v +ℚ int (pos 3) *ℚ v ≡ int (pos 15) *ℚ v
fifteen v = with1 v (λ c. omega (arith, c.le, c.lt, c.same))

most_stands : (z : Sizes) (top depth b : ℚ) → IsGapValue z top → IsGapValue z depth → IsGridValue z b → AnswerValue z 15 (top +ℚ depth +ℚ b)
most_stands z top depth b T D B = record {
  whole = whole_add (grid_of z) (top +ℚ depth) b (whole_add (grid_of z) top depth T.whole D.whole) B.whole;
  within = subst (λ m. Within m (top +ℚ depth +ℚ b)) (fifteen (int (pos z.largest)))
      (within_add (times_largest 6 z +ℚ times_largest 6 z) (times_largest 3 z) (top +ℚ depth) b (within_add (times_largest 6 z) (times_largest 6 z) top depth T.within D.within) B.within);
}

pub rise_stands_own : (z : Sizes) (from d : ℚ) (c : SpecCurve) → IsLookedAt z from d c → IsFiniteLate from c → IsGridValue z (rise_over c (own_or d c))
rise_stands_own z from d c L P =
    let K = own_looked z from d c L in
    let (W, T) = looked_window z from (own_or d c) c K in
    rise_stands z from (own_or d c) c P.at P.value W L.start T.nonneg K.some (le_trans (rank_early c) L.curve.steady_by) K.curve.periods P.late P.is

-- ---- its steps fit
pub depth_finite : (from d depth : ℚ) (c : SpecCurve) → IsLargest (OwnWindow from d c) (value_at (level_curve (int (pos 0)))) (value_at c) depth → IsFiniteLate from c
depth_finite from d depth c D = (largest_finite from (from +ℚ own_or d c) depth (level_curve (int (pos 0))) c D).1

pub own_rise_small : (z : Sizes) (from d own : ℚ) (slow fast : SpecCurve) → AreCompared z from d slow fast → IsFiniteLate from fast → own ≡ own_or d fast → IsSmall (rise_over fast own)
own_rise_small z from d own slow fast C P e =
    subst (λ p. IsSmall (rise_over fast p)) (sym e) (rise_small z (from +ℚ d) (rise_over fast (own_or d fast)) C.limited (rise_stands_own z from d fast (second_looked z from d slow fast C) P))

pub first_sum_fits : (z : Sizes) (from d top depth : ℚ) (slow fast : SpecCurve) → AreCompared z from d slow fast → ((w : Sizes) → IsLookedAt w from d slow → IsGapValue w top)
    → ((w : Sizes) → IsLookedAt w from d fast → IsGapValue w depth) → SumFits top depth
first_sum_fits z from d top depth slow fast C T D =
    let t = T z (first_looked z from d slow fast C) in
    let e = D z (second_looked z from d slow fast C) in
    small_sum z (from +ℚ d) 6 6 top depth C.limited.sizes (wide_narrow z (from +ℚ d) C.limited) (omega arith) t.whole e.whole t.within e.within

twelve : (v : ℚ) → int (pos 6) *ℚ v +ℚ int (pos 6) *ℚ v ≡ int (pos 12) *ℚ v
twelve v = with1 v (λ c. omega (arith, c.le, c.lt, c.same))

pub second_sum_fits : (z : Sizes) (from d top depth own rise both : ℚ) (slow fast : SpecCurve) → AreCompared z from d slow fast → ((w : Sizes) → IsLookedAt w from d slow → IsGapValue w top)
    → ((w : Sizes) → IsLookedAt w from d fast → IsGapValue w depth) → IsFiniteLate from fast → own ≡ own_or d fast → rise ≡ rise_over fast own → both ≡ top +ℚ depth → SumFits both rise
second_sum_fits z from d top depth own rise both slow fast C T D P e f g =
    let t = T z (first_looked z from d slow fast C) in
    let k = D z (second_looked z from d slow fast C) in
    let r = rise_stands_own z from d fast (second_looked z from d slow fast C) P in
    subst (λ x. SumFits x rise) (sym g)
    (subst (SumFits (top +ℚ depth)) (sym (f ∙ ap (rise_over fast) e))
    (small_sum z (from +ℚ d) 12 3 (top +ℚ depth) (rise_over fast (own_or d fast)) C.limited.sizes (wide_narrow z (from +ℚ d) C.limited) (omega arith) (whole_add (grid_of z) top depth t.whole k.whole) r.whole
    (subst (λ m. Within m (top +ℚ depth)) (twelve (int (pos z.largest))) (within_add (times_largest 6 z) (times_largest 6 z) top depth t.within k.within)) r.within))

-- ---- all of it
pub most_is : (z : Sizes) (from d : ℚ) (slow fast : SpecCurve) (top depth : ℚ) → AreCompared z from d slow fast → rate slow <ₑ rate fast → ¬ (rate slow <ₑ rate (level_curve (int (pos 0))))
    → IsLargest (OwnWindow from d slow) (value_at slow) (value_at (level_curve (int (pos 0)))) top → IsLargest (OwnWindow from d fast) (value_at (level_curve (int (pos 0)))) (value_at fast) depth
    → ((w : Sizes) → IsLookedAt w from d slow → IsGapValue w top) → ((w : Sizes) → IsLookedAt w from d fast → IsGapValue w depth)
    → IsMost from d slow fast (top +ℚ depth +ℚ rise_over fast (own_or d fast))
most_is z from d slow fast top depth C faster up T D top_sizes depth_sizes =
    let p = own_or d slow in
    let q = own_or d fast in
    let zero = level_curve (int (pos 0)) in
    let F = first_looked z from d slow fast C in
    let G = second_looked z from d slow fast C in
    let first = (largest_finite from (from +ℚ p) top slow zero T).0 in
    let second = (largest_finite from (from +ℚ q) depth zero fast D).1 in
    let (r, e) = finite_rate z from d slow F first in
    let (s, k) = finite_rate z from d fast G second in
    let low = (looked_window z from d slow F).1.nonneg in
    let turns : Turns (value_at slow) (value_at fast) from p q (rise_over slow p) (rise_over fast q) r s = record {
      first_some = (own_period_is z from d slow F).some;
      second_some = (own_period_is z from d fast G).some;
      first = own_repeats z from d slow F;
      second = own_repeats z from d fast G;
      first_rate = rate_rise slow p r e;
      second_rate = rate_rise fast q s k;
      rises = not_falling slow r e up;
      slower = rates_order slow fast r s e k faster;
    } in
    record {
      within = λ t i.
          most_above (value_at slow) (value_at fast) from p q (rise_over slow p) (rise_over fast q) r s top depth turns (λ u j. top_bounds slow from (from +ℚ p) top u low T j)
          (λ u j. depth_bounds fast from (from +ℚ q) depth u low D j) t i.start;
      sizes = λ w K.
          most_stands w top depth (rise_over fast q) (top_sizes w (first_looked w from d slow fast K)) (depth_sizes w (second_looked w from d slow fast K)) (rise_stands_own w from d fast (second_looked w from d slow fast K) second);
      first = first;
      second = second;
    }
