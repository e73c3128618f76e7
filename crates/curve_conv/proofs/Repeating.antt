-- The convolution of two curves from the time on at which the part of the slower one has the least sums.
use Rattle.std.specs.Prelude.{◌≡◌, pos, ◌⊎◌}
use Rattle.std.proofs.Common.{arith, sym, subst, inl, inr}
use Rattle.rational.specs.Rational.{ℚ, ◌+ℚ◌, ◌*ℚ◌, ◌≤ℚ◌, ◌<ℚ◌, int}
use Rattle.rational.specs.Extended.{Ext, ◌≤ₑ◌, ◌<ₑ◌, ◌+ₑ◌}
use Rattle.rational.specs.declared.Extended.TheVariants.{Fin}
use Rattle.rational.proofs.Linear.{with2, with3, with4}
use Rattle.rational.proofs.Laws.{le_trans, le_of_lt, mul_lt_mul_right}
use Rattle.rational.proofs.ExtendedOrder.{same_le_ext, le_ext_refl, le_inf, add_le_ext, add_ext_comm, lt_ext_irrefl, lt_ext_trans}
use Rattle.rational.proofs.Bounds.{same_infimum}
use Rattle.upp_curve.specs.Curve.{SpecCurve, repeated, value_at}
use Rattle.upp_curve.specs.Curves.{IsCurve}
use Rattle.upp_curve.specs.Steady.{Repeats, steady, rate, rise_over, IsWholePeriods}
use Rattle.min_plus.specs.Convolution.{Split, IsConvolution}
use Rattle.upp_normal.specs.Normalising.{HasValues}
use Rattle.upp_limits.specs.Windows.{IsLateLeast}
use Rattle.upp_curve.proofs.Steady.{steady_rule}
use Rattle.curve_call.proofs.Answering.{answer_relation}
use Rattle.upp_normal.proofs.UnrollSteps.{ext_cases}
use Rattle.curve_call.proofs.RateRises.{rate_rise, infinite_value}
use Rattle.curve_conv.specs.Parts.{IsPart, FirstLate}
use Rattle.curve_conv.specs.Late.{IsSlowerLate}
use Rattle.curve_conv.proofs.Moves.{AreRising, late_moves, late_ever, late_only, alike_moves}
use Rattle.plain_operators.proofs.pointwise.LatticeAnswers.{same_rises}
use Rattle.upp_curve.proofs.SteadyTimes.{steady_nonneg}

-- ---- functions
-- the splits of the two the other way round
turned : {t : ℚ} → Split t → Split t
turned {t} s =
    let x = s.first in
    let y = s.second in
    let e = s.whole in
    record { first = y; second = x; first_nonneg = s.second_nonneg; second_nonneg = s.first_nonneg; whole = with3 x y t (λ c. omega (arith, c.le, c.lt, c.same)) }

pub other_way : (f g : ℚ → Ext) (t : ℚ) (v : Ext) → IsConvolution f g t v → IsConvolution g f t v
unfolding turned
other_way f g t v h =
    same_infimum {I = Split t} {J = Split t} (λ s. f s.first +ₑ g s.second) (λ s. g s.first +ₑ f s.second) v
    (λ s. (turned s, same_le_ext (add_ext_comm (g s.second) (f s.first)))) (λ s. (turned s, same_le_ext (add_ext_comm (f s.second) (g s.first)))) h

-- the convolution, and from `from` on the part in which the first repeats
record LateValue (f g : ℚ → Ext) (first from t : ℚ) (v : Ext) : Type 0 where
  whole : IsConvolution f g t v
  late : from ≤ℚ t → IsPart f g (FirstLate first) t v

pub slower_repeats : (f g : ℚ → Ext) (first second d slow from : ℚ) (c : SpecCurve) (h : ℚ → Ext) → int (pos 0) <ℚ d → AreRising f g first second d slow → first +ℚ second +ℚ d ≤ℚ from
    → ((t : ℚ) → from ≤ℚ t → t <ℚ from +ℚ d → IsLateLeast f g first second t)
    → ((t : ℚ) → from ≤ℚ t → t <ℚ from +ℚ d → (v : Ext) → IsConvolution f g t v → IsPart f g (FirstLate first) t v)
    → HasValues c (repeated h from d slow) → ((t : ℚ) → int (pos 0) ≤ℚ t → t <ℚ from +ℚ d → IsConvolution f g t (h t))
    → (t : ℚ) → int (pos 0) ≤ℚ t → IsConvolution f g t (value_at c t)
slower_repeats f g first second d slow from c h some R late L V same W t nonneg =
    (answer_relation (LateValue f g first from) c h from d slow same (low R.first_low R.second_low R.some) some
    (λ u n m. record { whole = W u n m; late = λ k. found u k m (W u n m) })
    (λ u v k P. let moved = late_moves f g first second d slow u v R (le_trans late k) (P.late k) in
    let far = after some k in
    record {
      whole = late_only f g first second (u +ℚ d) (v +ₑ Fin slow) (le_trans sum_late (le_trans k far)) (ever (u +ℚ d) (le_trans k far)) moved;
      late = λ m. moved;
    })
    t nonneg).whole
  where
    sum_late : first +ℚ second ≤ℚ from
    sum_late = let some = R.some in with4 first second d from (λ c. omega (arith, c.le, c.lt, c.same))

    low : int (pos 0) ≤ℚ first → int (pos 0) ≤ℚ second → int (pos 0) ≤ℚ d → int (pos 0) ≤ℚ from
    low a b e = with4 first second d from (λ c. omega (arith, c.le, c.lt, c.same))

    after : {u : ℚ} → int (pos 0) <ℚ d → from ≤ℚ u → u ≤ℚ u +ℚ d
    after {u} a b = with2 u d (λ c. omega (arith, c.le, c.lt, c.same))

    ever : (u : ℚ) → from ≤ℚ u → IsLateLeast f g first second u
    ever = late_ever f g first second d slow from some R sum_late L

    found : (u : ℚ) → from ≤ℚ u → u <ℚ from +ℚ d → IsConvolution f g u (h u) → IsPart f g (FirstLate first) u (h u)
    found u k m whole = V u k m (h u) whole

pub both_repeat : (f g : ℚ → Ext) (first second d rise from : ℚ) (c : SpecCurve) (h : ℚ → Ext) → int (pos 0) <ℚ d → int (pos 0) ≤ℚ first → int (pos 0) ≤ℚ second
    → Repeats f first d rise → Repeats g second d rise → first +ℚ second +ℚ d ≤ℚ from
    → HasValues c (repeated h from d rise) → ((t : ℚ) → int (pos 0) ≤ℚ t → t <ℚ from +ℚ d → IsConvolution f g t (h t))
    → (t : ℚ) → int (pos 0) ≤ℚ t → IsConvolution f g t (value_at c t)
both_repeat f g first second d rise from c h some a b F G late same W t nonneg =
    answer_relation (IsConvolution f g) c h from d rise same (with4 first second d from (λ c. omega (arith, c.le, c.lt, c.same))) some W
    (λ u v k P. alike_moves f g first second d rise u v (le_of_lt some) a b F G (le_trans late k) P) t nonneg

-- ---- curves
-- the faster of two curves rises by at least as much as the slower
faster_rises : (slow fast : SpecCurve) (d : ℚ) → IsCurve fast → IsWholePeriods fast.tail d → int (pos 0) <ℚ d → rate slow <ₑ rate fast
    → (u : ℚ) → steady fast ≤ℚ u → value_at fast u +ₑ Fin (rise_over slow d) ≤ₑ value_at fast (u +ℚ d)
faster_rises slow fast d G periods some faster u late = elim (ext_cases (rate fast)) [
  | inl e ↦
      subst (λ v. value_at fast u +ₑ Fin (rise_over slow d) ≤ₑ v)
      (sym (infinite_value fast (u +ℚ d) G e (le_trans late (with2 u d (λ c. omega (arith, c.le, c.lt, c.same)))))) (le_inf (value_at fast u +ₑ Fin (rise_over slow d)))
  | inr (s, e) ↦ elim (ext_cases (rate slow)) [
    | inl k ↦ absurd (subst (λ x. x <ₑ rate fast) k faster)
    | inr (r, k) ↦
        let less : r <ℚ s = subst (λ x. Fin r <ₑ x) e (subst (λ x. x <ₑ rate fast) k faster) in
        let gain : r *ℚ d <ℚ s *ℚ d = mul_lt_mul_right d some less in
        let bound : rise_over slow d ≤ℚ rise_over fast d = subst (λ y. rise_over slow d ≤ℚ y) (rate_rise fast d s e) (subst (λ y. y ≤ℚ s *ℚ d) (rate_rise slow d r k) (le_of_lt gain)) in
        subst (λ v. value_at fast u +ₑ Fin (rise_over slow d) ≤ₑ v) (sym ((steady_rule fast d G.normal.raw periods (le_of_lt some)).rule u late))
        (add_le_ext (value_at fast u) (value_at fast u) (Fin (rise_over slow d)) (Fin (rise_over fast d)) (le_ext_refl (value_at fast u)) bound)
  ]
]

pub are_rising : (slow fast : SpecCurve) (d : ℚ) → IsCurve slow → IsCurve fast → IsWholePeriods slow.tail d → IsWholePeriods fast.tail d → int (pos 0) <ℚ d → rate slow <ₑ rate fast
    → AreRising (value_at slow) (value_at fast) (steady slow) (steady fast) d (rise_over slow d)
are_rising slow fast d F G p q some faster = record {
  some = le_of_lt some;
  first_low = steady_nonneg slow F;
  second_low = steady_nonneg fast G;
  left = steady_rule slow d F.normal.raw p (le_of_lt some);
  right = faster_rises slow fast d G q some faster;
}

-- two curves that repeat with a period, and from when on the convolution is that of the parts that rise the least
pub record ConvolvesFrom (f g : SpecCurve) (d from : ℚ) : Type 0 where
  pub first : IsCurve f
  pub second : IsCurve g
  pub left : IsWholePeriods f.tail d
  pub right : IsWholePeriods g.tail d
  pub some : int (pos 0) <ℚ d
  pub late : steady f +ℚ steady g +ℚ d ≤ℚ from
  pub enough : IsSlowerLate f g from d

-- what reads as the convolution up to a period later, and then repeats with the rise of the slower, is the convolution
pub convolution_repeats : (f g : SpecCurve) (d from rise : ℚ) (c : SpecCurve) (h : ℚ → Ext) → ConvolvesFrom f g d from
    → (rate g <ₑ rate f → rise ≡ rise_over g d) → (¬ (rate g <ₑ rate f) → rise ≡ rise_over f d)
    → HasValues c (repeated h from d rise) → ((t : ℚ) → int (pos 0) ≤ℚ t → t <ℚ from +ℚ d → IsConvolution (value_at f) (value_at g) t (h t))
    → (rate f <ₑ rate g) ⊎ ((rate f ≡ rate g) ⊎ (rate g <ₑ rate f))
    → (t : ℚ) → int (pos 0) ≤ℚ t → IsConvolution (value_at f) (value_at g) t (value_at c t)
convolution_repeats f g d from rise c h C so else same W (inl l) t n =
    let e = else (λ k. lt_both l k) in
    let E = C.enough.first l in
    slower_repeats (value_at f) (value_at g) (steady f) (steady g) d (rise_over f d) from c h C.some (are_rising f g d C.first C.second C.left C.right C.some l) C.late E.least E.value
    (subst (λ r. HasValues c (repeated h from d r)) e same) W t n
  where
    lt_both : rate f <ₑ rate g → rate g <ₑ rate f → ⊥
    lt_both l k = lt_ext_irrefl (rate f) (lt_ext_trans (rate f) (rate g) (rate f) l k)
convolution_repeats f g d from rise c h C so else same W (inr (inl e)) t n =
    let r = else (λ k. lt_ext_irrefl (rate f) (subst (λ x. x <ₑ rate f) (sym e) k)) in
    both_repeat (value_at f) (value_at g) (steady f) (steady g) d (rise_over f d) from c h C.some (steady_nonneg f C.first) (steady_nonneg g C.second)
    (steady_rule f d C.first.normal.raw C.left (le_of_lt C.some))
    (subst (Repeats (value_at g) (steady g) d) (sym (same_rises f g d e)) (steady_rule g d C.second.normal.raw C.right (le_of_lt C.some))) C.late
    (subst (λ r. HasValues c (repeated h from d r)) r same) W t n
convolution_repeats f g d from rise c h C so else same W (inr (inr l)) t n =
    let E = C.enough.second l in
    let late = C.late in
    let x = steady f in
    let y = steady g in
    other_way (value_at g) (value_at f) t (value_at c t)
    (slower_repeats (value_at g) (value_at f) (steady g) (steady f) d (rise_over g d) from c h C.some (are_rising g f d C.second C.first C.right C.left C.some l)
    (with4 x y d from (λ c. omega (arith, c.le, c.lt, c.same))) E.least E.value (subst (λ r. HasValues c (repeated h from d r)) (so l) same)
    (λ u a b. other_way (value_at f) (value_at g) u (h u) (W u a b)) t n)
