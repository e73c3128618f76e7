-- Shifts, multiples and differences of curves, worked out by hand.
use Rattle.std.specs.Prelude.{◌≡◌}
use Rattle.std.proofs.Common.{arith, ap, subst, inl, inr, refl}
use Rattle.rational.specs.Rational.{ℚ, ◌+ℚ◌, ◌-ℚ◌, ◌*ℚ◌, ◌≤ℚ◌, ◌<ℚ◌}
use Rattle.rational.specs.Fractions.{same_parts}
use Rattle.rational.specs.Extended.{Ext, ◌≤ₑ◌}
use Rattle.rational.specs.declared.Extended.TheVariants.{Fin}
use Rattle.rational.proofs.Linear.{with1, with2}
use Rattle.rational.proofs.Laws.{le_or_lt, le_refl}
use Rattle.rational.proofs.MinMax.{le_q_not, max_q_right, max_q_is_left}
use Rattle.rational.proofs.Over.{le_q_out}
use Rattle.rational.proofs.Bounds.{least_member}
use Rattle.rational.proofs.Integers.{nat_nonneg}
use Rattle.min_plus.specs.Functions.{zero_q, From}
use Rattle.min_plus.specs.Running.{IsRunningInfimum, left_after}
use Rattle.upp_curve.specs.Curve.{value_at, cut}
use Rattle.upp_curve.specs.Kinds.{bucket, rate_latency}
use Rattle.upp_curve.specs.WorkedRows.{whole}
use Rattle.upp_curve.specs.WorkedShifts.{ShiftRows, ScaleRows, MinusRows, DifferenceRows, LeftOverRows}
use Rattle.upp_curve.proofs.KindValues.{bucket_is, service_is}
use Rattle.upp_curve.proofs.Worked.{computing}

pub shift_rows : ShiftRows
unfolding computing
shift_rows = record {
  at_0 = ap Fin (same_parts _ _ refl refl);
  at_1_2 = ap Fin (same_parts _ _ refl refl);
  endless = refl;
}

pub scale_rows : ScaleRows
unfolding computing cut
scale_rows = record {
  three_times = ap Fin (same_parts _ _ refl refl);
  half = ap Fin (same_parts _ _ refl refl);
  none = ap Fin (same_parts _ _ refl refl);
  endless = refl;
}

pub minus_rows : MinusRows
unfolding computing
minus_rows = record { at_1 = ap Fin (same_parts _ _ refl refl); at_3_2 = ap Fin (same_parts _ _ refl refl) }

pub difference_rows : DifferenceRows
unfolding computing cut
difference_rows = record {
  at_50 = ap Fin (same_parts _ _ refl refl);
  at_110 = ap Fin (same_parts _ _ refl refl);
  endless_first = refl;
  endless_second = refl;
}

-- ---- what first in, first out leaves
left : ℚ → Ext
left x = left_after (value_at (rate_latency (whole 100) (whole 10))) (value_at (bucket (whole 6000) (whole 5))) (whole 70) x

early : (x : ℚ) → x ≤ℚ whole 70 → left x ≡ Fin (whole 0)
unfolding left left_after
early x h = rw (le_q_out x (whole 70) h) refl

late : (x : ℚ) → whole 70 <ℚ x → left x ≡ Fin (whole 95 *ℚ (x -ℚ whole 70))
unfolding left left_after
late x h =
    let on : zero_q ≤ℚ x = with1 x (λ c. omega (arith, c.le, c.lt, c.same)) in
    let past : zero_q ≤ℚ x -ℚ whole 70 = with1 x (λ c. omega (arith, c.le, c.lt, c.same)) in
    let served : zero_q ≤ℚ x -ℚ whole 10 = with1 x (λ c. omega (arith, c.le, c.lt, c.same)) in
    let some : zero_q ≤ℚ whole 100 *ℚ (x -ℚ whole 10) -ℚ (whole 6000 +ℚ whole 5 *ℚ (x -ℚ whole 70)) = with1 x (λ c. omega (arith, c.le, c.lt, c.same)) in
    rw (
      le_q_not x (whole 70) h,
      (service_is (whole 100) (whole 10) (nat_nonneg 100) (nat_nonneg 10)).is x on,
      (bucket_is (whole 6000) (whole 5)).is (x -ℚ whole 70) past,
      max_q_right zero_q (x -ℚ whole 10) served,
      max_q_right zero_q (whole 100 *ℚ (x -ℚ whole 10) -ℚ (whole 6000 +ℚ whole 5 *ℚ (x -ℚ whole 70))) some,
    )
    (ap Fin (with1 x (λ c. omega (arith, c.le, c.lt, c.same))))

-- it never falls
rises : (t x : ℚ) → t ≤ℚ x → left t ≤ₑ left x
rises t x h = elim (le_or_lt t (whole 70)) [
  | inl k ↦ elim (le_or_lt x (whole 70)) [
    | inl l ↦ rw (early t k, early x l) (le_refl (whole 0))
    | inr l ↦ rw (early t k, late x l) (with1 x (λ c. omega (arith, c.le, c.lt, c.same)))
  ]
  | inr k ↦
      let l : whole 70 <ℚ x = with2 t x (λ c. omega (arith, c.le, c.lt, c.same)) in
      rw (late t k, late x l) (with2 t x (λ c. omega (arith, c.le, c.lt, c.same)))
]

-- so its value at a time is the least from then on
left_is : (t : ℚ) → zero_q ≤ℚ t → left t ≡ value_at (rate_latency (whole 95) (whole 70)) t
left_is t start = rw ((service_is (whole 95) (whole 70) (nat_nonneg 95) (nat_nonneg 70)).is t start) (elim (le_or_lt t (whole 70)) [
  | inl k ↦
      let e : t -ℚ whole 70 ≤ℚ zero_q = with1 t (λ c. omega (arith, c.le, c.lt, c.same)) in
      rw (early t k, max_q_is_left zero_q (t -ℚ whole 70) e) (ap Fin (with1 zero_q (λ c. omega (arith, c.le, c.lt, c.same))))
  | inr k ↦
      let e : zero_q ≤ℚ t -ℚ whole 70 = with1 t (λ c. omega (arith, c.le, c.lt, c.same)) in
      rw (late t k, max_q_right zero_q (t -ℚ whole 70) e) refl
])

least_left : (t : ℚ) → zero_q ≤ℚ t → IsRunningInfimum left t (value_at (rate_latency (whole 95) (whole 70)) t)
least_left t start =
    subst (λ v. IsRunningInfimum left t v) (left_is t start)
    (least_member {I = From t} (λ x. left x.at) record { at = t; least = le_refl t } (λ x. rises t x.at x.least))

at_70 : value_at (rate_latency (whole 95) (whole 70)) (whole 70) ≡ Fin (whole 0)
unfolding computing
at_70 = ap Fin (same_parts _ _ refl refl)

at_80 : value_at (rate_latency (whole 95) (whole 70)) (whole 80) ≡ Fin (whole 950)
unfolding computing
at_80 = ap Fin (same_parts _ _ refl refl)

pub left_over_rows : LeftOverRows
unfolding left
left_over_rows = record { left = λ t h. least_left t h; at_70 = at_70; at_80 = at_80; endless = refl }
