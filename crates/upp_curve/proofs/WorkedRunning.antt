-- The running bounds of a function with a downward jump, worked out by hand.
use Rattle.std.specs.Prelude.{◌≡◌, pos}
use Rattle.std.proofs.Common.{arith, ap, ◌∙◌, subst, inl, inr}
use Rattle.rational.specs.Rational.{ℚ, ◌*ℚ◌, ◌/ℚ◌, ◌≤ℚ◌, ◌<ℚ◌, frac}
use Rattle.rational.specs.Extended.{◌≤ₑ◌, ◌<ₑ◌}
use Rattle.rational.specs.declared.Extended.TheVariants.{Fin}
use Rattle.rational.proofs.Linear.{with1, with2, with3}
use Rattle.rational.proofs.Over.{le_q_out}
use Rattle.rational.proofs.Laws.{le_or_lt, le_refl, between, div_mul, mul_comm}
use Rattle.rational.proofs.MinMax.{le_q_not}
use Rattle.rational.proofs.Bounds.{least_member, largest_member}
use Rattle.rational.proofs.Whole.{not_zero}
use Rattle.upp_curve.specs.affine_segment.Reading.{read, piece_in}
use Rattle.upp_curve.specs.Curve.{value_at}
use Rattle.min_plus.specs.Functions.{zero_q, UpTo, From}
use Rattle.min_plus.specs.Running.{IsRunningSupremum, IsRunningInfimum}
use Rattle.upp_curve.specs.WorkedRows.{whole, dip, RunningRows}
use Rattle.upp_curve.proofs.KindValues.{on_line}
use Rattle.upp_curve.proofs.Worked.{half_twice}

pub dip_early : (t : ℚ) → zero_q ≤ℚ t → t <ℚ whole 1 → value_at dip t ≡ Fin (whole 3 *ℚ t)
unfolding value_at read piece_in
dip_early t h l =
    rw (le_q_not (whole 1) t l)
    (on_line zero_q zero_q zero_q (whole 3) t (with1 zero_q (λ c. omega (arith, c.le, c.lt, c.same))) h
    ∙ ap Fin (with1 t (λ c. omega (arith, c.le, c.lt, c.same))))

pub dip_late : (t : ℚ) → whole 1 ≤ℚ t → value_at dip t ≡ Fin t
unfolding value_at read piece_in
dip_late t h =
    rw (le_q_out (whole 1) t h)
    (on_line (whole 1) (whole 1) zero_q (whole 1) t (with1 (whole 1) (λ c. omega (arith, c.le, c.lt, c.same))) h
    ∙ ap Fin (with1 t (λ c. omega (arith, c.le, c.lt, c.same))))

-- before 1 the least is the value 1 at 1
least_early : (t : ℚ) → zero_q ≤ℚ t → whole 1 ≤ℚ whole 3 *ℚ t → t ≤ℚ whole 1 → IsRunningInfimum (value_at dip) t (Fin (whole 1))
least_early t h k l =
    let one = dip_late (whole 1) (le_refl (whole 1)) in
    subst (IsRunningInfimum (value_at dip) t) one
    (least_member {I = From t} (λ x. value_at dip x.at) record { at = whole 1; least = l } (λ x. rw one (under x.at x.least)))
  where
    under : (u : ℚ) → t ≤ℚ u → Fin (whole 1) ≤ₑ value_at dip u
    under u p = elim (le_or_lt (whole 1) u) [
      | inl q ↦ rw (dip_late u q) q
      | inr q ↦ rw (dip_early u (with2 t u (λ c. omega (arith, c.le, c.lt, c.same))) q) (with2 t u (λ c. omega (arith, c.le, c.lt, c.same)))
    ]

least_late : (t : ℚ) → whole 1 ≤ℚ t → IsRunningInfimum (value_at dip) t (Fin t)
least_late t h =
    let is = dip_late t h in
    subst (IsRunningInfimum (value_at dip) t) is
    (least_member {I = From t} (λ x. value_at dip x.at) record { at = t; least = le_refl t } (λ x.
    let u = x.at in
    let p = x.least in
    rw (is, dip_late u (with2 t u (λ c. omega (arith, c.le, c.lt, c.same)))) p))

-- a time before 1 at which 3 t is above y
pub close : (y : ℚ) → y <ℚ whole 3 → (s : ℚ) × (zero_q ≤ℚ s) × (s <ℚ whole 1) × (y <ℚ whole 3 *ℚ s)
close y l = elim (le_or_lt zero_q y) [
  | inr k ↦ (zero_q, le_refl zero_q, with1 zero_q (λ c. omega (arith, c.le, c.lt, c.same)), with1 y (λ c. omega (arith, c.le, c.lt, c.same)))
  | inl k ↦
      let third = y /ℚ whole 3 in
      let e : whole 3 *ℚ third ≡ y = mul_comm (whole 3) third ∙ div_mul y (whole 3) (not_zero (whole 3) (with1 (whole 3) (λ c. omega (arith, c.le, c.lt, c.same)))) in
      of third k e
]
  where
    of : (third : ℚ) → zero_q ≤ℚ y → whole 3 *ℚ third ≡ y → (s : ℚ) × (zero_q ≤ℚ s) × (s <ℚ whole 1) × (y <ℚ whole 3 *ℚ s)
    of third k e =
        let (s, p, q) = between third (whole 1) (with2 third y (λ c. omega (arith, c.le, c.lt, c.same))) in
        past s p q
      where
        past : (s : ℚ) → third <ℚ s → s <ℚ whole 1 → (s : ℚ) × (zero_q ≤ℚ s) × (s <ℚ whole 1) × (y <ℚ whole 3 *ℚ s)
        past s p q = (s, with3 third y s (λ c. omega (arith, c.le, c.lt, c.same)), q, with3 third y s (λ c. omega (arith, c.le, c.lt, c.same)))

-- from 1 to 3 the supremum is the limit 3 before 1
most_early : (t : ℚ) → whole 1 ≤ℚ t → t ≤ℚ whole 3 → IsRunningSupremum (value_at dip) t (Fin (whole 3))
most_early t h k = record {
  above = λ s. under s.at s.nonneg s.most;
  near = λ y l.
      let (s, p, q, r) = close y l in
      member y s p q r;
}
  where
    under : (s : ℚ) → zero_q ≤ℚ s → s ≤ℚ t → value_at dip s ≤ₑ Fin (whole 3)
    under s p q = elim (le_or_lt (whole 1) s) [
      | inl l ↦ rw (dip_late s l) (with2 s t (λ c. omega (arith, c.le, c.lt, c.same)))
      | inr l ↦ rw (dip_early s p l) (with1 s (λ c. omega (arith, c.le, c.lt, c.same)))
    ]

    member : (y s : ℚ) → zero_q ≤ℚ s → s <ℚ whole 1 → y <ℚ whole 3 *ℚ s → (u : UpTo t) × (Fin y <ₑ value_at dip u.at)
    member y s p q r = (record { at = s; nonneg = p; most = with2 s t (λ c. omega (arith, c.le, c.lt, c.same)) }, rw (dip_early s p q) r)

most_late : (t : ℚ) → whole 3 ≤ℚ t → IsRunningSupremum (value_at dip) t (Fin t)
most_late t h =
    let is = dip_late t (with1 t (λ c. omega (arith, c.le, c.lt, c.same))) in
    subst (IsRunningSupremum (value_at dip) t) is
    (largest_member {I = UpTo t} (λ s. value_at dip s.at) record { at = t; nonneg = with1 t (λ c. omega (arith, c.le, c.lt, c.same)); most = le_refl t } (λ s. rw is (under s.at s.nonneg s.most)))
  where
    under : (s : ℚ) → zero_q ≤ℚ s → s ≤ℚ t → value_at dip s ≤ₑ Fin t
    under s p q = elim (le_or_lt (whole 1) s) [
      | inl l ↦ rw (dip_late s l) q
      | inr l ↦ rw (dip_early s p l) (with2 s t (λ c. omega (arith, c.le, c.lt, c.same)))
    ]

-- at 1/2
least_half : IsRunningInfimum (value_at dip) (frac (pos 1) 1) (Fin (whole 1))
least_half = of (frac (pos 1) 1) half_twice
  where
    of : (h : ℚ) → whole 2 *ℚ h ≡ whole 1 → IsRunningInfimum (value_at dip) h (Fin (whole 1))
    of h e = least_early h (with1 h (λ c. omega (arith, c.le, c.lt, c.same))) (with1 h (λ c. omega (arith, c.le, c.lt, c.same))) (with1 h (λ c. omega (arith, c.le, c.lt, c.same)))

pub running_rows : RunningRows
running_rows = record {
  least_half = least_half;
  least_1 = least_late (whole 1) (le_refl (whole 1));
  least_2 = least_late (whole 2) (with1 (whole 2) (λ c. omega (arith, c.le, c.lt, c.same)));
  most_1 = most_early (whole 1) (le_refl (whole 1)) (with1 (whole 1) (λ c. omega (arith, c.le, c.lt, c.same)));
  most_2 = most_early (whole 2) (with1 (whole 2) (λ c. omega (arith, c.le, c.lt, c.same))) (with1 (whole 2) (λ c. omega (arith, c.le, c.lt, c.same)));
  most_4 = most_late (whole 4) (with1 (whole 4) (λ c. omega (arith, c.le, c.lt, c.same)));
}
