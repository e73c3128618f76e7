-- Times of so many seconds over so many: each time is one, and they come in the order of the fractions.
use Rattle.std.specs.Prelude.{◌≡◌, ℕ, zero, suc, pos, nat_abs, ◌*◌, ◌^◌, ◌<◌, ◌≤◌}
use Rattle.std.proofs.Common.{arith, sym, ap, ◌∙◌, refl, subst, inl, inr}
use Rattle.std.proofs.lemmas.Bool.{cases_lt}
use Rattle.std.proofs.lemmas.Int.{ints}
use Rattle.rational.specs.Rational.{ℚ, frac, ◌*ℚ◌, ◌≤ℚ◌, ◌<ℚ◌}
use Rattle.rational.specs.Fractions.{frac-same}
use Rattle.rational.proofs.Over.{mul_frac}
use Rattle.rational.proofs.Laws.{nonneg_frac, mul_comm, mul_assoc, mul_le_mul, le_of_mul, le_or_lt, lt_le_trans, lt_irrefl, mul_zero}
use Rattle.min_plus.specs.Functions.{zero_q, whole}
use Rattle.arrival_lines.specs.Grid.{grain, grain_a_second, bits, speed}
use Rattle.arrival_lines.proofs.Units.{bits_le, bits_lt, bits_times, speed_times, speed_nonneg, speed_some}
use Rattle.arrival_heights.proofs.Scaled.{IsAt}

-- ---- each time is one
-- a million grains a second are a grain a microsecond
million : speed (10 ^ 6) ≡ grain
unfolding speed grain grain_a_second
million = mul_frac (pos (10 ^ 6)) 0 (pos 1) 1023999999 ∙ frac-same _ _ _ _ refl

swapped : (a g t : ℚ) → (a *ℚ g) *ℚ t ≡ (t *ℚ a) *ℚ g
swapped a g t = mul_comm (a *ℚ g) t ∙ sym (mul_assoc t a g)

over_fraction : (n d : ℕ) → frac (pos n) d *ℚ whole (suc d) ≡ whole n
over_fraction n d = mul_frac (pos n) d (pos (suc d)) 0 ∙ frac-same _ _ _ _ (omega (arith, ints))

of_fraction : (n d : ℕ) (t : ℚ) → t ≡ frac (pos n) d → speed (suc d * 10 ^ 6) *ℚ t ≡ bits n
unfolding bits
of_fraction n d t e =
    ap (λ y. y *ℚ t) (sym (speed_times (suc d) (10 ^ 6)) ∙ ap (λ y. whole (suc d) *ℚ y) million) ∙ swapped (whole (suc d)) grain t
    ∙ ap (λ y. y *ℚ grain) (ap (λ y. y *ℚ whole (suc d)) e ∙ over_fraction n d)

pub record IsInstant (t : ℚ) : Type 0 where
  pub over : ℕ
  pub under : ℕ
  pub at : IsAt over under t

pub instant_of : (t : ℚ) → zero_q ≤ℚ t → IsInstant t
instant_of t on = record {
  over = nat_abs t.num;
  under = suc t.pre * 10 ^ 6;
  at = record { some = omega arith; is = of_fraction (nat_abs t.num) t.pre t (nonneg_frac t on) };
}

-- ---- in order
wider : (a m u : ℕ) (s : ℚ) → IsAt a m s → speed (u * m) *ℚ s ≡ bits (u * a)
wider a m u s at = ap (λ y. y *ℚ s) (sym (speed_times u m)) ∙ mul_assoc (whole u) (speed m) s ∙ ap (λ y. whole u *ℚ y) at.is ∙ bits_times u a

narrower : (o u m : ℕ) (t : ℚ) → IsAt o u t → speed (u * m) *ℚ t ≡ bits (m * o)
narrower o u m t at = let e : u * m ≡ m * u = omega arith in ap (λ n. speed n *ℚ t) e ∙ wider o u m t at

product_some : (a b : ℕ) → 0 < a → 0 < b → 0 < a * b
product_some zero b h l = absurd (omega (arith, h))
product_some (suc a) zero h l = absurd (omega (arith, l))
product_some (suc a) (suc b) h l = omega arith

pub at_le : (a m o u : ℕ) (s t : ℚ) → IsAt a m s → IsAt o u t → a * u ≤ o * m → s ≤ℚ t
at_le a m o u s t one other h =
    le_of_mul (speed (u * m)) s t (speed_some (u * m) (product_some u m other.some one.some))
    (rw (mul_comm s (speed (u * m)), mul_comm t (speed (u * m)), wider a m u s one, narrower o u m t other) (bits_le (u * a) (m * o) (omega (arith, h))))

pub at_le_out : (a m o u : ℕ) (s t : ℚ) → IsAt a m s → IsAt o u t → s ≤ℚ t → a * u ≤ o * m
at_le_out a m o u s t one other h = elim (cases_lt (o * m) (a * u)) [
  | inr l ↦ l
  | inl l ↦
      let k = mul_le_mul (speed (u * m)) (speed_nonneg (u * m)) h in
      let n : bits (u * a) ≤ℚ bits (m * o) = subst (λ y. y ≤ℚ bits (m * o)) (wider a m u s one) (subst (λ y. speed (u * m) *ℚ s ≤ℚ y) (narrower o u m t other) k) in
      absurd (lt_irrefl (bits (m * o)) (lt_le_trans (bits_lt (m * o) (u * a) (omega (arith, l))) n))
]

pub at_lt : (a m o u : ℕ) (s t : ℚ) → IsAt a m s → IsAt o u t → a * u < o * m → s <ℚ t
at_lt a m o u s t one other h = elim (le_or_lt t s) [
  | inr l ↦ l
  | inl l ↦ let k = at_le_out o u a m t s other one l in absurd (omega (arith, h, k))
]

pub at_zero : IsAt 0 1 zero_q
unfolding bits
at_zero = record { some = omega arith; is = mul_zero (speed 1) ∙ sym (mul_comm (whole 0) grain ∙ mul_zero grain) }
