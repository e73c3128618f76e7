-- A rate with a debt: it never falls, and how two compare; less a line, and a share of it, are again one.
use Rattle.std.specs.Prelude.{◌≡◌}
use Rattle.std.proofs.Common.{arith, sym, ap, ◌∙◌, inl, inr}
use Rattle.rational.specs.Rational.{ℚ, ◌+ℚ◌, ◌-ℚ◌, ◌*ℚ◌, ◌≤ℚ◌}
use Rattle.rational.specs.MinMax.{max_q}
use Rattle.rational.specs.declared.Extended.TheVariants.{Fin}
use Rattle.rational.proofs.Laws.{le_refl, le_or_lt, le_of_lt, mul_le_mul, mul_le_mul_right, mul_nonneg, mul_sub, sub_mul, mul_zero, mul_assoc}
use Rattle.rational.proofs.Linear.{with2, with3, with4, with5}
use Rattle.rational.proofs.MinMax.{max_q_right, max_q_left, max_q_is_left, max_q_mono}
use Rattle.min_plus.specs.Functions.{zero_q}
use Rattle.min_plus.specs.Formulas.{bucket_value}
use Rattle.min_plus.specs.Pointwise.{excess, scaled}
use Rattle.residual_laws.specs.lines.RateDebt.{rate_debt_value, RateDebtRises, RateDebtsCompare, LinesCompare}

-- ---- shapes
pub rises : RateDebtRises
rises rate debt on s t low l =
    let more = mul_le_mul rate on l in
    max_q_mono zero_q (rate *ℚ s -ℚ debt) zero_q (rate *ℚ t -ℚ debt) (le_refl zero_q)
    (with3 (rate *ℚ s) (rate *ℚ t) debt (λ c. omega (arith, c.le, c.lt, c.same)))

pub compare : RateDebtsCompare
compare rate debt slower greater slow great t on =
    let less = mul_le_mul_right t on slow in
    max_q_mono zero_q (slower *ℚ t -ℚ greater) zero_q (rate *ℚ t -ℚ debt) (le_refl zero_q)
    (with4 (slower *ℚ t) (rate *ℚ t) debt greater (λ c. omega (arith, c.le, c.lt, c.same)))

pub lines : LinesCompare
lines burst rate greater faster low slow t on =
    let less = mul_le_mul_right t on slow in
    with4 burst greater (rate *ℚ t) (faster *ℚ t) (λ c. omega (arith, c.le, c.lt, c.same))

-- ---- less, and at least 0
-- what is taken off at least 0 may as well be taken off before
taken_twice : (x h : ℚ) → zero_q ≤ℚ h → max_q zero_q (max_q zero_q x -ℚ h) ≡ max_q zero_q (x -ℚ h)
taken_twice x h on = elim (le_or_lt zero_q x) [
  | inl l ↦ ap (λ (y : ℚ). max_q zero_q (y -ℚ h)) (max_q_right zero_q x l)
  | inr l ↦
      ap (λ (y : ℚ). max_q zero_q (y -ℚ h)) (max_q_left zero_q x l)
      ∙ max_q_is_left zero_q (zero_q -ℚ h) (with2 h zero_q (λ c. omega (arith, c.le, c.lt, c.same)))
      ∙ sym (max_q_is_left zero_q (x -ℚ h) (with3 x h zero_q (λ c. omega (arith, c.le, c.lt, c.same))))
]

-- a rate with a debt less a line
pub less_line : (rate debt burst other t : ℚ) → zero_q ≤ℚ burst +ℚ other *ℚ t
    → excess (rate_debt_value rate debt t) (bucket_value burst other t) ≡ rate_debt_value (rate -ℚ other) (debt +ℚ burst) t
less_line rate debt burst other t on =
    ap Fin (taken_twice (rate *ℚ t -ℚ debt) (burst +ℚ other *ℚ t) on
    ∙ ap (max_q zero_q) (joined (rate *ℚ t) (other *ℚ t) debt burst ((rate -ℚ other) *ℚ t) (sub_mul rate other t)))
  where
    joined : (a b d u x : ℚ) → x ≡ a -ℚ b → (a -ℚ d) -ℚ (u +ℚ b) ≡ x -ℚ (d +ℚ u)
    joined a b d u x e = with5 a b d u x (λ c. omega (arith, c.le, c.lt, c.same))

-- and less a number
pub less_bits : (rate debt bits t : ℚ) → zero_q ≤ℚ bits
    → excess (rate_debt_value rate debt t) (Fin bits) ≡ rate_debt_value rate (debt +ℚ bits) t
less_bits rate debt bits t on =
    ap Fin (taken_twice (rate *ℚ t -ℚ debt) bits on
    ∙ ap (max_q zero_q) (with3 (rate *ℚ t) debt bits (λ c. omega (arith, c.le, c.lt, c.same))))

-- a share
times_greater : (part x : ℚ) → zero_q ≤ℚ part → part *ℚ max_q zero_q x ≡ max_q zero_q (part *ℚ x)
times_greater part x on = elim (le_or_lt zero_q x) [
  | inl l ↦ ap (λ (y : ℚ). part *ℚ y) (max_q_right zero_q x l) ∙ sym (max_q_right zero_q (part *ℚ x) (mul_nonneg on l))
  | inr l ↦
      let low = mul_le_mul part on (le_of_lt l) in
      let none = mul_zero part in
      ap (λ (y : ℚ). part *ℚ y) (max_q_left zero_q x l) ∙ none
      ∙ sym (max_q_is_left zero_q (part *ℚ x) (with2 (part *ℚ x) (part *ℚ zero_q) (λ c. omega (arith, c.le, c.lt, c.same))))
]

pub share_of_rate : (part rate debt t : ℚ) → zero_q ≤ℚ part
    → scaled part (rate_debt_value rate debt t) ≡ rate_debt_value (part *ℚ rate) (part *ℚ debt) t
share_of_rate part rate debt t on =
    ap Fin (times_greater part (rate *ℚ t -ℚ debt) on
    ∙ ap (max_q zero_q) (mul_sub part (rate *ℚ t) debt ∙ ap (λ (y : ℚ). y -ℚ part *ℚ debt) (sym (mul_assoc part rate t))))
