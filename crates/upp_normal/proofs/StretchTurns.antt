-- A time past the rank of a periodic tail, as one of the first period: the value there and how it goes on.
use Rattle.std.specs.Prelude.{◌≡◌, ℕ, pos, ◌⊎◌}
use Rattle.std.proofs.Common.{arith, sym, ap, ◌∙◌, refl, subst, inl, inr}
use Rattle.rational.specs.Rational.{ℚ, ◌+ℚ◌, ◌-ℚ◌, ◌*ℚ◌, ◌/ℚ◌, ◌≤ℚ◌, ◌<ℚ◌, int}
use Rattle.rational.specs.Whole.{periods, whole_part}
use Rattle.rational.specs.Extended.{Ext, ◌+ₑ◌}
use Rattle.rational.specs.declared.Extended.TheVariants.{Fin}
use Rattle.rational.proofs.Linear.{with1, with2, with3, with4}
use Rattle.rational.proofs.Laws.{le_or_lt, le_trans, le_of_lt, mul_nonneg, zero_mul}
use Rattle.rational.proofs.Whole.{periods_small, periods_low, periods_high, periods_unique}
use Rattle.rational.proofs.Integers.{nat_nonneg}
use Rattle.upp_curve.specs.Curve.{repeated}

-- ---- how many periods
-- the time in the first period: from 0 on, at the time or before it, before the period's end, and not before the rank once a period is taken off
pub record Turned (rank period t : ℚ) (n : ℕ) : Type 0 where
  pub low : int (pos 0) ≤ℚ t -ℚ int (pos n) *ℚ period
  pub by : int (pos 0) ≤ℚ int (pos n) *ℚ period
  pub at_most : int (pos n) *ℚ period ≤ℚ t
  pub high : t -ℚ int (pos n) *ℚ period <ℚ rank +ℚ period
  pub past : (n ≡ 0) ⊎ (rank ≤ℚ t -ℚ int (pos n) *ℚ period)

pub turned : (rank period t : ℚ) → int (pos 0) ≤ℚ rank → int (pos 0) <ℚ period → int (pos 0) ≤ℚ t → Turned rank period t (periods rank period t)
turned rank period t r some h = elim (le_or_lt rank t) [
  | inl l ↦ late l
  | inr l ↦ subst (Turned rank period t) (sym (periods_small rank period t some (with3 rank period t (λ c. omega (arith, c.le, c.lt, c.same))))) (early l)
]
  where
    late : rank ≤ℚ t → Turned rank period t (periods rank period t)
    late l =
        let n = periods rank period t in
        let y = int (pos n) *ℚ period in
        let low = periods_low rank period t some l in
        let high = periods_high rank period t some in
        let by : int (pos 0) ≤ℚ y = mul_nonneg (nat_nonneg n) (le_of_lt some) in
        record {
          low = with3 rank y t (λ c. omega (arith, c.le, c.lt, c.same));
          by = by;
          at_most = with3 rank y t (λ c. omega (arith, c.le, c.lt, c.same));
          high = with4 rank period y t (λ c. omega (arith, c.le, c.lt, c.same));
          past = inr (with3 rank y t (λ c. omega (arith, c.le, c.lt, c.same)));
        }

    early : t <ℚ rank → Turned rank period t 0
    early l =
        let y = int (pos 0) *ℚ period in
        let e : y ≡ int (pos 0) = zero_mul period in
        record {
          low = with2 y t (λ c. omega (arith, c.le, c.lt, c.same));
          by = with1 y (λ c. omega (arith, c.le, c.lt, c.same));
          at_most = with2 y t (λ c. omega (arith, c.le, c.lt, c.same));
          high = with4 rank period y t (λ c. omega (arith, c.le, c.lt, c.same));
          past = inl refl;
        }

-- up to the end of its period a later time has as many periods
pub same_turn : (rank period t u : ℚ) → int (pos 0) <ℚ period → t ≤ℚ u → u <ℚ rank +ℚ period +ℚ int (pos (periods rank period t)) *ℚ period
    → periods rank period u ≡ periods rank period t
same_turn rank period t u some h k = elim (le_or_lt rank t) [
  | inl l ↦
      let y = int (pos (periods rank period t)) *ℚ period in
      let low = periods_low rank period t some l in
      periods_unique rank period u (periods rank period t) some (le_trans low h) (with4 rank period y u (λ c. omega (arith, c.le, c.lt, c.same)))
  | inr l ↦ small (periods rank period t) (periods_small rank period t some (with3 rank period t (λ c. omega (arith, c.le, c.lt, c.same)))) k
]
  where
    small : (n : ℕ) → n ≡ 0 → u <ℚ rank +ℚ period +ℚ int (pos n) *ℚ period → periods rank period u ≡ n
    small n e k =
        let y = int (pos n) *ℚ period in
        let z : y ≡ int (pos 0) = ap (λ m. int (pos m) *ℚ period) e ∙ zero_mul period in
        periods_small rank period u some (with4 rank period y u (λ c. omega (arith, c.le, c.lt, c.same))) ∙ sym e

-- ---- the value
pub repeated_at : (f : ℚ → Ext) (rank period rise u : ℚ) (n : ℕ) → periods rank period u ≡ n → repeated f rank period rise u ≡ f (u -ℚ int (pos n) *ℚ period) +ₑ Fin (int (pos n) *ℚ rise)
unfolding repeated
repeated_at f rank period rise u n e = ap (λ m. f (u -ℚ int (pos m) *ℚ period) +ₑ Fin (int (pos m) *ℚ rise)) e

-- as it is reckoned
pub count_is : (rank period t past ratio n : ℚ) → past ≡ t -ℚ rank → ratio ≡ past /ℚ period → n ≡ int (pos (whole_part ratio)) → n ≡ int (pos (periods rank period t))
unfolding periods
count_is rank period t past ratio n e f g = g ∙ ap (λ x. int (pos (whole_part x))) (f ∙ ap (λ (x : ℚ). x /ℚ period) e)
