-- A fraction below 0 as far as another is above, and one over a fraction, from the numbers that it is made of.
use Rattle.std.specs.Prelude.{◌≡◌, ◌≢◌, ℕ, zero, suc, ◌<◌, ℤ, pos, negsuc, neg_ℤ, ◌-ℤ◌, unsigned_abs}
use Rattle.std.proofs.Common.{arith, sym, ap, ap₂, ◌∙◌, refl}
use Rattle.std.proofs.lemmas.Int.{ints}
use Rattle.rational.specs.Rational.{ℚ, neg_ℚ, inv_ℚ, ◌+ℚ◌, ◌-ℚ◌, ◌*ℚ◌, ◌/ℚ◌, turned}
use Rattle.rational.specs.Ratio.{ratio, with_sign}
use Rattle.rational.proofs.Parts.{abs_some, neg-abs, sign_abs}
use Rattle.rational.proofs.Over.{neg_over}
use Rattle.fraction128.specs.Parts.{AreLowest}
use Rattle.fraction128.proofs.Coprime.{coprime_turned}
use Rattle.fraction128.proofs.Values.{parts_of}

pub negated_value : (n : ℤ) (d : ℕ) (z : ℤ) (x : ℚ) → 0 < d → ratio n (pos d) ≡ x → z ≡ neg_ℤ n → ratio z (pos d) ≡ neg_ℚ x
negated_value n zero z x h p q = absurd (omega arith)
negated_value n (suc d) z x h p q = ap (λ k. ratio k (pos (suc d))) q ∙ sym (neg_over n d) ∙ ap neg_ℚ p

pub less_is : (n : ℤ) → pos 0 -ℤ n ≡ neg_ℤ n
less_is n = omega (arith, ints)

pub less_abs : (n : ℤ) (k : ℕ) → unsigned_abs n < k → unsigned_abs (pos 0 -ℤ n) < k
less_abs n k h = rw (less_is n, neg-abs n) h

-- the denominator with the numerator's sign, over the numerator's size
pub turned_lowest : (n : ℤ) (d : ℕ) → AreLowest n d → n ≢ pos 0 → AreLowest (with_sign n (pos 1) d) (unsigned_abs n)
turned_lowest n d h some =
    let size = sign_abs n (pos 1) d in
    record { some = abs_some n some; top = rw size h.bottom; bottom = h.top; lowest = rw size (coprime_turned (unsigned_abs n) d h.lowest) }

pub turned_value : (n : ℤ) (d : ℕ) (x : ℚ) → AreLowest n d → ratio n (pos d) ≡ x → n ≢ pos 0 → ratio (with_sign n (pos 1) d) (pos (unsigned_abs n)) ≡ inv_ℚ x
unfolding inv_ℚ
turned_value n d x h e some = let parts = parts_of n d x h e in go n d x.num x.pre parts.0 parts.1 some
  where
    go : (n : ℤ) (d : ℕ) (z : ℤ) (k : ℕ) → z ≡ n → suc k ≡ d → n ≢ pos 0 → ratio (with_sign n (pos 1) d) (pos (unsigned_abs n)) ≡ turned z k
    go (pos zero) d z k p q some = absurd (some refl)
    go (pos (suc n)) d z k p q some = rw (p, ← q) refl
    go (negsuc n) d z k p q some = rw (p, ← q) refl

-- a product with one over y is a quotient by y
pub quotient_is : (u v x y : ℚ) → u ≡ x → v ≡ inv_ℚ y → u *ℚ v ≡ x /ℚ y
unfolding ◌/ℚ◌
quotient_is u v x y p q = ap₂ (λ (i j : ℚ). i *ℚ j) p q

-- a sum with the negation of y is a difference from y
pub difference_is : (u v x y : ℚ) → u ≡ x → v ≡ neg_ℚ y → u +ℚ v ≡ x -ℚ y
unfolding ◌-ℚ◌
difference_is u v x y p q = ap₂ (λ (i j : ℚ). i +ℚ j) p q
