-- A fraction's value and the numbers that it is made of.
use Rattle.std.specs.Prelude.{◌≡◌, ◌≢◌, ℕ, zero, suc, ◌<◌, ◌^◌, ◌↔◌, ℤ, pos, negsuc, ◌<ℤ◌, unsigned_abs}
use Rattle.std.proofs.Common.{arith, sym, ap, ap₂, ◌∙◌, refl, subst, SFits, to_z, of_z, to_z-of_z, ◌≤◌, inl, inr}
use Rattle.std.proofs.lemmas.Bool.{cases_lt}
use Rattle.std.proofs.lemmas.Int.{fits_signed_from_abs}
use mir.Syntax.{w128}
use native.Mathlib.Nat.{zero-lt-suc}
use Rattle.rational.specs.Fractions.{frac_self}
use Rattle.rational.specs.Gcd.{gcd}
use Rattle.rational.specs.Rational.{ℚ, den, int, ◌<ℚ◌}
use Rattle.rational.specs.Ratio.{ratio, with_sign, IsSmall}
use Rattle.rational.proofs.Laws.{num_some as num_some_q, num_pos}
use Rattle.rational.proofs.Parts.{lowest_parts}
use Rattle.fraction128.specs.Parts.{AreLowest}
use Rattle.fraction128.proofs.Coprime.{gcd_one}

-- a value's parts are the numbers that it is made of in lowest terms, of any size
pub value_parts : (n : ℤ) (d : ℕ) (x : ℚ) → 0 < d → gcd (unsigned_abs n) d ≡ 1 → ratio n (pos d) ≡ x → (x.num ≡ n) × (den x ≡ d)
value_parts n zero x some h e = absurd (omega arith)
value_parts n (suc d) x some h e =
    let parts = lowest_parts n d h in
    (ap (λ y. y.num) (sym e) ∙ parts.0, ap (λ y. den y) (sym e) ∙ ap suc parts.1)

pub parts_of : (n : ℤ) (d : ℕ) (x : ℚ) → AreLowest n d → ratio n (pos d) ≡ x → (x.num ≡ n) × (den x ≡ d)
parts_of n d x h e = value_parts n d x h.some h.lowest e

pub small_of : (n : ℤ) (d : ℕ) (x : ℚ) → AreLowest n d → ratio n (pos d) ≡ x → IsSmall x
small_of n d x h e =
    let parts = parts_of n d x h e in
    record { top = rw parts.0 h.top; bottom = rw parts.1 h.bottom }

pub whole_lowest : (n : ℤ) → unsigned_abs n < 2 ^ 127 → AreLowest n 1
whole_lowest n h = record { some = omega arith; top = h; bottom = omega arith; lowest = gcd_one (unsigned_abs n) }

-- a value's numbers are in lowest terms, and make it
pub parts_lowest : (x : ℚ) (n : ℤ) (d : ℕ) → n ≡ x.num → d ≡ den x → unsigned_abs n < 2 ^ 127 → d < 2 ^ 127 → AreLowest n d
parts_lowest x n d e f p q = record { some = rw f (zero-lt-suc x.pre); top = p; bottom = q; lowest = rw (e, f) x.lowest }

pub parts_value : (x : ℚ) (n : ℤ) (d : ℕ) → n ≡ x.num → d ≡ den x → ratio n (pos d) ≡ x
parts_value x n d e f = ap₂ (λ (i : ℤ) (j : ℕ). ratio i (pos j)) e f ∙ sym (frac_self x)

-- one value, one pair of numbers
pub same_fields : (n m : ℤ) (d e : ℕ) (x y : ℚ) → AreLowest n d → AreLowest m e → ratio n (pos d) ≡ x → ratio m (pos e) ≡ y → ((n ≡ m) × (d ≡ e)) ↔ (x ≡ y)
same_fields n m d e x y h k p q =
    let u = parts_of n d x h p in
    let v = parts_of m e y k q in (
      λ s. sym p ∙ ap₂ (λ (i : ℤ) (j : ℕ). ratio i (pos j)) s.0 s.1 ∙ q,
      λ s. (sym u.0 ∙ ap (λ z. z.num) s ∙ v.0, sym u.1 ∙ ap (λ z. den z) s ∙ v.1),
    )

-- the sign of t over a denominator, which is above 0
pub one_sign : (t : ℤ) (m n : ℕ) → with_sign t (pos 1) n ≡ with_sign t (pos m) n
one_sign (pos t) m n = refl
one_sign (negsuc t) m n = refl

-- what is not 0 has a numerator that is not 0, and what is above 0 one above 0
pub num_some : (n : ℤ) (d : ℕ) (x : ℚ) → AreLowest n d → ratio n (pos d) ≡ x → x ≢ int (pos 0) → n ≢ pos 0
num_some n d x h e some p = num_some_q x some ((parts_of n d x h e).0 ∙ p)

pub num_above : (n : ℤ) (d : ℕ) (x : ℚ) → AreLowest n d → ratio n (pos d) ≡ x → int (pos 0) <ℚ x → pos 0 <ℤ n
num_above n d x h e l = subst (λ z. pos 0 <ℤ z) (parts_of n d x h e).0 (num_pos x l)

-- the numerator is one of the code's numbers
pub num_fits : {n : ℤ} {d : ℕ} → AreLowest n d → SFits w128 n
num_fits {n} h = fits_signed_from_abs w128 n h.top

-- what is none of the code's signed numbers is too wide
pub unfit_abs : (z : ℤ) → ¬ (SFits w128 z) → 2 ^ 127 ≤ unsigned_abs z
unfit_abs z h = elim (cases_lt (unsigned_abs z) (2 ^ 127)) [
  | inl l ↦ absurd (h (fits_signed_from_abs w128 z l))
  | inr l ↦ l
]

-- a value from its numbers as the code stores them
pub stored_value : {n : ℤ} {d : ℕ} {x : ℚ} → AreLowest n d → ratio n (pos d) ≡ x → ratio (to_z w128 (of_z w128 n)) (pos d) ≡ x
stored_value {n} {d} h e = ap (λ z. ratio z (pos d)) (to_z-of_z (num_fits h)) ∙ e
