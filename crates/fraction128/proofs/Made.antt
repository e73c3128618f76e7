-- What `Frac::new` computes from its two numbers: the sizes, their greatest common divisor and the quotients.
use Rattle.std.specs.Prelude.{◌≡◌, ◌≢◌, ℕ, ◌*◌, ◌/◌, ◌<◌, ◌^◌, ℤ, pos, unsigned_abs}
use Rattle.std.proofs.Common.{arith, ap, ◌∙◌, refl, SFits, to_z, of_z, to_z-of_z}
use mir.Syntax.{w128}
use Rattle.std.proofs.lemmas.Int.{ints}
use native.Mathlib.Nat.{div-mul_cancel, div-le_self}
use Rattle.rational.specs.Gcd.{gcd}
use Rattle.rational.specs.Euclid.{gcd_is, gcd_pos}
use Rattle.rational.specs.Rational.{den}
use Rattle.rational.specs.Ratio.{ratio, with_sign, IsSmall}
use Rattle.rational.proofs.Parts.{ratio_parts, reduced_ratio, reduced_lowest, sign_abs, abs_some}
use Rattle.fraction128.specs.Parts.{AreLowest}
use Rattle.fraction128.proofs.Coprime.{factor_some}
use Rattle.fraction128.proofs.Values.{one_sign}

pub record Made (a b : ℤ) (s t g : ℕ) : Type 0 where
  pub nonzero : b ≢ pos 0
  pub top : s ≡ unsigned_abs a
  pub bottom : t ≡ unsigned_abs b
  pub common : g ≡ gcd (unsigned_abs a) (unsigned_abs b)
  pub some : 0 < g

pub made : (a b : ℤ) (s t g : ℕ) → SFits w128 a → SFits w128 b → (of_z w128 b ≡ 0 → ⊥)
    → s ≡ unsigned_abs (to_z w128 (of_z w128 a)) → t ≡ unsigned_abs (to_z w128 (of_z w128 b)) → g ≡ gcd s t → Made a b s t g
made a b s t g fa fb n p q r =
    let nonzero : b ≢ pos 0 = λ e. n (ap (of_z w128) e) in
    let top : s ≡ unsigned_abs a = p ∙ ap unsigned_abs (to_z-of_z fa) in
    let bottom : t ≡ unsigned_abs b = q ∙ ap unsigned_abs (to_z-of_z fb) in
    let common : g ≡ gcd (unsigned_abs a) (unsigned_abs b) = r ∙ ap (λ n. gcd n t) top ∙ ap (gcd (unsigned_abs a)) bottom in
    let at : 0 < gcd (unsigned_abs a) (unsigned_abs b) = gcd_pos (unsigned_abs a) (unsigned_abs b) (abs_some b nonzero) in
    record { nonzero = nonzero; top = top; bottom = bottom; common = common; some = rw common at }

-- the quotients
pub quotient_top : (a b : ℤ) (s t g : ℕ) → Made a b s t g → s / g * g ≡ unsigned_abs a
quotient_top a b s t g m = rw (m.top, m.common) (div-mul_cancel _ (gcd_is (unsigned_abs a) (unsigned_abs b)).0)

pub quotient_bottom : (a b : ℤ) (s t g : ℕ) → Made a b s t g → t / g * g ≡ unsigned_abs b
quotient_bottom a b s t g m = rw (m.bottom, m.common) (div-mul_cancel _ (gcd_is (unsigned_abs a) (unsigned_abs b)).1)

pub small_in : (a b : ℤ) (s t g : ℕ) → Made a b s t g → s / g < 2 ^ 127 → t / g < 2 ^ 127 → IsSmall (ratio a b)
small_in a b s t g m p q =
    let parts = ratio_parts a b m.nonzero in
    let top : unsigned_abs (ratio a b).num ≡ s / g = rw (m.top, m.common) parts.0 in
    let bottom : den (ratio a b) ≡ t / g = rw (m.bottom, m.common) parts.1 in
    record { top = omega arith; bottom = omega arith }

pub small_out : (a b : ℤ) (s t g : ℕ) → Made a b s t g → IsSmall (ratio a b) → (s / g < 2 ^ 127) × (t / g < 2 ^ 127)
small_out a b s t g m h =
    let parts = ratio_parts a b m.nonzero in
    let top : unsigned_abs (ratio a b).num ≡ s / g = rw (m.top, m.common) parts.0 in
    let bottom : den (ratio a b) ≡ t / g = rw (m.bottom, m.common) parts.1 in
    omega (arith, h)

pub bottom_some : (a b : ℤ) (s t g : ℕ) → Made a b s t g → 0 < t / g
bottom_some a b s t g m =
    factor_some (t / g) g (unsigned_abs b) (quotient_bottom a b s t g m) (abs_some b m.nonzero)

pub lowest_in : (a b : ℤ) (s t g : ℕ) (z : ℤ) → Made a b s t g → s / g < 2 ^ 127 → t / g < 2 ^ 127 → z ≡ with_sign a b (s / g) → AreLowest z (t / g)
lowest_in a b s t g z m p q e =
    let some = bottom_some a b s t g m in
    let low : gcd (unsigned_abs (with_sign a b (s / g))) (t / g) ≡ 1 = rw (m.top, m.bottom) (reduced_lowest a b g m.nonzero m.common) in
    let size : unsigned_abs (with_sign a b (s / g)) ≡ s / g = sign_abs a b (s / g) in
    rw e record { some = some; top = omega arith; bottom = q; lowest = low }

pub same_value : (a b : ℤ) (s t g : ℕ) (z : ℤ) → Made a b s t g → z ≡ with_sign a b (s / g) → ratio z (pos (t / g)) ≡ ratio a b
same_value a b s t g z m e =
    rw e (reduced_ratio a b (s / g) (t / g) g m.nonzero (quotient_top a b s t g m) (quotient_bottom a b s t g m))

-- ---- a numerator over a denominator that is not 0
over_made : (n : ℤ) (d s g : ℕ) → 0 < d → s ≡ unsigned_abs n → g ≡ gcd s d → Made n (pos d) s d g
over_made n d s g some p q = record {
  nonzero = λ e. omega (arith, ints, e, some);
  top = p;
  bottom = refl;
  common = q ∙ ap (λ k. gcd k d) p;
  some = rw q (gcd_pos s d some);
}

pub reduced_lowest_parts : (n : ℤ) (d s g : ℕ) (z : ℤ) → 0 < d → unsigned_abs n < 2 ^ 127 → d < 2 ^ 127 → s ≡ unsigned_abs n → g ≡ gcd s d → z ≡ with_sign n (pos 1) (s / g) → AreLowest z (d / g)
reduced_lowest_parts n d s g z some top bottom p q e =
    let m = over_made n d s g some p q in
    let x = div-le_self s g in
    let y = div-le_self d g in
    lowest_in n (pos d) s d g z m (omega arith) (omega arith) (e ∙ one_sign n d (s / g))

pub reduced_value : (n : ℤ) (d s g : ℕ) (z : ℤ) → 0 < d → s ≡ unsigned_abs n → g ≡ gcd s d → z ≡ with_sign n (pos 1) (s / g) → ratio z (pos (d / g)) ≡ ratio n (pos d)
reduced_value n d s g z some p q e = same_value n (pos d) s d g z (over_made n d s g some p q) (e ∙ one_sign n d (s / g))
