-- The kinds of curve that are affine are curves: in normal form and readable.
use Rattle.std.specs.Prelude.{◌≡◌, ℕ, ◌<◌, ◌/◌, ◌*◌, ◌^◌, ℤ, pos, ◌+ℤ◌, ◌*ℤ◌, nat_abs}
use Rattle.std.proofs.Common.{arith, sym, ap, ap₂, ◌∙◌, refl, subst}
use Rattle.std.proofs.lemmas.Int.{ints}
use native.Mathlib.Nat.{div-one}
use Rattle.rational.specs.Gcd.{gcd, gcd_steps}
use Rattle.rational.specs.Rational.{ℚ, int, frac, den}
use Rattle.rational.specs.Ratio.{IsSmall, SumFits, PartsFit}
use Rattle.rational.proofs.Laws.{mul_zero}
use Rattle.fraction128.proofs.Coprime.{gcd_one}
use Rattle.upp_curve.specs.Curves.{IsCurve}
use Rattle.upp_curve.specs.Kinds.{bucket}
use Rattle.upp_curve.specs.affine_segment.Fits.{LineFits}
use Rattle.upp_curve.proofs.ByTail.{bucket_normal}

-- ---- a sum with 0 fits
parts_with_zero : (n : ℤ) (d : ℕ) → nat_abs n < 2 ^ 127 → d < 2 ^ 127 → PartsFit n d (pos 0) 1
parts_with_zero n d h k = record {
  left = subst (λ z. nat_abs z < 2 ^ 127) (sym same) h;
  right = subst (λ z. nat_abs z < 2 ^ 127) (sym none) (omega arith);
  sum = subst (λ z. nat_abs z < 2 ^ 127) (ap₂ (λ (x y : ℤ). x +ℤ y) (sym same) (sym none)) (subst (λ z. nat_abs z < 2 ^ 127) more h);
  bottom = subst (λ z. d / z * 1 < 2 ^ 127) (sym one) (let e : d / 1 ≡ d = div-one d in omega arith);
}
  where
    one : gcd d 1 ≡ 1
    one = gcd_one d

    same : n *ℤ pos (1 / gcd d 1) ≡ n
    same = ap (λ g. n *ℤ pos (1 / g)) one ∙ times_one n
      where
        times_one : (n : ℤ) → n *ℤ pos 1 ≡ n
        times_one n = omega (arith, ints)

    none : pos 0 *ℤ pos (d / gcd d 1) ≡ pos 0
    none = ap pos (omega arith)

    more : n ≡ n +ℤ pos 0
    more = omega (arith, ints)

pub zero_num : (int (pos 0)).num ≡ pos 0
unfolding frac gcd gcd_steps
zero_num = refl

pub zero_den : den (int (pos 0)) ≡ 1
unfolding frac gcd gcd_steps
zero_den = refl

sum_with_zero : (x : ℚ) → IsSmall x → SumFits x (int (pos 0))
sum_with_zero x h = rw (zero_num, zero_den) (parts_with_zero x.num (den x) h.top h.bottom)

pub zero_small : IsSmall (int (pos 0))
zero_small = record { top = rw zero_num (omega arith); bottom = rw zero_den (omega arith) }

-- a line is readable at 0
at_zero : (k r : ℚ) → IsSmall k → LineFits (int (pos 0)) record { icept = k; slope = r }
at_zero k r h =
    let z = mul_zero r in
    record { product = rw z zero_small; sum = rw z (sum_with_zero k h) }

pub bucket_curve : (b r : ℚ) → IsSmall b → IsCurve (bucket b r)
bucket_curve b r h = record { normal = bucket_normal b r; readable = (at_zero b r h, tt, tt) }
