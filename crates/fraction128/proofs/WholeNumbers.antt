-- Values whose denominators are 1: their sums and products are those of their numerators, l and r.
use Rattle.std.specs.Prelude.{◌≡◌, ◌<◌, ◌^◌, ℕ, ℤ, ◌+ℤ◌, ◌*ℤ◌, unsigned_abs}
use Rattle.std.proofs.Common.{arith, sym, ap, ap₂, ◌∙◌, subst, inl, inr, SFits, to_z, of_z, to_z-of_z}
use Rattle.std.proofs.lemmas.Bool.{cases_lt}
use Rattle.std.proofs.lemmas.Int.{fits_signed_from_abs}
use mir.Syntax.{w128}
use Rattle.rational.specs.Rational.{ℚ, den, frac, int, ◌+ℚ◌, ◌*ℚ◌}
use Rattle.rational.specs.Fractions.{frac_self}
use Rattle.rational.specs.Ratio.{IsSmall, SumFits}
use Rattle.rational.proofs.Integers.{int_add, int_mul}
use Rattle.rational.proofs.Parts.{lowest_parts}
use Rattle.fraction128.proofs.Coprime.{gcd_one}
use Rattle.fraction128.proofs.Added.{whole_wide}

-- l is the numerator of a whole number
pub record IsWhole (x : ℚ) (l : ℤ) : Type 0 where
  pub value : l ≡ x.num
  pub fits : SFits w128 l
  pub one : den x ≡ 1

pub is_whole : {x : ℚ} {l : ℤ} {d : ℕ} → l ≡ x.num → unsigned_abs l < 2 ^ 127 → d ≡ den x → d ≡ 1 → IsWhole x l
is_whole {x} {l} {d} value size is one = record { value = value; fits = fits_signed_from_abs w128 l size; one = sym is ∙ one }

whole_is : (x : ℚ) → den x ≡ 1 → x ≡ int x.num
whole_is x h =
    let none : x.pre ≡ 0 = omega arith in
    frac_self x ∙ ap (λ k. frac x.num k) none

pub whole_sum : {x y : ℚ} {l r : ℤ} → IsWhole x l → IsWhole y r → int (l +ℤ r) ≡ x +ℚ y
whole_sum {x} {y} {l} {r} a b =
    rw (a.value, b.value) (sym (ap₂ (λ (i j : ℚ). i +ℚ j) (whole_is x a.one) (whole_is y b.one) ∙ int_add x.num y.num))

pub whole_sum_small : {x y : ℚ} {l r : ℤ} → IsWhole x l → IsWhole y r → SumFits x y → unsigned_abs (l +ℤ r) < 2 ^ 127
whole_sum_small {x} {y} {l} {r} a b fit = elim (cases_lt (unsigned_abs (l +ℤ r)) (2 ^ 127)) [
  | inl h ↦ h
  | inr h ↦ absurd (whole_wide x.num y.num (den x) (den y) a.one b.one (rw (← a.value, ← b.value) h) fit)
]

pub whole_product : {x y : ℚ} {l r : ℤ} → IsWhole x l → IsWhole y r → int (l *ℤ r) ≡ x *ℚ y
whole_product {x} {y} {l} {r} a b =
    rw (a.value, b.value) (sym (ap₂ (λ (i j : ℚ). i *ℚ j) (whole_is x a.one) (whole_is y b.one) ∙ int_mul x.num y.num))

pub whole_product_small : {x y : ℚ} {l r : ℤ} → IsWhole x l → IsWhole y r → IsSmall (x *ℚ y) → unsigned_abs (l *ℤ r) < 2 ^ 127
whole_product_small {x} {y} {l} {r} a b small =
    let z = l *ℤ r in
    let top : (x *ℚ y).num ≡ z = ap (λ (w : ℚ). w.num) (sym (whole_product a b)) ∙ (lowest_parts z 0 (gcd_one (unsigned_abs z))).0 in
    subst (λ (n : ℤ). unsigned_abs n < 2 ^ 127) top small.top

-- ---- what the code computes: an integer that is written and read again
abbrev pub kept : ℤ → ℤ
kept z = to_z w128 (of_z w128 z)

-- the result of both, where it fits
pub both_fit : (f : ℤ → ℤ → ℤ) {x y : ℚ} {l r : ℤ} → IsWhole x l → IsWhole y r → unsigned_abs (f l r) < 2 ^ 127 → SFits w128 (f (kept l) (kept r))
both_fit f {x} {y} {l} {r} a b small = rw (to_z-of_z a.fits, to_z-of_z b.fits) (fits_signed_from_abs w128 (f l r) small)

pub both_kept : (f : ℤ → ℤ → ℤ) {x y : ℚ} {l r : ℤ} → IsWhole x l → IsWhole y r → unsigned_abs (f l r) < 2 ^ 127
    → kept (f (kept l) (kept r)) ≡ f l r
both_kept f {x} {y} {l} {r} a b small =
    to_z-of_z (both_fit f a b small) ∙ ap₂ f (to_z-of_z a.fits) (to_z-of_z b.fits)
