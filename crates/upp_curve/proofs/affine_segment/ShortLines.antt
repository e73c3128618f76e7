-- The value of a line over the product of its denominators, and how large its parts are.
use Rattle.std.specs.Prelude.{◌≡◌, ℕ, suc, ◌+◌, ◌*◌, ◌≤◌, ◌^◌, ℤ, pos, negsuc, ◌+ℤ◌, ◌*ℤ◌, unsigned_abs}
use Rattle.std.proofs.Common.{arith, sym, ap, ap₂, ◌∙◌, inl, inr}
use Rattle.std.proofs.lemmas.Bool.{cases_lt}
use Rattle.std.proofs.lemmas.Int.{ints, unsigned_abs-mul}
use native.Mathlib.Nat.{mul-le-mul_left, mul-le-mul_right}
use Rattle.rational.specs.Rational.{ℚ, den, both, frac, ◌+ℚ◌, ◌*ℚ◌}
use Rattle.rational.specs.Fractions.{frac_self}
use Rattle.rational.specs.Ratio.{ratio}
use Rattle.rational.proofs.Over.{both_is, add_frac}
use Rattle.upp_curve.specs.declared.affine_segment.line.Line.{Line}
use Rattle.upp_curve.specs.affine_segment.Values.{line_at}
use Rattle.upp_curve.specs.affine_segment.Short.{HasShortParts, LineHasShortParts}

-- ---- sizes
pub product_size : (a b : ℤ) (m n : ℕ) → unsigned_abs a ≤ m → unsigned_abs b ≤ n → unsigned_abs (a *ℤ b) ≤ m * n
product_size a b m n h k =
    let x : unsigned_abs a * unsigned_abs b ≤ m * unsigned_abs b = mul-le-mul_right (unsigned_abs b) h in
    let y : m * unsigned_abs b ≤ m * n = mul-le-mul_left m k in
    rw (unsigned_abs-mul a b) (omega (arith, x, y))

pub sum_size : (a b : ℤ) → unsigned_abs (a +ℤ b) ≤ unsigned_abs a + unsigned_abs b
sum_size (pos m) (pos n) = omega (arith, ints)
sum_size (pos m) (negsuc n) = elim (cases_lt m (suc n)) [ inl h ↦ omega (arith, ints, h) | inr h ↦ omega (arith, ints, h) ]
sum_size (negsuc m) (pos n) = elim (cases_lt m n) [ inl h ↦ omega (arith, ints, h) | inr h ↦ omega (arith, ints, h) ]
sum_size (negsuc m) (negsuc n) = omega (arith, ints)

-- of the steps to the value over the product of the denominators
pub record StepsFit (l : Line) (t : ℚ) : Type 0 where
  pub over : unsigned_abs (pos (den l.slope) *ℤ pos (den t)) ≤ 2 ^ 40
  pub run : unsigned_abs (l.slope.num *ℤ t.num) ≤ 2 ^ 80
  pub start : unsigned_abs (l.icept.num *ℤ (pos (den l.slope) *ℤ pos (den t))) ≤ 2 ^ 80
  pub risen : unsigned_abs ((l.slope.num *ℤ t.num) *ℤ pos (den l.icept)) ≤ 2 ^ 100
  pub under : unsigned_abs (pos (den l.icept) *ℤ (pos (den l.slope) *ℤ pos (den t))) ≤ 2 ^ 60

pub steps_fit : (l : Line) (t : ℚ) → LineHasShortParts l → HasShortParts t → StepsFit l t
steps_fit l t h k =
    let it = h.0.top in
    let ib = h.0.bottom in
    let st = h.1.top in
    let sb = h.1.bottom in
    let tt' = k.top in
    let tb = k.bottom in
    let over = product_size (pos (den l.slope)) (pos (den t)) (2 ^ 20) (2 ^ 20) (omega (arith, sb)) (omega (arith, tb)) in
    let run = product_size l.slope.num t.num (2 ^ 40) (2 ^ 40) (omega (arith, st)) (omega (arith, tt')) in
    record {
      over = omega (arith, over);
      run = omega (arith, run);
      start = let m = product_size l.icept.num (pos (den l.slope) *ℤ pos (den t)) (2 ^ 40) (2 ^ 40) (omega (arith, it)) (omega (arith, over)) in omega (arith, m);
      risen = let m = product_size (l.slope.num *ℤ t.num) (pos (den l.icept)) (2 ^ 80) (2 ^ 20) (omega (arith, run)) (omega (arith, ib)) in omega (arith, m);
      under = let m = product_size (pos (den l.icept)) (pos (den l.slope) *ℤ pos (den t)) (2 ^ 20) (2 ^ 40) (omega (arith, ib)) (omega (arith, over)) in omega (arith, m);
    }

-- ---- the value
value_parts : (k s t : ℚ) → k +ℚ s *ℚ t ≡ frac (k.num *ℤ pos (suc (both s.pre t.pre)) +ℤ (s.num *ℤ t.num) *ℤ pos (den k)) (both k.pre (both s.pre t.pre))
unfolding ◌*ℚ◌
value_parts k s t =
    ap (λ y. y +ℚ frac (s.num *ℤ t.num) (both s.pre t.pre)) (frac_self k) ∙ add_frac k.num k.pre (s.num *ℤ t.num) (both s.pre t.pre)

pub value_ratio : (l : Line) (t : ℚ) (n d : ℤ) → n ≡ l.icept.num *ℤ (pos (den l.slope) *ℤ pos (den t)) +ℤ (l.slope.num *ℤ t.num) *ℤ pos (den l.icept)
    → d ≡ pos (den l.icept) *ℤ (pos (den l.slope) *ℤ pos (den t)) → ratio n d ≡ line_at l t
value_ratio l t n d p q =
    let k = l.icept in
    let s = l.slope in
    let in_two = both_is s.pre t.pre in
    let in_three : den k * (den s * den t) ≡ suc (both k.pre (both s.pre t.pre)) = ap (λ m. den k * m) (sym in_two) ∙ sym (both_is k.pre (both s.pre t.pre)) in
    ap₂ ratio p (q ∙ ap pos in_three)
    ∙ ap (λ m. frac (k.num *ℤ pos m +ℤ (s.num *ℤ t.num) *ℤ pos (den k)) (both k.pre (both s.pre t.pre))) (sym in_two)
    ∙ sym (value_parts k s t)
