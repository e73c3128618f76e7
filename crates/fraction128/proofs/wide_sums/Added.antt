-- A product more, over finer factors; and the sum as a fraction.
use Rattle.std.proofs.Common.{◌≡◌, ℕ, zero, suc, ◌+◌, ◌*◌, ◌<◌, ◌≤◌, ◌-◌, ◌^◌, refl, sym, ap, ◌∙◌, subst, arith}
use Rattle.std.specs.Prelude.{◌≢◌, pos, nat_abs, ◌*ℤ◌, ◌+ℤ◌}
use Rattle.std.proofs.lemmas.Int.{ints}
use Rattle.rational.specs.Gcd.{gcd}
use Rattle.rational.specs.Gauge.{Kept, cap}
use Rattle.rational.specs.Ratio.{IsSmall}
use Rattle.rational.specs.Rational.{ℚ, int, frac, over, both, den, ◌+ℚ◌, ◌*ℚ◌, ◌/ℚ◌, ◌≤ℚ◌}
use Rattle.rational.specs.Fractions.{frac-same}
use Rattle.rational.proofs.Laws.{nonneg_frac}
use Rattle.rational.proofs.Integers.{int_same}
use Rattle.rational.proofs.Parts.{lowest_parts}
use Rattle.rational.proofs.Quotients.{frac_is_div}
use Rattle.rational.proofs.Over.{add_frac, mul_frac, both_is}
use Rattle.fraction128.specs.wide_sums.Factors.{IsReduced}

-- ---- numbers that are known up to a cap
known_below : (b n : ℕ) → Kept b n → b < 2 ^ 128 - 1 → b ≡ n
unfolding cap
known_below b n k h = let is = k.is in omega (arith, is, h)

known_most : (b n : ℕ) → Kept b n → b ≤ n
unfolding cap
known_most b n k = let is = k.is in omega (arith, is)

-- ---- sums

add_product : (m d n e t b : ℕ) → (frac (pos m) d *ℚ frac (pos n) e) +ℚ frac (pos t) b
    ≡ frac ((pos m *ℤ pos n) *ℤ pos (suc b) +ℤ pos t *ℤ pos (suc (both d e))) (both (both d e) b)
add_product m d n e t b =
    ap (λ x. x +ℚ frac (pos t) b) (mul_frac (pos m) d (pos n) e) ∙ add_frac (pos m *ℤ pos n) (both d e) (pos t) b

same_product : (m n t d e b : ℕ) → (m * n * b + t * (d * e)) * (b * d * e) ≡ (t * d * e + b * m * n) * (d * e * b)
same_product m n t d e b = omega arith

pub added : (s x y : ℚ) (t b u c : ℕ) → 0 < b → s ≡ over (pos t) b → int (pos 0) ≤ℚ x → int (pos 0) ≤ℚ y
    → u ≡ t * den x * den y + b * nat_abs x.num * nat_abs y.num → c ≡ b * den x * den y → x *ℚ y +ℚ s ≡ over (pos u) c
added s x y t zero u c some is px py top bottom = absurd (omega (arith, some))
added s x y t (suc b) u zero some is px py top bottom = absurd (omega (arith, bottom))
added s x y t (suc b) u (suc c) some is px py top bottom =
    let m = nat_abs x.num in
    let n = nat_abs y.num in
    let one : x *ℚ y +ℚ s ≡ (frac (pos m) x.pre *ℚ frac (pos n) y.pre) +ℚ frac (pos t) b =
    ap (λ k. k *ℚ y +ℚ s) (nonneg_frac x px) ∙ ap (λ k. frac (pos m) x.pre *ℚ k +ℚ s) (nonneg_frac y py) ∙ ap (λ k. frac (pos m) x.pre *ℚ frac (pos n) y.pre +ℚ k) is in
    one ∙ add_product m x.pre n y.pre t b ∙ frac-same _ _ _ _ (ap pos (rw (both_is (both x.pre y.pre) b, both_is x.pre y.pre, top, bottom) (same_product m n t (den x) (den y) (suc b))))

-- ---- in lowest terms
pub lowest_sum : (s : ℚ) (n p t b : ℕ) → 0 < p → s ≡ over (pos n) p → (l : IsReduced n p t b) → s ≡ over (pos t) l.bottom
lowest_sum s n zero t b some is l = absurd (omega (arith, some))
lowest_sum s n (suc p) t b some is l = by_bottom l.bottom refl
  where
    by_bottom : (d : ℕ) → l.bottom ≡ d → s ≡ over (pos t) d
    by_bottom zero e = let k = l.kept.some in absurd (omega (arith, e, k))
    by_bottom (suc d) e = let k = l.same in is ∙ frac-same (pos n) p (pos t) d (ap pos (ap (λ m. n * m) (sym e) ∙ k))

pub sum_parts : (s : ℚ) (n p t b : ℕ) → 0 < p → s ≡ over (pos n) p → (l : IsReduced n p t b) → (s.num ≡ pos t) × (den s ≡ l.bottom)
sum_parts s n p t b some is l = by_bottom l.bottom (lowest_sum s n p t b some is l) l.kept.some l.lowest
  where
    by_bottom : (d : ℕ) → s ≡ over (pos t) d → 0 < d → gcd t d ≡ 1 → (s.num ≡ pos t) × (den s ≡ d)
    by_bottom zero e some_d one = absurd (omega (arith, some_d))
    by_bottom (suc d) e some_d one =
        let parts = lowest_parts (pos t) d one in
        (ap (λ (x : ℚ). x.num) e ∙ parts.0, ap (λ (x : ℚ). den x) e ∙ ap suc parts.1)

-- so it is small exactly where both are
pub small_sum : (s : ℚ) (n p t b : ℕ) → 0 < p → s ≡ over (pos n) p → (l : IsReduced n p t b) → t < 2 ^ 127 → b < 2 ^ 127 → (s ≡ int (pos t) /ℚ int (pos b)) × IsSmall s
small_sum s n p t b some is l top bottom =
    let parts = sum_parts s n p t b some is l in
    let same : b ≡ l.bottom = known_below b l.bottom l.kept (omega (arith, bottom)) in (
      by_bottom b l.bottom same (lowest_sum s n p t b some is l) l.kept.some,
      record { top = subst (λ z. nat_abs z < 2 ^ 127) (sym parts.0) top; bottom = subst (λ m. m < 2 ^ 127) (same ∙ sym parts.1) bottom },
    )
  where
    by_bottom : (b d : ℕ) → b ≡ d → s ≡ over (pos t) d → 0 < d → s ≡ int (pos t) /ℚ int (pos b)
    by_bottom b zero same e h = absurd (omega (arith, h))
    by_bottom b (suc d) same e h = e ∙ frac_is_div (pos t) d ∙ ap (λ m. int (pos t) /ℚ int (pos m)) (sym same)

pub top_wide : (s : ℚ) (n p t b : ℕ) → 0 < p → s ≡ over (pos n) p → IsReduced n p t b → 2 ^ 127 ≤ t → ¬ (IsSmall s)
top_wide s n p t b some is l wide small =
    let parts = sum_parts s n p t b some is l in
    let less = subst (λ z. nat_abs z < 2 ^ 127) parts.0 small.top in
    absurd (omega (arith, less, wide))

pub bottom_wide : (s : ℚ) (n p t b : ℕ) → 0 < p → s ≡ over (pos n) p → IsReduced n p t b → 2 ^ 127 ≤ b → ¬ (IsSmall s)
bottom_wide s n p t b some is l wide small =
    let parts = sum_parts s n p t b some is l in
    let less = subst (λ m. m < 2 ^ 127) parts.1 small.bottom in
    let own = known_most b l.bottom l.kept in
    absurd (omega (arith, less, own, wide))

-- ---- quotients of whole numbers

pub whole_some : (b : ℕ) → 0 < b → int (pos b) ≢ int (pos 0)
whole_some b some e = let same = int_same (pos b) (pos 0) e in absurd (omega (arith, ints, some, same))

pub bottom_some : (n p t b : ℕ) → IsReduced n p t b → 0 < b
unfolding cap
bottom_some n p t b l = let is = l.kept.is in let some = l.kept.some in omega (arith, is, some)
