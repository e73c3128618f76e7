-- Sums, product by product.
use Rattle.std.proofs.Common.{◌≡◌, ℕ, ◌+◌, ◌*◌, ◌-◌, ◌<◌, ◌≤◌, List, length, get_or, drop, sym, ap, ◌∙◌, arith}
use Rattle.std.specs.Prelude.{pos}
use Rattle.std.proofs.lemmas.List.{drop_more}
use Rattle.rational.specs.Rational.{ℚ, over, ◌+ℚ◌, ◌*ℚ◌}
use Rattle.fraction128.specs.declared.wide_sums.products.Product.{Product}
use Rattle.fraction128.specs.declared.wide_sums.products.WideSum.{WideSum}
use Rattle.fraction128.specs.wide_sums.Words.{number}
use Rattle.fraction128.specs.wide_sums.Factors.{product}
use Rattle.fraction128.specs.wide_sums.Sums.{sum_of_products, IsSumOf}

pub over_factors : (s : ℚ) (w : WideSum) → IsSumOf s w → s ≡ over (pos (number w.top.items)) (product w.factors.items)
over_factors s w h = h.is ∙ ap (over (pos (number w.top.items))) h.bottom

-- numbers on the way: the product's numerator over the factors so far, and the sum's over the new ones
pub top_of : (t b m n d e own top : ℕ) → own ≡ b * m * n + 0 → top ≡ t * d * e + own → top ≡ t * d * e + b * m * n
top_of t b m n d e own top p q = omega (arith, p, q)

-- the products from a place on
pub sum_from : (ps : List Product) (i : ℕ) (p : Product) → 0 < i → i ≤ length ps → p ≡ get_or ps (i - 1) p
    → sum_of_products (drop (i - 1) ps) ≡ p.left *ℚ p.right +ℚ sum_of_products (drop i ps)
sum_from ps i p some h is =
    let back : i - 1 + 1 ≡ i = omega (arith, some) in
    ap sum_of_products (drop_more ps (i - 1) p (omega (arith, some, h)))
    ∙ ap (λ (q : Product). q.left *ℚ q.right +ℚ sum_of_products (drop (i - 1 + 1) ps)) (sym is)
    ∙ ap (λ k. p.left *ℚ p.right +ℚ sum_of_products (drop k ps)) back
