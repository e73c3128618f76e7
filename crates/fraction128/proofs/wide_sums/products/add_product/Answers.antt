use Rattle.std.proofs.Common.{◌≡◌, ◌+◌, ◌*◌, ◌<◌, [], ◌∷◌, ◌++◌, sym, ap, ◌∙◌, subst, arith}
use Rattle.std.specs.Prelude.{nat_abs, pos}
use Rattle.std.specs.List.{AllByRecursion}
use Rattle.rational.specs.Rational.{int, den, ◌+ℚ◌, ◌*ℚ◌}
use Rattle.rational.proofs.Laws.{add_comm, add_zero, zero_mul}
use Rattle.fraction128.specs.wide_sums.Words.{number}
use Rattle.fraction128.specs.wide_sums.Factors.{IsFactor, product}
use Rattle.fraction128.specs.wide_sums.Sums.{IsSumOf}
use Rattle.fraction128.proofs.wide_sums.Reduced.{product_end, product_pos, factors_end}
use Rattle.fraction128.proofs.wide_sums.Added.{added}
use Rattle.fraction128.proofs.wide_sums.Steps.{top_of}
use Rattle.fraction128.proofs.wide_sums.products.add_product.Goals as goal

pub returns-then-eq-clause-sum : goal.returns-then-eq-clause-sum
returns-then-eq-clause-sum c = λ s h.
    let y = c.args.product.right in
    let none = c.eq.ensures.same.0 c.if-eq.true ∙ c.zero.ensures in
    let same : s ≡ c.args.product.left *ℚ y +ℚ s = sym (ap (λ x. x *ℚ y +ℚ s) none ∙ ap (λ x. x +ℚ s) (zero_mul y) ∙ add_comm (int (pos 0)) s ∙ add_zero s) in
    subst (λ r. IsSumOf r c.args.sum.now) same h

pub returns-clause-sum : goal.returns-clause-sum
returns-clause-sum c = λ s h.
    let x = c.args.product.left in
    let y = c.args.product.right in
    let t = number c.args.sum.now.top.items in
    let b = number c.args.sum.now.bottom.items in
    let fs = c.args.sum.now.factors.items in
    let d = c.denominator-below.result in
    let e = c.denominator-under.result in
    let m = c.numerator_size.result in
    let n = c.numerator_size-2.result in
    let u = number c.times_both_plus-top.result.items in
    let v = number c.times_both_plus-bottom.result.items in
    let some : 0 < b = subst (λ k. 0 < k) (sym h.bottom) (product_pos fs h.factors) in
    let own = c.times_both_plus-own.ensures.value ∙ ap (λ ws. number ws * m * n + 0) c.deref.ensures.0 in
    let top = c.times_both_plus-top.ensures.value ∙ ap (λ ws. number ws * d * e + number c.deref-3.result.now) c.deref-2.ensures.0
    ∙ ap (λ ws. t * d * e + number ws) c.deref-3.ensures.0 in
    let bottom = c.times_both_plus-bottom.ensures.value ∙ ap (λ ws. number ws * d * e + 0) c.deref-4.ensures.0 in
    let whole : v ≡ b * d * e = omega (arith, bottom) in
    let parts : (t * d * e + b * m * n ≡ t * den x * den y + b * nat_abs x.num * nat_abs y.num) =
    ap (λ k. t * k * e + b * m * n) c.denominator-below.ensures.value
    ∙ ap (λ k. t * den x * k + b * m * n) c.denominator-under.ensures.value
    ∙ ap (λ k. t * den x * den y + b * k * n) c.numerator_size.ensures.value
    ∙ ap (λ k. t * den x * den y + b * nat_abs x.num * k) c.numerator_size-2.ensures.value in
    let same : b * d * e ≡ b * den x * den y = ap (λ k. b * k * e) c.denominator-below.ensures.value ∙ ap (λ k. b * den x * k) c.denominator-under.ensures.value in
    let items : c.push-2.new.self.items ≡ (fs ++ d ∷ []) ++ e ∷ [] = c.push-2.ensures.items ∙ ap (λ gs. gs ++ e ∷ []) c.push.ensures.items in
    record {
      is = added s x y t b u v some h.is c.requires.from_zero.left c.requires.from_zero.right
          (top_of t b m n d e (number c.times_both_plus-own.result.items) u own top ∙ parts)
          (whole ∙ same);
      bottom = whole ∙ ap (λ k. k * d * e) h.bottom ∙ ap (λ k. k * e) (sym (product_end fs d)) ∙ sym (product_end (fs ++ d ∷ []) e) ∙ ap product (sym items);
      factors = subst (λ gs. AllByRecursion IsFactor gs) (sym items)
          (factors_end (fs ++ d ∷ []) e (factors_end fs d h.factors (c.denominator-below.ensures.some, c.denominator-below.ensures.size)) (c.denominator-under.ensures.some, c.denominator-under.ensures.size));
    }
