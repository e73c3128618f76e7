use Rattle.std.proofs.Common.{◌≡◌, ◌≤◌, ◌^◌, ◌<◌, sym, ap, ◌∙◌, subst, arith, to_z}
use mir.Syntax.{w128}
use Rattle.std.specs.Prelude.{◌≢◌, pos}
use Rattle.std.specs.List.{AllByRecursion}
use Rattle.std.proofs.lemmas.Int.{ints}
use Rattle.rational.specs.Rational.{int, ◌/ℚ◌}
use Rattle.rational.specs.Ratio.{IsSmall}
use Rattle.rational.proofs.Quotients.{quotient_small}
use Rattle.fraction128.specs.wide_sums.Words.{number}
use Rattle.fraction128.specs.wide_sums.Factors.{IsFactor, product, IsReduced}
use Rattle.fraction128.proofs.wide_sums.Reduced.{product_pos}
use Rattle.fraction128.proofs.wide_sums.Added.{bottom_some, small_sum, top_wide, bottom_wide, whole_some}
use Rattle.fraction128.proofs.wide_sums.Steps.{over_factors}
use Rattle.fraction128.proofs.wide_sums.products.total.Goals as goal

pub reduce-lowest-requires : goal.reduce-lowest-requires
reduce-lowest-requires c = subst (λ fs. AllByRecursion IsFactor fs) (sym c.deref.ensures.0) c.requires

pub quotient-requires : goal.quotient-requires
quotient-requires c =
    let t = c.in-Some.top in let b = c.reduce-lowest.result.bottom in
    let less = c.if-lowest.false in let less_t = c.in-Some.ensures.1 in
    let own_t : to_z w128 t ≡ pos t = omega (arith, ints, less_t) in
    let own_b : to_z w128 b ≡ pos b = omega (arith, ints, less) in
    let top = c.from_whole.ensures ∙ ap int own_t in
    let bottom = c.from_whole-in-Some.ensures ∙ ap int own_b in
    let some = bottom_some _ _ _ b c.reduce-lowest.ensures in
    record {
      some = subst (λ x. x ≢ int (pos 0)) (sym bottom) (whole_some b some);
      fits = subst (λ x. IsSmall (x /ℚ c.from_whole-in-Some.result)) (sym top) (subst (λ x. IsSmall (int (pos t) /ℚ x)) (sym bottom) (quotient_small t b some less_t less));
    }

pub returns-then-lowest : goal.returns-then-lowest
returns-then-lowest c = λ s h.
    let fs = c.args.sum.factors.items in
    bottom_wide s (number c.args.sum.top.items) (product fs) (number c.reduce-lowest.result.top.items) c.reduce-lowest.result.bottom (product_pos fs c.requires)
    (over_factors s c.args.sum h) (subst (λ gs. IsReduced (number c.args.sum.top.items) (product gs) (number c.reduce-lowest.result.top.items) c.reduce-lowest.result.bottom) c.deref.ensures.0 c.reduce-lowest.ensures)
    c.if-lowest.true

pub returns-else-lowest : goal.returns-else-lowest
returns-else-lowest c = λ s h.
    let fs = c.args.sum.factors.items in
    let t = c.in-Some.top in let b = c.reduce-lowest.result.bottom in
    let less = c.if-lowest.false in let less_t = c.in-Some.ensures.1 in
    let own_t : to_z w128 t ≡ pos t = omega (arith, ints, less_t) in
    let own_b : to_z w128 b ≡ pos b = omega (arith, ints, less) in
    let own : t ≡ number c.reduce-lowest.result.top.items = c.in-Some.ensures.0 ∙ ap number c.deref-2.ensures.0 in
    let is = small_sum s (number c.args.sum.top.items) (product fs) (number c.reduce-lowest.result.top.items) b (product_pos fs c.requires)
    (over_factors s c.args.sum h) (subst (λ gs. IsReduced (number c.args.sum.top.items) (product gs) (number c.reduce-lowest.result.top.items) b) c.deref.ensures.0 c.reduce-lowest.ensures)
    (subst (λ k. k < 2 ^ 127) own less_t) less in
    c.quotient.ensures ∙ ap (λ x. x /ℚ c.from_whole-in-Some.result) (c.from_whole.ensures ∙ ap int own_t ∙ ap (λ k. int (pos k)) own)
    ∙ ap (λ x. int (pos (number c.reduce-lowest.result.top.items)) /ℚ x) (c.from_whole-in-Some.ensures ∙ ap int own_b) ∙ sym is.0

pub returns-in-None : goal.returns-in-None
returns-in-None c = λ s h.
    let fs = c.args.sum.factors.items in
    top_wide s (number c.args.sum.top.items) (product fs) (number c.reduce-lowest.result.top.items) c.reduce-lowest.result.bottom (product_pos fs c.requires)
    (over_factors s c.args.sum h) (subst (λ gs. IsReduced (number c.args.sum.top.items) (product gs) (number c.reduce-lowest.result.top.items) c.reduce-lowest.result.bottom) c.deref.ensures.0 c.reduce-lowest.ensures)
    (subst (λ bs. 2 ^ 127 ≤ number bs) c.deref-2.ensures.0 c.in-None.ensures)
