use Rattle.std.proofs.Common.{get_or, take, sym, ap, ◌∙◌, subst}
use Rattle.fraction128.specs.wide_sums.Words.{number}
use Rattle.fraction128.specs.wide_sums.Factors.{product, IsReduced}
use Rattle.fraction128.proofs.wide_sums.Reduced.{factor_at, product_more, reduced_none, reduced_more, common_fits}
use Rattle.fraction128.proofs.wide_sums.lowest.reduce.Goals as goal

pub loop-factor-init : goal.loop-factor-init
loop-factor-init c = reduced_none (number c.args.whole.items)

pub divide-requires : goal.divide-requires
divide-requires c =
    let f = factor_at c.args.factors.now c.loop-factor.factor-index c.requires c.loop-factor-test.true in
    record { some = f.0; small = f.1; room = c.deref.ensures.1 }

pub divide-top-requires : goal.divide-top-requires
divide-top-requires c =
    let f = factor_at c.args.factors.now c.loop-factor.factor-index c.requires c.loop-factor-test.true in
    let g = common_fits (get_or c.args.factors.now c.loop-factor.factor-index 0) c.divide.result.rest c.gcd_of-common.result f c.gcd_of-common.ensures in
    record { some = g.0; small = g.1; room = c.deref-in-loop-factor.ensures.1 }

pub loop-factor-preserved : goal.loop-factor-preserved
loop-factor-preserved c =
    let n = number c.args.whole.items in
    let fs = c.args.factors.now in
    let i = c.loop-factor.factor-index in
    let f = get_or fs i 0 in
    let t = number c.loop-factor.top.items in
    let first = c.divide.result in
    let then = c.divide-top.result in
    let next = reduced_more n (product (take i fs)) t c.loop-factor.bottom f (number first.quotient.items) first.rest c.gcd_of-common.result (number then.quotient.items) then.rest c.saturating_mul-bottom.result
    c.loop-factor.invariant (factor_at fs i c.requires c.loop-factor-test.true)
    (ap number (sym c.deref.ensures.0) ∙ c.divide.ensures.whole)
    c.gcd_of-common.ensures
    (ap number (sym c.deref-in-loop-factor.ensures.0) ∙ c.divide-top.ensures.whole)
    c.divide-top.ensures.rest
    c.saturating_mul-bottom.ensures in
    subst (λ p. IsReduced n p (number then.quotient.items) c.saturating_mul-bottom.result) (sym (product_more fs i c.loop-factor-test.true)) next
