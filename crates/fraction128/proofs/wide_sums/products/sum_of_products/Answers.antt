use Rattle.std.proofs.Common.{◌≡◌, drop, sym, subst, arith}
use Rattle.fraction128.specs.wide_sums.Sums.{sum_of_products, IsSumOf}
use Rattle.fraction128.proofs.wide_sums.Steps.{sum_from}
use Rattle.fraction128.proofs.wide_sums.products.sum_of_products.Goals as goal

pub loop-place-preserved : goal.loop-place-preserved
loop-place-preserved c =
    let ps = c.args.products.now in
    let i = c.loop-place.place in
    let many = c.loop-place.invariant.many in
    let more = c.add_product.ensures.more in
    record {
      sum = subst (λ s. IsSumOf s c.add_product.new.sum) (sym (sum_from ps i c.index-products-place.result c.loop-place-test.true c.loop-place.auto.place c.index-products-place.is))
          (c.add_product.ensures.sum (sum_of_products (drop i ps)) c.loop-place.invariant.sum);
      room = c.add_product.ensures.room;
      many = omega (arith, many, more);
    }

pub total-requires : goal.total-requires
total-requires c = c.loop-place.invariant.sum.factors

pub returns : goal.returns
returns c =
    let ps = c.args.products.now in
    let none : c.loop-place.place ≡ 0 = omega arith in
    c.total.ensures (sum_of_products ps) (subst (λ i. IsSumOf (sum_of_products (drop i ps)) c.loop-place.sum) none c.loop-place.invariant.sum)
