use Rattle.std.proofs.Common.{arith, refl}
use native.Mathlib.Nat.{div-le_self}
use Rattle.rational.specs.Euclid.{gcd_pos}
use Rattle.fraction128.proofs.products.short_parts.Goals as goal

pub short_quotient-x-requires : goal.short_quotient-x-requires
short_quotient-x-requires c = rw c.short_divisor-first.ensures (gcd_pos c.args.left c.args.e c.requires.other_some)

pub short_quotient-y-requires : goal.short_quotient-y-requires
short_quotient-y-requires c = rw c.short_divisor-second.ensures (gcd_pos c.args.right c.args.d c.requires.some)

pub short_quotient-u-requires : goal.short_quotient-u-requires
short_quotient-u-requires c = rw c.short_divisor-second.ensures (gcd_pos c.args.right c.args.d c.requires.some)

pub short_quotient-v-requires : goal.short_quotient-v-requires
short_quotient-v-requires c = rw c.short_divisor-first.ensures (gcd_pos c.args.left c.args.e c.requires.other_some)

pub short_product-requires-clause-left : goal.short_product-requires-clause-left
short_product-requires-clause-left c = let l = div-le_self c.args.left c.short_divisor-first.result in omega (arith, l, c.short_quotient-x.ensures, c.requires.top)

pub short_product-requires-clause-right : goal.short_product-requires-clause-right
short_product-requires-clause-right c = let l = div-le_self c.args.right c.short_divisor-second.result in omega (arith, l, c.short_quotient-y.ensures, c.requires.other_top)

pub short_product-requires-2-clause-left : goal.short_product-requires-2-clause-left
short_product-requires-2-clause-left c = let l = div-le_self c.args.d c.short_divisor-second.result in omega (arith, l, c.short_quotient-u.ensures, c.requires.bottom)

pub short_product-requires-2-clause-right : goal.short_product-requires-2-clause-right
short_product-requires-2-clause-right c = let l = div-le_self c.args.e c.short_divisor-first.result in omega (arith, l, c.short_quotient-v.ensures, c.requires.other_bottom)

pub returns-clause-top : goal.returns-clause-top
returns-clause-top c =
    rw (c.short_product.ensures.value, c.short_quotient-x.ensures, c.short_quotient-y.ensures, c.short_divisor-first.ensures, c.short_divisor-second.ensures) refl

pub returns-clause-bottom : goal.returns-clause-bottom
returns-clause-bottom c =
    rw (c.short_product-2.ensures.value, c.short_quotient-u.ensures, c.short_quotient-v.ensures, c.short_divisor-first.ensures, c.short_divisor-second.ensures) refl
