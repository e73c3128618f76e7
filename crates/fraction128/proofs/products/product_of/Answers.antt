use Rattle.std.proofs.Common.{refl, true, ◌≡◌, ◌∙◌, ◌<◌, ◌^◌, ◌*ℤ◌, unsigned_abs, to_z-of_z, SFits}
use Rattle.rational.specs.Rational.{int}
use Rattle.std.proofs.lemmas.Int.{fits_signed_from_abs}
use mir.Syntax.{w128}
use Rattle.fraction128.proofs.Multiplied.{short_product, whole_product}
use Rattle.fraction128.proofs.products.product_of.Goals.{After-is_short-then-is_short}
use Rattle.fraction128.proofs.products.product_of.Goals as goal

-- the product of the numerators is short
short : (c : After-is_short-then-is_short) → c.is_short.result ≡ true → c.is_short-then-is_short.result ≡ true → unsigned_abs (c.args.a *ℤ c.args.b) < 2 ^ 127
short c first second =
    let fa = c.ranges.a in let fb = c.ranges.b in
    short_product c.args.a c.args.b ((simp to_z-of_z at c.is_short.ensures).0 first) ((simp to_z-of_z at c.is_short-then-is_short.ensures).0 second)

pub overflow_mul-a : goal.overflow_mul-a
overflow_mul-a c =
    let fa = c.ranges.a in let fb = c.ranges.b in
    let small = short (goal.at.overflow_mul-a c).After-is_short-then-is_short c.if-is_short.true c.if-is_short-2.true in
    simp to_z-of_z (fits_signed_from_abs w128 (c.args.a *ℤ c.args.b) small)

pub from_whole-requires : goal.from_whole-requires
from_whole-requires c =
    let fa = c.ranges.a in let fb = c.ranges.b in
    let small = short (goal.at.from_whole-requires c).After-is_short-then-is_short c.if-is_short.true c.if-is_short-2.true in
    let fits : SFits w128 (c.args.a *ℤ c.args.b) = fits_signed_from_abs w128 (c.args.a *ℤ c.args.b) small in
    simp to_z-of_z small

pub returns-then-is_short-2 : goal.returns-then-is_short-2
returns-then-is_short-2 c =
    let fa = c.ranges.a in let fb = c.ranges.b in
    let small = short (goal.at.returns-then-is_short-2 c).After-is_short-then-is_short c.if-is_short.true c.if-is_short-2.true in
    let fits : SFits w128 (c.args.a *ℤ c.args.b) = fits_signed_from_abs w128 (c.args.a *ℤ c.args.b) small in
    let is : c.from_whole.result ≡ int (c.args.a *ℤ c.args.b) = simp to_z-of_z at c.from_whole.ensures in
    let w = whole_product c.args.a c.args.b (c.args.a *ℤ c.args.b) c.args.d c.args.e c.if-d-eq1.true c.if-e-eq1.true small refl in
    (is ∙ w.0, w.1)
