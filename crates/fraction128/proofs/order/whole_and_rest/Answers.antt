use Rattle.std.proofs.Common.{rules, arith, ◌≡◌, ◌∙◌, ◌<◌, ◌^◌, ◌-◌, ◌-ℤ◌, ◌/◌, ◌%◌, ap, SFits, to_z, to_z-of_z, pos, negsuc, unsigned_abs}
use Rattle.std.proofs.lemmas.Int.{to_z_pos}
use mir.Syntax.{w128}
use native.Mathlib.Nat.{div-le_self}
use Rattle.fraction128.proofs.Compared.{whole_below_code}
use Rattle.fraction128.proofs.order.whole_and_rest.Goals as goal

pub returns-clause-parts : goal.returns-clause-parts
returns-clause-parts c =
    let fa = c.ranges.num in
    let top : c.unsigned_abs.result ≡ unsigned_abs c.args.num = simp to_z-of_z at c.unsigned_abs.ensures.value in
    let k = c.divide-past.result.0 in
    let less = div-le_self (c.unsigned_abs.result - 1) c.args.den in
    let small : k < 2 ^ 127 = omega (arith, less, c.divide-past.ensures.whole, c.requires.top, top) in
    let same : to_z w128 k ≡ pos k = to_z_pos w128 k small in
    let fits : SFits w128 (negsuc 0 -ℤ to_z w128 k) = search rules in
    whole_below_code c.args.num c.args.den k _ _ (simp to_z-of_z at c.if-num-ge0.false) c.requires.some
    (c.divide-past.ensures.whole ∙ ap (λ m. (m - 1) / c.args.den) top) (c.divide-past.ensures.rest ∙ ap (λ m. (m - 1) % c.args.den) top)
    (to_z-of_z fits ∙ ap (λ z. negsuc 0 -ℤ z) same)
