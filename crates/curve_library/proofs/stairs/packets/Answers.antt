use Rattle.std.proofs.Common.{arith, ap, sym, ◌∙◌, ◌≡◌, ◌+◌, ◌*◌, suc, pos}
use Rattle.rational.specs.Rational.{int}
use Rattle.rational.proofs.Integers.{int_mul}
use Rattle.curve_library.proofs.stairs.packets.Goals as goal

pub returns-in-Some : goal.returns-in-Some
returns-in-Some c =
    let h = c.in-Some.ensures in
    let k = c.from.ensures in
    let e : c.from.result * (c.args.early + 1) ≡ c.args.packet * suc c.args.early = ap (λ x. x * (c.args.early + 1)) k ∙ ap (λ x. c.args.packet * x) (omega arith) in
    let n : c.in-Some.n ≡ c.args.packet * suc c.args.early = omega (arith, h, e) in
    c.whole.ensures ∙ ap (λ m. int (pos m)) n ∙ sym (int_mul (pos c.args.packet) (pos (suc c.args.early)))
