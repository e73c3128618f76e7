use Rattle.std.proofs.Common.{◌≡◌, ◌∙◌, ap₂, arith, pos, to_z}
use Rattle.std.proofs.lemmas.Int.{ints}
use mir.Syntax.{w128}
use Rattle.rational.specs.Ratio.{ratio}
use Rattle.residuals.proofs.calls.Numbers.{new_ok, ratio_whole}
use Rattle.residuals.proofs.drr.turn.quotient.Goals as goal

pub unwrap-requires : goal.unwrap-requires
unwrap-requires c =
    let a : to_z w128 c.args.n ≡ pos c.args.n = omega (arith, ints) in
    let b : to_z w128 c.args.d ≡ pos c.args.d = omega (arith, ints) in
    new_ok c.new.result (to_z w128 c.args.n) (to_z w128 c.args.d) c.args.n c.args.d a b c.requires (omega arith)
    (omega arith)
    c.new.ensures.zero c.new.ensures.big

pub returns : goal.returns
returns c =
    let a : to_z w128 c.args.n ≡ pos c.args.n = omega (arith, ints) in
    let b : to_z w128 c.args.d ≡ pos c.args.d = omega (arith, ints) in
    let is = rw c.unwrap.ensures at c.new.ensures.value in
    is ∙ ap₂ ratio a b ∙ ratio_whole c.args.n c.args.d c.requires
