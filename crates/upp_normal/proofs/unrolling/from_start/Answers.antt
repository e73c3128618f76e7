use Rattle.std.proofs.Common.{arith, ◌∙◌, ap, drop, length}
use Rattle.std.proofs.lemmas.List.{length-append}
use Rattle.upp_curve.specs.Unrolled.{from, upto}
use Rattle.upp_normal.proofs.NormaliseCuts.{drop_upto, split_is}
use Rattle.upp_normal.proofs.unrolling.from_start.Goals as goal

pub turn_of-requires : goal.turn_of-requires
turn_of-requires c =
    let x = c.args.x in
    let ps = c.args.pieces.now in
    omega (arith, c.count_before.ensures, length-append (upto x ps) (from x ps), ap length (split_is x ps))

pub returns : goal.returns
returns c =
    let ps = c.args.pieces.now in
    c.turn_of.ensures ∙ ap (λ k. drop k ps) c.count_before.ensures ∙ drop_upto c.args.x ps
