use mir.Syntax.{w128}
use Rattle.std.proofs.Common.{rules, arith, ◌<◌, ◌^◌, pos, ◌*ℤ◌, unsigned_abs, SFits, to_z-of_z}
use Rattle.upp_curve.proofs.affine_segment.ShortLines.{product_size}
use Rattle.upp_curve.proofs.affine_segment.short_line.both_under.Goals as goal

pub times-requires : goal.times-requires
times-requires c =
    let a = c.requires.left in
    let b = c.requires.right in
    let m = product_size (pos c.args.a) (pos c.args.b) (2 ^ 20) (2 ^ 20) (omega (arith, a)) (omega (arith, b)) in
    let fl : SFits w128 c.signed-left.result = search rules in
    let fr : SFits w128 c.signed-right.result = search rules in
    let small : unsigned_abs (c.signed-left.result *ℤ c.signed-right.result) < 2 ^ 127 = rw (c.signed-left.ensures, c.signed-right.ensures) (omega (arith, m)) in
    simp to_z-of_z small
