use mir.Syntax.{w128}
use Rattle.std.proofs.Common.{rules, arith, ◌<◌, ◌^◌, ◌∙◌, ap, ap₂, ℤ, ◌+ℤ◌, unsigned_abs, SFits, to_z-of_z}
use Rattle.upp_curve.proofs.affine_segment.ShortLines.{steps_fit, sum_size, value_ratio}
use Rattle.upp_curve.proofs.affine_segment.short_line.value_over.Goals as goal

pub plus-whole-requires : goal.plus-whole-requires
plus-whole-requires c =
    let fit = steps_fit c.args.line.now c.args.t c.requires.line c.requires.time in
    let m = fit.start in
    let n = fit.risen in
    let fs : SFits w128 c.start_over-start.result = search rules in
    let fr : SFits w128 c.rise_over-rise.result = search rules in
    let s = sum_size c.start_over-start.result c.rise_over-rise.result in
    let x = ap unsigned_abs c.start_over-start.ensures in
    let y = ap unsigned_abs c.rise_over-rise.ensures in
    let small : unsigned_abs (c.start_over-start.result +ℤ c.rise_over-rise.result) < 2 ^ 127 = omega (arith, m, n, s, x, y) in
    simp to_z-of_z small

pub returns-in-Ok : goal.returns-in-Ok
returns-in-Ok c =
    let fs : SFits w128 c.start_over-start.result = search rules in
    let fr : SFits w128 c.rise_over-rise.result = search rules in
    let fw : SFits w128 c.plus-whole.result = search rules in
    let fu : SFits w128 c.all_under-under.result = search rules in
    (simp to_z-of_z at c.in-Ok.ensures.value)
    ∙ value_ratio c.args.line.now c.args.t c.plus-whole.result c.all_under-under.result
    ((simp to_z-of_z at c.plus-whole.ensures) ∙ ap₂ (λ (x y : ℤ). x +ℤ y) c.start_over-start.ensures c.rise_over-rise.ensures) c.all_under-under.ensures
