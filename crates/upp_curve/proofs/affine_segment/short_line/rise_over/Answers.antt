use mir.Syntax.{w128}
use Rattle.std.proofs.Common.{rules, arith, ◌≡◌, ◌<◌, ◌^◌, ◌∙◌, ap, ap₂, pos, ℤ, ◌*ℤ◌, unsigned_abs, SFits, to_z-of_z}
use Rattle.rational.specs.Rational.{den}
use Rattle.upp_curve.proofs.affine_segment.ShortLines.{steps_fit}
use Rattle.upp_curve.proofs.affine_segment.short_line.rise_over.Goals as goal

pub times-run-requires : goal.times-run-requires
times-run-requires c =
    let m = (steps_fit c.args.line.now c.args.t c.requires.line c.requires.time).run in
    let fs : SFits w128 c.numerator-slope.result = search rules in
    let ft : SFits w128 c.numerator-time.result = search rules in
    let small : unsigned_abs (c.numerator-slope.result *ℤ c.numerator-time.result) < 2 ^ 127 = rw (c.numerator-slope.ensures.value, c.numerator-time.ensures.value) (omega (arith, m)) in
    simp to_z-of_z small

pub times-requires : goal.times-requires
times-requires c =
    let m = (steps_fit c.args.line.now c.args.t c.requires.line c.requires.time).risen in
    let fs : SFits w128 c.numerator-slope.result = search rules in
    let ft : SFits w128 c.numerator-time.result = search rules in
    let fr : SFits w128 c.times-run.result = search rules in
    let fb : SFits w128 c.signed-base.result = search rules in
    let run : c.times-run.result ≡ c.args.line.now.slope.num *ℤ c.args.t.num =
    (simp to_z-of_z at c.times-run.ensures) ∙ ap₂ (λ (x y : ℤ). x *ℤ y) c.numerator-slope.ensures.value c.numerator-time.ensures.value in
    let base : c.signed-base.result ≡ pos (den c.args.line.now.icept) = c.signed-base.ensures ∙ ap pos c.denominator-bottom.ensures.value in
    let small : unsigned_abs (c.times-run.result *ℤ c.signed-base.result) < 2 ^ 127 = rw (run, base) (omega (arith, m)) in
    simp to_z-of_z small

pub returns : goal.returns
returns c =
    let fs : SFits w128 c.numerator-slope.result = search rules in
    let ft : SFits w128 c.numerator-time.result = search rules in
    let fr : SFits w128 c.times-run.result = search rules in
    let fb : SFits w128 c.signed-base.result = search rules in
    let fz : SFits w128 c.times.result = search rules in
    let is : c.times.result ≡ (c.args.line.now.slope.num *ℤ c.args.t.num) *ℤ pos (den c.args.line.now.icept) =
    (simp to_z-of_z at c.times.ensures)
    ∙ ap₂ (λ (x y : ℤ). x *ℤ y) ((simp to_z-of_z at c.times-run.ensures) ∙ ap₂ (λ (x y : ℤ). x *ℤ y) c.numerator-slope.ensures.value c.numerator-time.ensures.value)
    (c.signed-base.ensures ∙ ap pos c.denominator-bottom.ensures.value) in
    simp to_z-of_z is
