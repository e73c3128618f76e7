use mir.Syntax.{w128}
use Rattle.std.proofs.Common.{rules, arith, ◌≡◌, ◌<◌, ◌^◌, ◌∙◌, ap, ap₂, pos, ℤ, ◌*ℤ◌, unsigned_abs, SFits, to_z-of_z}
use Rattle.rational.specs.Rational.{den}
use Rattle.upp_curve.proofs.affine_segment.ShortLines.{steps_fit}
use Rattle.upp_curve.proofs.affine_segment.short_line.all_under.Goals as goal

pub times-requires : goal.times-requires
times-requires c =
    let m = (steps_fit c.args.line.now c.args.t c.requires.line c.requires.time).under in
    let fb : SFits w128 c.signed-base.result = search rules in
    let fo : SFits w128 c.both_under-over.result = search rules in
    let small : unsigned_abs (c.signed-base.result *ℤ c.both_under-over.result) < 2 ^ 127 =
    rw (c.signed-base.ensures, c.denominator-bottom.ensures.value, c.both_under-over.ensures, c.denominator-left.ensures.value, c.denominator-right.ensures.value) (omega (arith, m)) in
    simp to_z-of_z small

pub returns : goal.returns
returns c =
    let fb : SFits w128 c.signed-base.result = search rules in
    let fo : SFits w128 c.both_under-over.result = search rules in
    let fz : SFits w128 c.times.result = search rules in
    let is : c.times.result ≡ pos (den c.args.line.now.icept) *ℤ (pos (den c.args.line.now.slope) *ℤ pos (den c.args.t)) =
    (simp to_z-of_z at c.times.ensures)
    ∙ ap₂ (λ (x y : ℤ). x *ℤ y) (c.signed-base.ensures ∙ ap pos c.denominator-bottom.ensures.value)
    (c.both_under-over.ensures ∙ ap₂ (λ x y. pos x *ℤ pos y) c.denominator-left.ensures.value c.denominator-right.ensures.value) in
    simp to_z-of_z is
