use Rattle.std.proofs.Common.{◌≡◌, ◌∙◌, ap, ap₂, sym, SFits, to_z-of_z, unsigned_abs}
use mir.Syntax.{w128}
use Rattle.rational.specs.Gauge.{up_over, size_up}
use Rattle.fraction128.proofs.Values.{num_fits, parts_of}
use Rattle.fraction128.proofs.Rounded.{up_over_even, up_over_more}
use Rattle.fraction128.proofs.fraction.Frac.parts_up.Goals as goal

pub returns-then-rest-eq0 : goal.returns-then-rest-eq0
unfolding size_up
returns-then-rest-eq0 c =
    let n = c.self.inside.num in let d = c.self.inside.den in
    let fn : SFits w128 n = num_fits c.self.invariant in
    let size : c.unsigned_abs.result ≡ unsigned_abs n = simp to_z-of_z at c.unsigned_abs.ensures.value in
    let parts = parts_of n d c.args.self c.self.invariant c.self.view_is in
    up_over_even _ d _ _ c.self.invariant.some c.divide-whole.ensures.whole c.divide-whole.ensures.rest c.if-rest-eq0.true
    ∙ ap₂ up_over (size ∙ ap unsigned_abs (sym parts.0)) (sym parts.1)

pub returns-else-rest-eq0 : goal.returns-else-rest-eq0
unfolding size_up
returns-else-rest-eq0 c =
    let n = c.self.inside.num in let d = c.self.inside.den in
    let fn : SFits w128 n = num_fits c.self.invariant in
    let size : c.unsigned_abs.result ≡ unsigned_abs n = simp to_z-of_z at c.unsigned_abs.ensures.value in
    let parts = parts_of n d c.args.self c.self.invariant c.self.view_is in
    up_over_more _ d _ _ c.self.invariant.some c.divide-whole.ensures.whole c.divide-whole.ensures.rest c.if-rest-eq0.false
    ∙ ap₂ up_over (size ∙ ap unsigned_abs (sym parts.0)) (sym parts.1)
