use Rattle.std.proofs.Common.{◌≡◌, ◌∙◌, ap, ap₂, sym, SFits, to_z-of_z, unsigned_abs}
use mir.Syntax.{w128}
use Rattle.rational.specs.Gauge.{up_over, size_up}
use Rattle.fraction128.proofs.Values.{num_fits, parts_of}
use Rattle.fraction128.proofs.Rounded.{up_over_one}
use Rattle.fraction128.proofs.fraction.Frac.size_up.Goals as goal

pub returns-then-self-eq1 : goal.returns-then-self-eq1
unfolding size_up
returns-then-self-eq1 c =
    let n = c.self.inside.num in let d = c.self.inside.den in
    let fn : SFits w128 n = num_fits c.self.invariant in
    let size : c.unsigned_abs.result ≡ unsigned_abs n = simp to_z-of_z at c.unsigned_abs.ensures.value in
    let parts = parts_of n d c.args.self c.self.invariant c.self.view_is in
    up_over_one _ d c.if-self-eq1.true ∙ ap₂ up_over (size ∙ ap unsigned_abs (sym parts.0)) (sym parts.1)
