use Rattle.std.proofs.Common.{sym, ◌∙◌, ap}
use Rattle.rational.specs.Gcd.{gcd}
use Rattle.rational.specs.Euclid.{gcd-mod, gcd-zero}
use Rattle.fraction128.proofs.division.short_gcd.Goals as goal

pub loop-y-preserved : goal.loop-y-preserved
loop-y-preserved c = gcd-mod c.loop-y.x c.loop-y.y ∙ c.loop-y.invariant

pub returns : goal.returns
returns c = sym (gcd-zero c.loop-y.x) ∙ ap (gcd c.loop-y.x) (sym c.loop-y-test.false) ∙ c.loop-y.invariant
