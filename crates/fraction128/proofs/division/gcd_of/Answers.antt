use Rattle.std.proofs.Common.{sym, ◌∙◌, ap}
use Rattle.rational.specs.Gcd.{gcd}
use Rattle.rational.specs.Euclid.{gcd-mod, gcd-zero}
use Rattle.fraction128.proofs.Coprime.{gcd_with_one, gcd_self}
use Rattle.fraction128.proofs.division.gcd_of.Goals as goal

pub loop-y-preserved : goal.loop-y-preserved
loop-y-preserved c = gcd-mod c.loop-y.x c.loop-y.y ∙ c.loop-y.invariant

pub returns-then-y-eq0 : goal.returns-then-y-eq0
returns-then-y-eq0 c = sym (gcd-zero c.loop-y.x) ∙ ap (gcd c.loop-y.x) (sym c.if-y-eq0.true) ∙ c.loop-y.invariant

pub returns : goal.returns
returns c =
    c.short_gcd.ensures ∙ ap (gcd c.loop-y.y) c.divide-rest.ensures.rest ∙ gcd-mod c.loop-y.x c.loop-y.y ∙ c.loop-y.invariant

pub returns-then-a-eq1 : goal.returns-then-a-eq1
returns-then-a-eq1 c = sym (gcd_with_one c.args.a c.args.b c.then-a-eq1.either)

pub returns-then-a-b : goal.returns-then-a-b
returns-then-a-b c = sym (ap (gcd c.args.a) (sym c.if-a-b.true) ∙ gcd_self c.args.a)
