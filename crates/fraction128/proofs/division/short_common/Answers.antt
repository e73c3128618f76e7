use Rattle.std.proofs.Common.{sym, ◌∙◌, ap}
use Rattle.rational.specs.Gcd.{gcd}
use Rattle.fraction128.proofs.Coprime.{gcd_self}
use Rattle.fraction128.proofs.division.short_common.Goals as goal

pub returns-then-a-b : goal.returns-then-a-b
returns-then-a-b c = sym (ap (gcd c.args.a) (sym c.if-a-b.true) ∙ gcd_self c.args.a)
