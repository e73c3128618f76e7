use Rattle.std.proofs.Common.{sym}
use Rattle.fraction128.proofs.Coprime.{gcd_with_one}
use Rattle.fraction128.proofs.division.short_divisor.Goals as goal

pub returns-then-a-eq1 : goal.returns-then-a-eq1
returns-then-a-eq1 c = sym (gcd_with_one c.args.a c.args.b c.then-a-eq1.either)
