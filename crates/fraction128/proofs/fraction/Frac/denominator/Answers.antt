use Rattle.std.proofs.Common.{sym}
use Rattle.fraction128.proofs.Values.{parts_of}
use Rattle.fraction128.proofs.fraction.Frac.denominator.Goals as goal

pub returns-clause-value : goal.returns-clause-value
returns-clause-value c = sym (parts_of _ _ c.args.self.now c.self.invariant c.self.view_is).1
