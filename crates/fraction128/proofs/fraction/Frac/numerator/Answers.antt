use Rattle.std.proofs.Common.{◌∙◌, sym, to_z-of_z}
use Rattle.fraction128.proofs.Values.{num_fits, parts_of}
use Rattle.fraction128.proofs.fraction.Frac.numerator.Goals as goal

pub returns-clause-value : goal.returns-clause-value
returns-clause-value c = to_z-of_z (num_fits c.self.invariant) ∙ sym (parts_of _ _ c.args.self.now c.self.invariant c.self.view_is).0
