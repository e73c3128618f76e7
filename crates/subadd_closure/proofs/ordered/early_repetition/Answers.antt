use Rattle.std.proofs.Common.{subst}
use Rattle.subadd_closure.specs.Thinned.{MayThin}
use Rattle.subadd_closure.proofs.ordered.early_repetition.Goals as goal

pub thinned_repetition-requires-clause-thin : goal.thinned_repetition-requires-clause-thin
thinned_repetition-requires-clause-thin c = subst (λ b. MayThin b c.args.f.now c.args.g.now) c.if-thin.true c.requires.thin
