use Rattle.element_envelope.proofs.LimitSplits.{limits_suffice}
use Rattle.element_envelope.proofs.laws.limits_suffice.Goals as goal

pub returns : goal.returns
returns c = limits_suffice
