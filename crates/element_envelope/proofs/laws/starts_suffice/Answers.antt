use Rattle.element_envelope.proofs.StartSplits.{starts_suffice}
use Rattle.element_envelope.proofs.laws.starts_suffice.Goals as goal

pub returns : goal.returns
returns c = starts_suffice
