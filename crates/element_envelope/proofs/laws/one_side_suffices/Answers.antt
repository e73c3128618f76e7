use Rattle.element_envelope.proofs.OneSide.{one_side_suffices}
use Rattle.element_envelope.proofs.laws.one_side_suffices.Goals as goal

pub returns : goal.returns
returns c = one_side_suffices
