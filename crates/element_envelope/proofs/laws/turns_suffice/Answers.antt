use Rattle.element_envelope.proofs.StartTurns.{turns_suffice}
use Rattle.element_envelope.proofs.laws.turns_suffice.Goals as goal

pub returns : goal.returns
returns c = turns_suffice
