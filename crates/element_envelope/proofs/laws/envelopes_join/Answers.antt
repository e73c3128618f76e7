use Rattle.element_envelope.proofs.Envelopes.{envelope_rules}
use Rattle.element_envelope.proofs.laws.envelopes_join.Goals as goal

pub returns : goal.returns
returns c = envelope_rules
