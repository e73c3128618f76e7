use Rattle.element_envelope.proofs.FoundPairs.{pair_of}
use Rattle.element_envelope.proofs.FoundEnvelopes.{envelope_of}
use Rattle.element_envelope.proofs.laws.envelopes_exist.Goals as goal

pub returns-clause-pairs : goal.returns-clause-pairs
returns-clause-pairs c = pair_of

pub returns-clause-lists : goal.returns-clause-lists
returns-clause-lists c = envelope_of
