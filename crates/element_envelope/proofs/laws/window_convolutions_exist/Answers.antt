use Rattle.element_envelope.proofs.FoundEnvelopes.{convolution_from, convolution_of}
use Rattle.element_envelope.proofs.laws.window_convolutions_exist.Goals as goal

pub returns-clause-from : goal.returns-clause-from
returns-clause-from c = convolution_from

pub returns-clause-windows : goal.returns-clause-windows
returns-clause-windows c = convolution_of
