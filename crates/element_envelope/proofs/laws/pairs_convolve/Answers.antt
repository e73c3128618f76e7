use Rattle.element_envelope.proofs.Windows.{windows_convolve, curves_convolve}
use Rattle.element_envelope.proofs.laws.pairs_convolve.Goals as goal

pub returns : goal.returns
returns c = record { windows = windows_convolve; curves = curves_convolve }
