use Rattle.element_envelope.proofs.SumSteps.{sum_cuts_fit}
use Rattle.element_envelope.proofs.SumLower.{sum_lower_fits, sum_lower}
use Rattle.element_envelope.proofs.laws.sum_windows_have_a_lower.Goals as goal

pub returns : goal.returns
returns c = record { cuts = sum_cuts_fit; steps = sum_lower_fits; lower = sum_lower }
