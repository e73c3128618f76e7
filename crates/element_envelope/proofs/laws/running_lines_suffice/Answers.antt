use Rattle.element_envelope.proofs.RunningLines.{running_suffices}
use Rattle.element_envelope.proofs.laws.running_lines_suffice.Goals as goal

pub returns : goal.returns
returns c = running_suffices
