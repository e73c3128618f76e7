use Rattle.curve_call.proofs.EverAfter.{ever_after}
use Rattle.curve_call.proofs.ever_after.below_ever_after.Goals as goal

pub returns : goal.returns
returns c = ever_after
