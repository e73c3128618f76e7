use Rattle.std.proofs.Common.{◌+◌, length}
use Rattle.element_envelope.proofs.least.+envelope.Given as goal

abbrev pub decreases-envelope : goal.decreases-envelope
decreases-envelope l = length l.xs.now + length l.ys.now
