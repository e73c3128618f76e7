use Rattle.std.proofs.Common.{length}
use Rattle.element_envelope.proofs.copies.+least_copies.Given as goal

abbrev pub decreases-least_copies : goal.decreases-least_copies
decreases-least_copies l = length l.starts.now
