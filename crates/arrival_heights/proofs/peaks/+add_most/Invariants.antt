use Rattle.std.proofs.Common.{length}
use Rattle.arrival_heights.proofs.peaks.+add_most.Given as goal

abbrev pub decreases-add_most : goal.decreases-add_most
decreases-add_most l = length l.rates.now
