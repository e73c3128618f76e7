use Rattle.std.proofs.Common.{◌≡◌, take}
use Rattle.arrival_heights.specs.Heights.{most_ahead}
use Rattle.arrival_heights.proofs.heights.greatest_ahead.Given as goal

abbrev pub invariant-loop-height : goal.invariant-loop-height
invariant-loop-height l = l.most ≡ most_ahead l.rate (take l.height-index l.heights)
