use Rattle.arrival_stairs.proofs.UnderLines.{bundles_below_lines}
use Rattle.arrival_stairs.proofs.excess.bundles_below_lines.Goals as goal

pub returns : goal.returns
returns c = bundles_below_lines
