use Rattle.min_plus.proofs.DeviationSigns.{horizontals_are_nonnegative, verticals_are_nonnegative}
use Rattle.min_plus.proofs.deviations_are_nonnegative.Goals as goal

pub returns-clause-horizontal : goal.returns-clause-horizontal
returns-clause-horizontal c = horizontals_are_nonnegative

pub returns-clause-vertical : goal.returns-clause-vertical
returns-clause-vertical c = verticals_are_nonnegative
