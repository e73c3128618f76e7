use Rattle.std.proofs.Common.{subst}
use Rattle.rational.proofs.Laws.{le_of_lt}
use Rattle.curve_library.specs.Listed.{HasLength}
use Rattle.curve_library.proofs.texts.starts_below.Goals as goal

pub are_before-requires-clause-period : goal.are_before-requires-clause-period
are_before-requires-clause-period c = le_of_lt (subst HasLength c.in-Some.is c.requires.length)
