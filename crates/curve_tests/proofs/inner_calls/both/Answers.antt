use Rattle.curve_call.proofs.Worked.{worked_cuts}
use Rattle.curve_tests.proofs.inner_calls.both.Goals as goal

pub overlay-requires-clause-fits : goal.overlay-requires-clause-fits
overlay-requires-clause-fits c = worked_cuts c.level.result c.ramp.result c.level.ensures c.ramp.ensures
