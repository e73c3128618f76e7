use Rattle.curve_call.proofs.Worked.{level_first, ramp_first, worked_cuts, worked_sums}
use Rattle.curve_tests.proofs.inner_calls.window.Goals as goal

pub window_sum-requires-clause-cuts : goal.window_sum-requires-clause-cuts
window_sum-requires-clause-cuts c = worked_cuts c.level-level.result c.ramp-ramp.result c.level-level.ensures c.ramp-ramp.ensures

pub window_sum-requires-clause-sums : goal.window_sum-requires-clause-sums
window_sum-requires-clause-sums c = worked_sums c.level-level.result c.ramp-ramp.result c.level-level.ensures c.ramp-ramp.ensures

pub window_min-requires : goal.window_min-requires
window_min-requires c = level_first c.from_whole-end.result c.level-level.result c.ramp-ramp.result c.from_whole-end.ensures c.level-level.ensures c.ramp-ramp.ensures

pub window_max-requires : goal.window_max-requires
window_max-requires c = level_first c.from_whole-end.result c.level-level.result c.ramp-ramp.result c.from_whole-end.ensures c.level-level.ensures c.ramp-ramp.ensures

pub window_excess-requires : goal.window_excess-requires
window_excess-requires c = level_first c.from_whole-end.result c.level-level.result c.ramp-ramp.result c.from_whole-end.ensures c.level-level.ensures c.ramp-ramp.ensures

pub window_excess-requires-in-RampAboveLevel : goal.window_excess-requires-in-RampAboveLevel
window_excess-requires-in-RampAboveLevel c = ramp_first c.from_whole-end.result c.ramp-ramp.result c.level-level.result c.from_whole-end.ensures c.ramp-ramp.ensures c.level-level.ensures
