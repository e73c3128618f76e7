use Rattle.std.proofs.Common.{◌+◌, ◌*◌}
use Rattle.input_texts.proofs.curve_script.building.+curve.Given as goal

abbrev pub decreases-curve_at : goal.decreases-curve_at
decreases-curve_at l = 5 * l.deep

abbrev pub decreases-call_at : goal.decreases-call_at
decreases-call_at l = 5 * l.deep + 4

abbrev pub decreases-inside_at : goal.decreases-inside_at
decreases-inside_at l = 5 * l.deep + 3

abbrev pub decreases-one_at : goal.decreases-one_at
decreases-one_at l = 5 * l.deep + 2

abbrev pub decreases-with_number_at : goal.decreases-with_number_at
decreases-with_number_at l = 5 * l.deep + 2

abbrev pub decreases-two_at : goal.decreases-two_at
decreases-two_at l = 5 * l.deep + 2

abbrev pub decreases-curve_behind : goal.decreases-curve_behind
decreases-curve_behind l = 5 * l.deep + 1
