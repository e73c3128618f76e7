use Rattle.std.specs.Prelude.{◌-◌, ◌^◌}
use Rattle.curve_deviation.proofs.Searching.{IsWidth}
use Rattle.curve_deviation.proofs.search.width_of.Given as goal

abbrev pub invariant-loop-width : goal.invariant-loop-width
invariant-loop-width l = IsWidth l.width

abbrev pub decreases-loop-width : goal.decreases-loop-width
decreases-loop-width l = 2 ^ 116 - l.width
