use Rattle.std.proofs.Common.{◌≡◌, take}
use Rattle.std.specs.List.{sum_by}
use Rattle.arrival_heights.specs.Heights.{part_height}
use Rattle.arrival_heights.proofs.heights.grains_at.Given as goal

abbrev pub invariant-loop-part : goal.invariant-loop-part
invariant-loop-part l = l.all ≡ sum_by (part_height l.at.over l.at.under) (take l.part-index l.parts)
