use Rattle.std.proofs.Common.{◌≡◌, take}
use Rattle.std.specs.List.{fold}
use Rattle.rational.specs.MinMax.{max_q}
use Rattle.min_plus.specs.Functions.{zero_q}
use Rattle.exercise_load.proofs.exercise_report.largest.largest_delay.Given as goal

abbrev pub invariant-loop-delay : goal.invariant-loop-delay
invariant-loop-delay l = l.most ≡ fold max_q zero_q (take l.delay-index l.delays)
