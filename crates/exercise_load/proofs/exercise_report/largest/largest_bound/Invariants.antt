use Rattle.std.proofs.Common.{◌≡◌}
use Rattle.std.specs.List.{flat_map, fold, range_with_len}
use Rattle.rational.specs.Extended.{max_ext}
use Rattle.rational.specs.declared.Extended.TheVariants.{Fin}
use Rattle.min_plus.specs.Functions.{zero_q}
use Rattle.exercise_load.specs.exercise_report.Largest.{bound_at}
use Rattle.exercise_load.proofs.exercise_report.largest.largest_bound.Given as goal

abbrev pub invariant-loop-number : goal.invariant-loop-number
invariant-loop-number g l =
    l.most ≡ fold max_ext (Fin zero_q) (flat_map (bound_at l.net (g.T.Table.at l.table)) (range_with_len 0 l.number))
