use Rattle.std.proofs.Common.{◌≡◌, ◌++◌, drop}
use Rattle.std.specs.Prelude.{map}
use Rattle.measure_curve.specs.Staircases.{piece_of}
use Rattle.measure_curve.proofs.staircase.pieces_of.Given as goal

-- what is made, and what is made of those that are left, is all
abbrev pub invariant-loop-step : goal.invariant-loop-step
invariant-loop-step l = l.pieces.items ++ map (piece_of l.grid) (drop l.step-index l.steps) ≡ map (piece_of l.grid) l.steps
