use Rattle.std.proofs.Common.{◌≡◌, ◌*◌, map}
use Rattle.std.specs.List.{range_with_len}
use Rattle.exercise_load.specs.Draws.{state_after}
use Rattle.exercise_load.specs.Drawn.{drawn_flow}
use Rattle.exercise_load.proofs.drawn.drawn_flows.Given as goal

abbrev pub invariant-loop-number : goal.invariant-loop-number
invariant-loop-number l = record {
  drawn : l.flows.items ≡ map (drawn_flow l.seed) (range_with_len 0 l.number);
  state : l.draws.state ≡ state_after l.seed (5 * l.number);
}
