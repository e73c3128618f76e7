-- What is drawn for the flows of a workload. Own choice.
use Rattle.std.specs.Prelude.{ℕ, ◌+◌, ◌*◌, ◌%◌, ◌^◌, ◌==◌, List, map, if◌then◌else◌}
use Rattle.std.specs.List.{range_with_len}
use Rattle.exercise_load.specs.declared.drawn.DrawnFlow.{DrawnFlow}
use Rattle.exercise_load.specs.Draws.{state_after, draw}

-- from 1 to 4 servers on the way; a workload of an odd number has flows of one server alone, whatever is drawn
abbrev pub hops_of : ℕ → ℕ → ℕ
hops_of seed drawn = if seed % 2 == 0 then 1 + drawn else 1

-- the flow of a number, by the next five draws from a state: its first server, how many it passes, the bits of its
-- packets, the time between two of them, and its queue where there are two
abbrev pub drawn_from : ℕ → ℕ → ℕ → DrawnFlow
drawn_from seed number x = record {
  number = number;
  first = draw x 0 13;
  hops = hops_of seed (draw x 1 4);
  packet = 1000 * (1 + draw x 2 12);
  period = 8000 * 2 ^ draw x 3 3;
  queue = draw x 4 2;
}

-- the sequence starts at the workload's own number, and each flow goes on where the one before it ended
abbrev pub drawn_flow : ℕ → ℕ → DrawnFlow
drawn_flow seed number = drawn_from seed number (state_after seed (5 * number))

-- all 24
abbrev pub drawn_flows : ℕ → List DrawnFlow
drawn_flows seed = map (drawn_flow seed) (range_with_len 0 24)
