-- Which arrivals are meant: frames of some MiB, and bursts and rates that can be added. Own choice.
use Rattle.std.specs.Prelude.{Option, Some, None, ◌≤◌, ◌<◌, ◌^◌, ℕ, List, All, length}
use Rattle.std.specs.List.{sum_by}
use Rattle.arrival_lines.specs.Steps.{most_burst, most_rate}
use Rattle.arrival_lines.specs.declared.grid.Part.{Part}
use Rattle.tree_network.specs.Networks.{longest_frame}
use Rattle.port_bounds.specs.Incoming.{Incoming}

-- the sum of a number of each part, where they are known
abbrev pub sum_of : (Part → ℕ) → Option (List Part) → ℕ
sum_of f None = 0
sum_of f (Some parts) = sum_by f parts

pub record AreInRange (queues : List Incoming) : Type 0 where
  pub few : length queues ≤ 8
  pub longest : All (λ queue. queue.longest ≤ longest_frame) queues
  -- the greater bursts and the greater rates of all parts' lines together
  pub bursts : sum_by (λ queue. sum_of most_burst queue.parts) queues < 2 ^ 62
  pub rates : sum_by (λ queue. sum_of most_rate queue.parts) queues < 2 ^ 64
