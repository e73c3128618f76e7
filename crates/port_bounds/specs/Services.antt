-- The services that a queue gets, by its port's discipline: of a first in, first out port all of it; what priority leaves by each step of the
-- queues above; of a deficit round robin port its share, and what all other queues leave by each of their steps.
-- (Le Boudec and Thiran, residual service; Bouillard, Boyer and Le Corronc, deficit round robin.)
use Rattle.std.specs.Prelude.{Option, Some, None, ◌≡◌, ◌⊎◌, ◌+◌, ◌-◌, ◌*◌, ◌/◌, ◌<◌, ◌++◌, ℕ, List, All, Contains, get_or, sum}
use Rattle.std.specs.Int.{div_ceil}
use Rattle.arrival_lines.specs.Steps.{IsStep}
use Rattle.arrival_lines.specs.declared.grid.Line.{Line}
use Rattle.arrival_lines.specs.declared.grid.Part.{Part}
use Rattle.arrival_lines.specs.declared.grid.Service.{Service}
use Rattle.tree_network.specs.declared.network.Discipline.{Discipline}
use Rattle.tree_network.specs.declared.network.Discipline.TheVariants.{Fifo, Priority, Drr}
use Rattle.tree_network.specs.declared.network.Port.{Port}
use Rattle.port_bounds.specs.Ports.{port_service}
use Rattle.port_bounds.specs.Incoming.{Incoming, queue_in, joined_parts, longest_frame_of, longest_frames_of, before, behind}

-- what is left where at most a step of the parts is served first, and a frame of so many grains
pub record IsLeftBy (own : Service) (parts : List Part) (frame : ℕ) (left : Service) : Type 0 where
  pub line : Line
  pub step : IsStep parts line
  pub slower : line.rate < own.rate
  pub is : left ≡ record { rate = own.rate - line.rate; debt = own.debt + line.burst + frame }

-- where the parts are known
abbrev pub IsLeft : Service → Option (List Part) → ℕ → Service → Type 0
IsLeft own None frame left = ⊥
IsLeft own (Some parts) frame left = IsLeftBy own parts frame left

-- the share of a queue of a quantum Q and a longest frame l in bits, where all quanta are F and all longest frames Λ
abbrev pub round_robin_share : Service → (Q F l Λ : ℕ) → Service
round_robin_share own Q F l Λ = record {
  rate = own.rate * Q / F;
  debt = div_ceil (own.debt * Q + 1024 * (Q * (Λ - l) + (F - Q) * (Q + l))) F;
}

abbrev pub IsServiceAt : Discipline → Service → List Incoming → ℕ → Service → Type 0
IsServiceAt Fifo own queues q service = service ≡ own
IsServiceAt (Priority n) own queues q service =
    IsLeft own (joined_parts (before q queues)) (1024 * longest_frame_of (behind q queues)) service
IsServiceAt (Drr quanta) own queues q service =
    (service ≡ round_robin_share own (get_or quanta.items q 0) (sum quanta.items) (queue_in queues q).longest (longest_frames_of queues))
    ⊎ IsLeft own (joined_parts (before q queues ++ behind q queues)) 0 service

abbrev pub IsServiceOf : Port → List Incoming → ℕ → Service → Type 0
IsServiceOf port queues q service = IsServiceAt port.discipline (port_service port) queues q service

-- a list of all services of a kind
pub record AreAll (P : Service → Type 0) (services : List Service) : Type 0 where
  pub each : All P services
  pub every : (service : Service) → P service → Contains services service
