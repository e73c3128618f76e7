-- What arrives at the queues of a port: bundles of stairs, none where nothing bounds them, and the longest frame; and the same by the lines of
-- these stairs.
use Rattle.std.specs.Prelude.{◌≡◌, ℕ, List, map, length, get_or, Option, Some, None}
use Rattle.std.specs.Option.{option_map}
use Rattle.arrival_stairs.specs.BelowLines.{line_parts}
use Rattle.arrival_stairs.specs.Stairs.{AreBundles}
use Rattle.arrival_stairs.specs.declared.stairs.Bundle.{Bundle}
use Rattle.port_bounds.specs.Incoming.{Incoming, incoming}
use Rattle.port_bounds.specs.Ranges.{AreInRange}
use Rattle.port_bounds.specs.declared.arrivals.Arrivals.{Arrivals}
use Rattle.port_bounds.specs.declared.stair_arrivals.StairArrivals.{StairArrivals}
use Rattle.tree_network.specs.Networks.{PortIsInRange, queues_of}
use Rattle.tree_network.specs.declared.network.Port.{Port}

pub record StairsIn : Type 0 where
  pub bundles : Option (List Bundle)
  -- in bits; 0 where no link has the queue
  pub longest : ℕ

abbrev pub stairs_of : StairArrivals → StairsIn
stairs_of a = record { bundles = option_map (λ v. v.items) a.bundles; longest = a.longest }

abbrev pub stairs_in : List StairArrivals → List StairsIn
stairs_in = map stairs_of

abbrev pub stairs_at : List StairsIn → ℕ → StairsIn
stairs_at queues q = get_or queues q record { bundles = None; longest = 0 }

-- by the lines
abbrev pub line_incoming : StairsIn → Incoming
line_incoming s = record { parts = option_map line_parts s.bundles; longest = s.longest }

abbrev pub line_incomings : List StairsIn → List Incoming
line_incomings = map line_incoming

pub record AreStairsInRange (queues : List StairsIn) : Type 0 where
  pub lines : AreInRange (line_incomings queues)
  pub stairs : (q : ℕ) (bundles : List Bundle) → (stairs_at queues q).bundles ≡ Some bundles → AreBundles bundles

-- what arrives at the queues of this port, and the same by the lines
pub record ArriveAt (port : Port) (queues : List StairArrivals) (by_lines : List Arrivals) : Type 0 where
  pub meant : PortIsInRange port
  pub count : length queues ≡ queues_of port.discipline
  pub range : AreStairsInRange (stairs_in queues)
  pub lines : incoming by_lines ≡ line_incomings (stairs_in queues)
  pub same : length by_lines ≡ length queues
