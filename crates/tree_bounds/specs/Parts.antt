-- Which groups can be made parts. Own choice.
use Rattle.std.specs.Prelude.{◌≡◌, ◌⊎◌, ◌≤◌, ◌^◌, true, false, length}
use Rattle.arrival_lines.specs.declared.grid.Part.{Part}
use Rattle.tree_network.specs.Networks.{longest_frame}
use Rattle.tree_network.specs.declared.network.Network.{Network}
use Rattle.tree_bounds.specs.Groups.{part_of}
use Rattle.tree_bounds.specs.declared.groups.Group.{Group}

-- of a source and with frames of the network
pub record IsOfNetwork (net : Network) (g : Group) : Type 0 where
  pub source : g.source ≤ length net.ports.items
  pub longest : g.longest ≤ longest_frame

-- one of its links has no line, or a number does not fit 64 bits
abbrev pub IsNoPart : Group → Type 0
IsNoPart g = (g.known ≡ false) ⊎ ((2 ^ 64 ≤ g.burst) ⊎ (2 ^ 64 ≤ g.rate))

pub record IsPartOf (net : Network) (g : Group) (part : Part) : Type 0 where
  pub is : part ≡ part_of net g
  pub known : g.known ≡ true
