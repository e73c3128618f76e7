use Rattle.std.proofs.Common.{◌≡◌, map, take}
use Rattle.document_tables.specs.Grids.{node_of}
use Rattle.document_tables.specs.Ports.{ports_view}
use Rattle.document_tables.proofs.grid.nodes_of.Given as goal

abbrev pub invariant-loop-place : goal.invariant-loop-place
invariant-loop-place l = l.nodes.items ≡ map (node_of (ports_view l.ports).ports l.priority l.tree.stops) (take l.place l.tree.stops)
