-- Nodes whose numbers are short.
use Rattle.std.specs.Prelude.{◌≡◌, ◌<◌, ◌^◌, ℕ, List, Some, IfSome, slice_get}
use Rattle.tree_network.specs.declared.network.Node.{Node}
use Rattle.document_rows.specs.PortRows.{PortText}
use Rattle.document_tables.specs.declared.links.LinkKeys.{LinkKeys}
use Rattle.document_tables.specs.declared.trees.Tree.{Tree}
use Rattle.document_tables.specs.Grids.{node_of}
use Rattle.document_tables.specs.Stops.{Stop}

pub record IsShort (node : Node) : Type 0 where
  pub port : node.port < 2 ^ 16
  pub queue : node.queue < 2 ^ 8
  pub from : IfSome node.from (λ place. place < 2 ^ 16)

-- the nodes of a tree
abbrev pub HasShortNodes : List PortText → (priority : ℕ) → List Stop → Type 0
HasShortNodes ports priority stops = (place : ℕ) (stop : Stop) → slice_get stops place ≡ Some stop → IsShort (node_of ports priority stops stop)

-- those of the trees of links with these keys
abbrev pub HaveShortNodes : List PortText → List LinkKeys → List Tree → Type 0
HaveShortNodes ports keys trees =
    (k : ℕ) (key : LinkKeys) (tree : Tree) → slice_get keys k ≡ Some key → slice_get trees k ≡ Some tree → HasShortNodes ports key.priority tree.stops
