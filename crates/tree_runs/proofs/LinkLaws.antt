-- A tree's links carry what leaves each server.
use Rattle.tree_runs.specs.Trees.{flat, next_servers}
use Rattle.tree_runs.specs.Laws.{TreeLinkCarries, TreeNextKeeps}
use Rattle.net_laws.proofs.Links.{arc_carries, arc_keeps}
use Rattle.tree_runs.proofs.Trees.{arc_of}

pub tree_link_carries : TreeLinkCarries
tree_link_carries net run flow a b t lawful tree hangs l =
    arc_carries (flat net) (next_servers net) run flow a b t lawful (arc_of net flow a b tree hangs) l

pub tree_next_keeps : TreeNextKeeps
tree_next_keeps net run flow a b out lawful tree hangs leaves_so =
    arc_keeps (flat net) (next_servers net) run flow a b out lawful (arc_of net flow a b tree hangs) leaves_so
