-- Over trees no packet arrives twice at a server.
use Rattle.run_laws.specs.Routes.{server_at}
use Rattle.run_laws.specs.Views.{view}
use Rattle.run_laws.proofs.Classes.{output_from_delay}
use Rattle.net_laws.proofs.Once.{none_twice_by}
use Rattle.net_laws.proofs.Views.{views_lawful}
use Rattle.tree_runs.specs.Trees.{flat, next_servers}
use Rattle.tree_runs.specs.Laws.{TreeNoneArrivesTwice, TreeClassLeavesByDelay}
use Rattle.tree_runs.proofs.Trees.{spanned_by_trees}

pub tree_none_arrives_twice : TreeNoneArrivesTwice
tree_none_arrives_twice net run s lawful trees = none_twice_by (flat net) (next_servers net) run s lawful (spanned_by_trees net trees)

pub tree_class_leaves_by_delay : TreeClassLeavesByDelay
tree_class_leaves_by_delay net run s C queue α d a b lawful trees inside own keeps on most l =
    output_from_delay (server_at (flat net) s) run.end (view (flat net) run s) C queue α d a b
    (views_lawful (flat net) (next_servers net) run s lawful inside)
    (tree_none_arrives_twice net run s lawful trees) own keeps on most l
