-- A server of a network of trees sees lawful views.
use Rattle.net_laws.proofs.Views.{views_lawful}
use Rattle.tree_runs.specs.Trees.{flat, next_servers}
use Rattle.tree_runs.specs.Laws.{TreeViewsAreLawful}

pub tree_views_are_lawful : TreeViewsAreLawful
tree_views_are_lawful net run s lawful known = views_lawful (flat net) (next_servers net) run s lawful known
