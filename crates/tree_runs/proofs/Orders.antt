-- Along an order without a cycle all flows keep their curves at every server of their trees.
use Rattle.std.proofs.Common.{sym, ◌∙◌}
use Rattle.net_laws.proofs.Orders.{kept_by}
use Rattle.tree_runs.specs.Trees.{flat, next_servers}
use Rattle.tree_runs.specs.Orders.{TreeKeptEverywhere}
use Rattle.tree_runs.proofs.Trees.{live_is, spanned_by_trees, hangs_where}

pub tree_kept_everywhere : TreeKeptEverywhere
tree_kept_everywhere net run place arrival lawful trees forward enters passes_on =
    kept_by (flat net) (next_servers net) run place arrival lawful (spanned_by_trees net trees)
    (λ i a b live l. let is_live = sym (live_is net i) ∙ live in forward i a b is_live (hangs_where net i a b (trees i is_live) l)) enters
    (λ server kept i next live l. let is_live = sym (live_is net i) ∙ live in passes_on server kept i next is_live (hangs_where net i server next (trees i is_live) l))
