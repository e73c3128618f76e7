-- No packet takes longer along a branch than its hops and its service promise.
use Rattle.std.specs.Prelude.{None, [], ◌∷◌}
use Rattle.net_laws.proofs.Ends.{delays_along, delays_by_service}
use Rattle.tree_runs.specs.Trees.{flat, next_servers}
use Rattle.tree_runs.specs.Branches.{BranchDelayFromHops, BranchDelayFromService}
use Rattle.tree_runs.proofs.Trees.{walk_of_branch, branch_first}

pub branch_delay_from_hops : BranchDelayFromHops
branch_delay_from_hops net run i [] stays lawful tree branch most = absurd branch
branch_delay_from_hops net run i (h ∷ hs) stays lawful tree branch most =
    delays_along (flat net) (next_servers net) run i h hs stays lawful (branch_first net i h.server tree branch.0 branch.1)
    (walk_of_branch net i None (h ∷ hs) tree branch) most

pub branch_delay_from_service : BranchDelayFromService
branch_delay_from_service net run i [] α γ delay curves lawful tree branch keeps serves within rises dev = absurd branch
branch_delay_from_service net run i (h ∷ hs) α γ delay curves lawful tree branch keeps serves within rises dev =
    delays_by_service (flat net) (next_servers net) run i h hs α γ delay curves lawful (branch_first net i h.server tree branch.0 branch.1)
    (walk_of_branch net i None (h ∷ hs) tree branch) keeps serves within rises dev
