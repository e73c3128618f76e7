-- A tree in which no server has two next ones is a path, and the runs over such trees are the runs over these paths.
use Rattle.std.specs.Prelude.{Option, Some, None, ◌≡◌, ◌≤◌, ℕ, true, List, [], ◌∷◌, length, map}
use Rattle.run_laws.specs.Runs.{SpecRun}
use Rattle.run_laws.specs.Routes.{Hop, Route, Routes}
use Rattle.run_laws.specs.Lawful.{IsLawful}
use Rattle.net_laws.specs.Once.{IsOverPaths}
use Rattle.tree_runs.specs.Trees.{Node, Tree, TreeRoutes, tree_of, next_servers, flat, IsOverTrees, IsLawfulTree}

-- no server of a live flow has two next ones
abbrev pub IsUnbranched : TreeRoutes → Type 0
IsUnbranched net = (i s : ℕ) → (tree_of net i).live ≡ true → length (next_servers net i s) ≤ 1

-- a run is lawful over such trees where it is lawful over the paths of their servers, and only there
pub record SameRuns (net : TreeRoutes) (run : SpecRun) : Type 0 where
  pub of_path : IsLawful (flat net) run → IsLawfulTree net run
  pub of_tree : IsLawfulTree net run → IsLawful (flat net) run

abbrev pub UnbranchedTreesArePaths : Type 0
UnbranchedTreesArePaths = (net : TreeRoutes) (run : SpecRun) → IsOverTrees net → IsUnbranched net →
    IsOverPaths (flat net) × SameRuns net run

-- ---- and each path is such a tree
abbrev pub chain : Option ℕ → List Hop → List Node
chain from [] = []
chain from (h ∷ hs) = record { server = h.server; queue = h.queue; from = from } ∷ chain (Some h.server) hs

abbrev pub tree_of_path : Route → Tree
tree_of_path r = record { live = r.live; nodes = chain None r.hops }

abbrev pub trees_of_paths : Routes → TreeRoutes
trees_of_paths net = record { servers = net.servers; links = net.links; flows = map tree_of_path net.flows }

pub record ArePathsAsTrees (net : Routes) : Type 0 where
  pub same : flat (trees_of_paths net) ≡ net
  pub trees : IsOverTrees (trees_of_paths net)
  pub unbranched : IsUnbranched (trees_of_paths net)

abbrev pub PathsAreTrees : Type 0
PathsAreTrees = (net : Routes) → IsOverPaths net → ArePathsAsTrees net
