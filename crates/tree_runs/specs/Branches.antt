-- The delay of a packet from where it enters to the end of the link behind one server of its flow's tree.
use Rattle.std.specs.Prelude.{Option, Some, None, ◌≡◌, ℕ, List, [], ◌∷◌}
use Rattle.rational.specs.Rational.{ℚ}
use Rattle.rational.specs.Extended.{Ext, ◌+ₑ◌}
use Rattle.run_laws.specs.Runs.{SpecRun}
use Rattle.run_laws.specs.Delays.{AreAtMost}
use Rattle.run_laws.specs.Routes.{Hop, PassesServer, first_server, last_server}
use Rattle.net_laws.specs.Paths.{StaysAtMost, sum_along, IsServedAlong, IsWithinSplits, links_along}
use Rattle.rational.specs.declared.Extended.TheVariants.{Fin}
use Rattle.min_plus.specs.Functions.{IsRising}
use Rattle.min_plus.specs.Deviations.{IsHorizontalDeviation}
use Rattle.run_laws.specs.Cards.{of_flow}
use Rattle.run_laws.specs.Premises.{KeepsArrivals}
use Rattle.run_laws.specs.Views.{view}
use Rattle.net_laws.specs.Multicast.{delays_to_from}
use Rattle.tree_runs.specs.Trees.{Node, TreeRoutes, tree_of, hops_in, tree_server_before, IsTree, flat, IsLawfulTree}

-- when each packet of flow i has left server s and passed its link, less when it entered
abbrev pub delays_to : TreeRoutes → SpecRun → ℕ → ℕ → List ℚ
delays_to net run flow s = delays_to_from (flat net) flow s run.end run.steps

-- ---- branches
-- servers of a tree, the first of which hangs on `from`, and each other one on the one before it
abbrev pub GoesOn : List Node → Option ℕ → List Hop → Type 0
GoesOn nodes from [] = Unit {0}
GoesOn nodes from (h ∷ hs) =
    PassesServer h.server (hops_in nodes) × (tree_server_before h.server nodes ≡ from) × GoesOn nodes (Some h.server) hs

-- from the first server on
abbrev pub IsBranch : TreeRoutes → ℕ → List Hop → Type 0
IsBranch net i [] = ⊥
IsBranch net i (h ∷ hs) = GoesOn (tree_of net i).nodes None (h ∷ hs)

-- no packet takes longer to the end of the link behind the last server of a branch than the sum of its flow's delays at
-- the branch's servers and of their links; a packet that is still inside at the end too
abbrev pub BranchDelayFromHops : Type 0
BranchDelayFromHops = (net : TreeRoutes) (run : SpecRun) (i : ℕ) (hs : List Hop) (stays : List Ext) →
    IsLawfulTree net run → IsTree net i → IsBranch net i hs → StaysAtMost (flat net) run i hs stays →
    AreAtMost (sum_along (flat net) hs stays) (delays_to net run i (last_server hs))

-- nor than the horizontal deviation of its curve and the branch's service, and the branch's links: bursts are paid once
abbrev pub BranchDelayFromService : Type 0
BranchDelayFromService = (net : TreeRoutes) (run : SpecRun) (i : ℕ) (hs : List Hop) (α γ : ℚ → Ext) (delay : Ext)
    (curves : List (ℚ → Ext)) →
    IsLawfulTree net run → IsTree net i → IsBranch net i hs →
    KeepsArrivals (of_flow i) α (view (flat net) run (first_server hs)) →
    IsServedAlong (flat net) run i hs curves → IsWithinSplits γ curves → IsRising γ → IsHorizontalDeviation α γ delay →
    AreAtMost (delay +ₑ Fin (links_along (flat net) hs)) (delays_to net run i (last_server hs))
